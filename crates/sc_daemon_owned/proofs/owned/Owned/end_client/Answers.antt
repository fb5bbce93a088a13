use Rattle.std.proofs.Common.{subst, sym}
use Rattle.sc_daemon_owned.specs.Moving.{OwnedMoves}
use Rattle.sc_model.specs.declared.event.Verdict.{Verdict}
use Rattle.sc_model.specs.declared.event.What.TheVariants.{Outcome}
use Rattle.sc_daemon_owned.proofs.owned.Owned.end_client.Goals as goal

pub returns-in-Http-clause-moves : goal.returns-in-Http-clause-moves
returns-in-Http-clause-moves g c n task = subst (λ (v : Verdict). OwnedMoves c.args.self.now n (Outcome v task) c.reset_state.new.self) (sym c.in-Http.is) (c.reset_state.ensures.moves n task)
