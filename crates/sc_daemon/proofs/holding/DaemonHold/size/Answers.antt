use Rattle.std.proofs.Common.{◌≡◌, [], refl, sym, subst}
use Rattle.sc_daemon.proofs.Moved.{moved_at}
use Rattle.sc_daemon.specs.Daemons.{Kept}
use Rattle.sc_daemon.specs.Moving.{KeptMoves}
use Rattle.sc_model.specs.Machine.{counters_at}
use Rattle.sc_model.specs.declared.event.Answer.TheVariants.{Size as SizeIs}
use Rattle.sc_model.specs.declared.event.Mode.TheVariants.{Size as Sizes}
use Rattle.sc_model.specs.declared.event.What.TheVariants.{Asked}
use Rattle.sc_daemon.proofs.holding.DaemonHold.size.Goals as goal

pub returns-clause-moves : goal.returns-clause-moves
returns-clause-moves g c n =
    let i = c.self.inside in
    let d : Kept = record { state = i.owned; stats = i.stats; free = i.free; levels = i.levels.items; background = i.background; handed = i.handed } in
    let x = Asked c.args.level [] Sizes (SizeIs c.in_ok-size.size c.in_ok-counters.counters) [] in
    let owned = c.in_ok-size.ensures.moves n.need c.in_ok-counters.counters in
    subst (λ (e : Kept). KeptMoves e n x c.count.new.self) c.self.view_is
    (moved_at d c.count.new.self n x c.args.level c.new.result c.size.new.self refl (refl, refl, refl) (subst (λ (e : Kept). c.in_ok-counters.counters ≡ counters_at e.state.config.policy e.levels c.args.level) (sym c.self.view_is) c.in_ok-counters.ensures) owned c.new.ensures c.count.ensures.levels)
