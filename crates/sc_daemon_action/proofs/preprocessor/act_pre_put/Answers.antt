use Rattle.std.proofs.Common.{ℕ, List, [], sym, subst}
use Rattle.std.specs.Prelude.{IfOk}
use Rattle.sc_daemon_action.specs.Acts.{Acts}
use Rattle.sc_daemon_action.specs.declared.acted.Acted.{Acted}
use Rattle.sc_daemon_job.specs.Askers.{asker}
use Rattle.sc_daemon_job.specs.Setups.{setup}
use Rattle.sc_daemon_job.specs.declared.since.Since.{Since}
use Rattle.sc_model.specs.Conns.{need_at}
use Rattle.sc_model.specs.declared.message.Request.{Request}
use Rattle.sc_model.specs.declared.message.Request.TheVariants.{StoragePutPreprocessorEntry as PutPre}
use Rattle.sc_model.specs.declared.phase.Phase.TheVariants.{PrePut}
use Rattle.sc_daemon_action.proofs.PreprocessorPuts.{for_puts, for_since}
use Rattle.sc_daemon_action.proofs.preprocessor.act_pre_put.Goals as goal

pub returns-in-Some-clause-acts : goal.returns-in-Some-clause-acts
returns-in-Some-clause-acts g c = subst (λ (ls : List ℕ). IfOk c.put_level.result (λ (a : Acted). (key put : List ℕ) → Acts (g.H.Hold.config c.args.hold.now) (PutPre key put) (PrePut c.args.bytes ls c.args.refusal) (g.H.Hold.moment c.put_level.new.hold) a)) (sym c.in-Some.ensures) c.put_level.ensures.acts

pub returns-in-None-clause-acts : goal.returns-in-None-clause-acts
returns-in-None-clause-acts g c = subst (λ (ls : List ℕ). IfOk c.end_put.result (λ (a : Acted). (key put : List ℕ) → Acts (g.H.Hold.config c.args.hold.now) (PutPre key put) (PrePut c.args.bytes ls c.args.refusal) (g.H.Hold.moment c.end_put.new.hold) a)) (sym (c.in-None.ensures.0))
    (for_puts (λ (a : Acted) (r : Request). Acts (g.H.Hold.config c.args.hold.now) r (PrePut c.args.bytes [] c.args.refusal) (g.H.Hold.moment c.end_put.new.hold) a) c.end_put.result c.end_put.ensures.acts)

pub returns-in-None-clause-moves : goal.returns-in-None-clause-moves
returns-in-None-clause-moves g c = subst (λ (ls : List ℕ). IfOk c.end_put.result (λ (a : Acted). (r : Request) → g.H.Hold.moves c.args.hold.now (asker c.args.since (need_at (setup (g.H.Hold.config c.args.hold.now)) r (PrePut c.args.bytes ls c.args.refusal)) r) a.what c.end_put.new.hold)) (sym (c.in-None.ensures.0))
    (for_since (λ (a : Acted) (r : Request) (since : Since). g.H.Hold.moves c.args.hold.now (asker since (need_at (setup (g.H.Hold.config c.args.hold.now)) r (PrePut c.args.bytes [] c.args.refusal)) r) a.what c.end_put.new.hold) c.end_put.result c.args.since c.end_put.ensures.moves)
