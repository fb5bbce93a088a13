use Rattle.std.proofs.Common.{refl}
use Rattle.sc_daemon_action.proofs.Holding.{no_need}
use Rattle.sc_daemon.proofs.Writes.{puts}
use Rattle.sc_daemon_job.specs.Askers.{asker}
use Rattle.sc_model.specs.declared.message.Request.TheVariants.{ZeroStats}
use Rattle.sc_model.specs.declared.event.Mode.TheVariants.{Whole}
use Rattle.sc_model.specs.declared.event.What.TheVariants.{Wrote}
use Rattle.sc_daemon.proofs.write.Write.put.Goals as goal

pub returns-clause-goes : goal.returns-clause-goes
returns-clause-goes g c =
    puts (g.H.Hold.config c.args.hold.now) (g.H.Hold.rooms c.args.hold.now) (g.H.Hold.rooms c.write.new.self) _ c.args.self.now _ _ c.in_ok-written.written
    c.self.view_is c.requires.pending c.requires.fresh c.requires.remote (λ i. Wrote c.self.inside.level (c.in_ok-key.ensures i) (c.in_ok-bytes.ensures i) Whole c.self.inside.bytes.run c.in_ok-written.written) (g.met.H.Hold.still c.args.hold.now (asker c.args.since no_need ZeroStats) _ c.write.new.self (c.in_ok-written.ensures.moves no_need ZeroStats) tt) refl
