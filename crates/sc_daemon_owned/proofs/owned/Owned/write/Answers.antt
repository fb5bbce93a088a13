use Rattle.std.proofs.Common.{refl}
use Rattle.sc_model.specs.declared.event.Mode.TheVariants.{Whole}
use Rattle.sc_model.specs.declared.event.What.TheVariants.{Wrote}
use Rattle.sc_daemon_owned.proofs.Steps.{still, wrote}
use Rattle.sc_daemon_owned.proofs.Staying.{config_stays, facts_stay}
use Rattle.sc_daemon_owned.proofs.owned.Owned.write.Goals as goal

pub returns-clause-moves : goal.returns-clause-moves
returns-clause-moves g c n =
    let m = wrote _ c.args.self.now c.put_step.new.self c.args.level c.args.bytes.now.key c.args.bytes.now.bytes c.args.bytes.now.run c.in_ok-written.written n
    c.self.view_is c.put_step.ensures.told c.in_ok-written.ensures.wrote in
    let s = still _ c.args.self.now (Wrote c.args.level c.args.bytes.now.key c.args.bytes.now.bytes Whole c.args.bytes.now.run c.in_ok-written.written) c.put_step.new.self.rooms c.self.view_is tt c.put_step.ensures.rooms in
    (m.0, m.1, s.0, s.1, config_stays _ c.args.self.now _ c.self.view_is (facts_stay c.self.inside.levels c.put_step.new.self _ _ _ _ _ _ _ _ c.self.inside.dist c.self.inside.dist c.put_step.ensures.titles c.put_step.ensures.facts c.put_step.ensures.policy refl refl refl))
