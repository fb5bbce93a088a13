use Rattle.std.proofs.Common.{[], refl}
use Rattle.sc_model.specs.declared.event.Mode.TheVariants.{Size}
use Rattle.sc_model.specs.declared.event.What.TheVariants.{Asked}
use Rattle.sc_daemon_owned.proofs.Steps.{still, sized}
use Rattle.sc_daemon_owned.proofs.Staying.{config_stays, facts_stay}
use Rattle.sc_daemon_owned.proofs.owned.Owned.size.Goals as goal

pub returns-clause-moves : goal.returns-clause-moves
returns-clause-moves g c n counters =
    rw c.size_in.ensures
    (let m = sized _ c.args.self.now c.ask.new.self c.args.level c.new-none.result c.in_ok-answer.answer counters n
    c.self.view_is c.new-none.ensures c.ask.ensures.told c.in_ok-answer.ensures.asked in
    let s = still _ c.args.self.now (Asked c.args.level [] Size c.in_ok-answer.answer []) c.ask.new.self.rooms c.self.view_is tt c.ask.ensures.rooms in
    (m.0, m.1, s.0, s.1, config_stays _ c.args.self.now _ c.self.view_is (facts_stay c.self.inside.levels c.ask.new.self _ _ _ _ _ _ _ _ c.self.inside.dist c.self.inside.dist c.ask.ensures.titles c.ask.ensures.facts c.ask.ensures.policy refl refl refl)))
