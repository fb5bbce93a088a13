use Rattle.std.proofs.Common.{refl}
use Rattle.sc_model.specs.declared.event.What.TheVariants.{Asked}
use Rattle.sc_daemon_owned.proofs.Steps.{still, asked}
use Rattle.sc_daemon_owned.proofs.Staying.{config_stays, facts_stay}
use Rattle.sc_daemon_owned.proofs.owned.Owned.ask.Goals as goal

pub returns-clause-moves : goal.returns-clause-moves
returns-clause-moves g c n =
    let m = asked _ c.args.self.now c.ask.new.self c.args.level c.args.key.now c.args.mode c.in_ok-answer.answer c.in_ok-handed.handed n
    c.self.view_is c.requires.path c.ask.ensures.told c.in_ok-answer.ensures.asked in
    let s = still _ c.args.self.now (Asked c.args.level c.args.key.now c.args.mode c.in_ok-answer.answer c.in_ok-handed.handed) c.ask.new.self.rooms c.self.view_is tt c.ask.ensures.rooms in
    (m.0, m.1, s.0, s.1, config_stays _ c.args.self.now _ c.self.view_is (facts_stay c.self.inside.levels c.ask.new.self _ _ _ _ _ _ _ _ c.self.inside.dist c.self.inside.dist c.ask.ensures.titles c.ask.ensures.facts c.ask.ensures.policy refl refl refl))
