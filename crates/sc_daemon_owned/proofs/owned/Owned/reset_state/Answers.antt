use Rattle.std.proofs.Common.{ap, refl}
use Rattle.sc_model.specs.declared.event.Verdict.TheVariants.{Http}
use Rattle.sc_model.specs.declared.event.What.TheVariants.{Outcome}
use Rattle.sc_daemon_owned.proofs.Distributing.{reset_state}
use Rattle.sc_daemon_owned.proofs.Steps.{still}
use Rattle.sc_daemon_owned.specs.State.{told_by}
use Rattle.sc_daemon_owned.proofs.Staying.{config_stays, facts_stay}
use Rattle.sc_daemon_owned.proofs.owned.Owned.reset_state.Goals as goal

pub returns-clause-moves : goal.returns-clause-moves
returns-clause-moves g c n task =
    let m = reset_state _ c.args.self.now n task c.reset_state.new.self c.self.view_is c.reset_state.ensures in
    let s = still _ c.args.self.now (Outcome Http task) _ c.self.view_is tt refl in
    (m.0, m.1, s.0, s.1, config_stays _ c.args.self.now _ c.self.view_is (facts_stay c.self.inside.levels c.self.inside.levels _ _ _ _ _ _ _ _ c.self.inside.dist c.reset_state.new.self refl refl refl refl refl (ap told_by c.reset_state.ensures)))
