use Rattle.std.proofs.Common.{ap, refl}
use Rattle.sc_model.specs.declared.event.What.TheVariants.{Dist}
use Rattle.sc_daemon_owned.proofs.Distributing.{distributed, good_dist}
use Rattle.sc_daemon_owned.proofs.Steps.{still}
use Rattle.sc_daemon_owned.specs.State.{told_by}
use Rattle.sc_daemon_owned.proofs.Staying.{config_stays, facts_stay}
use Rattle.sc_daemon_owned.proofs.owned.Owned.distribute.Goals as goal

pub returns-clause-moves : goal.returns-clause-moves
returns-clause-moves g c n keyed wants =
    let e = c.in_ok-answer.ensures in
    let m = distributed _ c.args.self.now n c.args.key.now c.args.outputs.now c.in_ok-answer.answer c.run.new.self c.self.view_is keyed wants e.jobs e.later e.cause e.answer in
    let s = still _ c.args.self.now (Dist c.in_ok-answer.answer) _ c.self.view_is tt refl in
    (m.0, m.1, s.0, s.1, config_stays _ c.args.self.now _ c.self.view_is (facts_stay c.self.inside.levels c.self.inside.levels _ _ _ _ _ _ _ _ c.self.inside.dist c.run.new.self refl refl refl refl refl (ap told_by e.jobs)))

pub returns-clause-good : goal.returns-clause-good
returns-clause-good g c = good_dist c.in_ok-answer.answer c.in_ok-answer.ensures.good
