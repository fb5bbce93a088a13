use Rattle.sc_model.proofs.Goods.{good_answer}
use Rattle.std.proofs.Common.{refl}
use Rattle.sc_model.specs.declared.event.What.TheVariants.{Ran}
use Rattle.sc_daemon_owned.proofs.Steps.{still, ran}
use Rattle.sc_daemon_owned.proofs.Staying.{config_stays, facts_stay}
use Rattle.sc_daemon_owned.proofs.owned.Owned.run.Goals as goal

pub returns-clause-moves : goal.returns-clause-moves
returns-clause-moves g c n keyed wants =
    let e = c.in_ok-answer.ensures in
    let m = ran _ c.args.self.now n c.args.key.now c.args.outputs.now c.in_ok-answer.answer _ _ _
    c.self.view_is keyed wants e.runs e.placings e.later e.cause e.answer in
    let s = still _ c.args.self.now (Ran c.in_ok-answer.answer) _ c.self.view_is tt refl in
    (m.0, m.1, s.0, s.1, config_stays _ c.args.self.now _ c.self.view_is (facts_stay c.self.inside.levels c.self.inside.levels _ _ _ _ _ _ _ _ c.self.inside.dist c.self.inside.dist refl refl refl e.lines e.refusals refl))

pub returns-clause-good : goal.returns-clause-good
returns-clause-good g c = good_answer c.in_ok-answer.answer c.in_ok-answer.ensures.good
