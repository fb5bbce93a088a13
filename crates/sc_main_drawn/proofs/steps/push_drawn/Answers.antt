use Rattle.sc_main_drawn.proofs.Drawing.{steps_on}
use Rattle.sc_main_drawn.proofs.steps.push_drawn.Goals as goal

pub loop-left-preserved : goal.loop-left-preserved
loop-left-preserved c =
    (steps_on c.loop-left.steps c.push.new.self _ _ c.loop-left.left c.loop-left.state c.next-state.result c.drawn.result c.loop-left-test.true c.next-state.ensures.value c.drawn.ensures c.loop-left.invariant.0 c.step_of.ensures c.in_ok-push.ensures.ok, c.next-state.ensures.small)
