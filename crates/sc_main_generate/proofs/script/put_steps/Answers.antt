use Rattle.sc_main_generate.proofs.Appending.{steps_on}
use Rattle.sc_main_generate.proofs.script.put_steps.Goals as goal

pub loop-left-preserved : goal.loop-left-preserved
loop-left-preserved c =
    (steps_on c.loop-left.text c.put_step.new.text _ c.loop-left.left c.loop-left.state c.next-state.result c.drawn.result c.loop-left-test.true c.next-state.ensures.value c.drawn.ensures c.loop-left.invariant.0 c.in_ok-put_step.ensures, c.next-state.ensures.small)
