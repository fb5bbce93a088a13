use Rattle.std.proofs.Common.{◌≡◌, ◌<◌, ◌++◌}
use Rattle.sc_main_drawn.specs.Drawn.{drawn_steps}
use Rattle.sc_main_drawn.proofs.steps.push_drawn.Given as goal

abbrev pub invariant-loop-left : goal.invariant-loop-left
invariant-loop-left l = (l.steps ++ drawn_steps l.left l.state ≡ l.fn.steps ++ drawn_steps l.fn.count l.fn.state) × (l.state < 2147483648)

abbrev pub decreases-loop-left : goal.decreases-loop-left
decreases-loop-left l = l.left
