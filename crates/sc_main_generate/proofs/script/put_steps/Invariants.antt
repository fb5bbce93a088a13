use Rattle.std.proofs.Common.{◌≡◌, ◌<◌, ◌++◌}
use Rattle.sc_main_generate.specs.Generated.{steps}
use Rattle.sc_main_generate.proofs.script.put_steps.Given as goal

abbrev pub invariant-loop-left : goal.invariant-loop-left
invariant-loop-left l = (l.text ++ steps l.left l.state ≡ l.fn.text ++ steps l.fn.count l.fn.state) × (l.state < 2147483648)

abbrev pub decreases-loop-left : goal.decreases-loop-left
decreases-loop-left l = l.left
