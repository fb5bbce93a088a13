use Rattle.std.proofs.Common.{◌≡◌, length}
use Rattle.sc_main_outside.specs.Around.{value_in}
use Rattle.sc_main_outside.proofs.surroundings.value_in.Given as goal

abbrev pub invariant-loop-left : goal.invariant-loop-left
invariant-loop-left l = value_in l.fn.name l.left ≡ value_in l.fn.name l.fn.variables

abbrev pub decreases-loop-left : goal.decreases-loop-left
decreases-loop-left l = length l.left
