use Rattle.std.proofs.Common.{◌≡◌, Some, length}
use Rattle.sc_model.specs.World.{first_missing}
use Rattle.sc_model.proofs.collecting.first_missing.Given as goal

abbrev pub invariant-loop-left : goal.invariant-loop-left
invariant-loop-left l = first_missing (Some l.objects) l.left ≡ first_missing (Some l.objects) l.fn.outputs

abbrev pub decreases-loop-left : goal.decreases-loop-left
decreases-loop-left l = length l.left
