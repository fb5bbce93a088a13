use Rattle.std.proofs.Common.{◌≡◌, ◌++◌, length}
use Rattle.sc_main_outside.specs.Around.{folders_of}
use Rattle.sc_main_outside.proofs.folders.folders_of.Given as goal

abbrev pub invariant-loop-part : goal.invariant-loop-part
invariant-loop-part l = l.folders ++ folders_of l.fn.cwd l.left ≡ folders_of l.fn.cwd l.fn.path

abbrev pub decreases-loop-part : goal.decreases-loop-part
decreases-loop-part l = length l.left
