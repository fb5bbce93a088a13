use Rattle.std.proofs.Common.{◌≡◌, ◌++◌, length}
use Rattle.sc_model.specs.World.{placed_of}
use Rattle.sc_daemon_action.proofs.lookup.placed_outputs.Given as goal

abbrev pub invariant-loop-left : goal.invariant-loop-left
invariant-loop-left l = l.outputs ++ placed_of l.found.locally_preprocessed l.left ≡ placed_of l.found.locally_preprocessed l.found.outputs

abbrev pub decreases-loop-left : goal.decreases-loop-left
decreases-loop-left l = length l.left
