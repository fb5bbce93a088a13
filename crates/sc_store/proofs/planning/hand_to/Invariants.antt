use Rattle.std.proofs.Common.{◌≡◌, ◌++◌, length}
use Rattle.sc_model.specs.Plan as plans
use Rattle.sc_store.proofs.planning.hand_to.Given as goal

abbrev pub invariant-loop-level : goal.invariant-loop-level
invariant-loop-level l = l.handed ++ plans.hand_to l.bytes l.left ≡ plans.hand_to l.bytes l.fn.levels

abbrev pub decreases-loop-level : goal.decreases-loop-level
decreases-loop-level l = length l.left
