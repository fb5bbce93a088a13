use Rattle.std.proofs.Common.{◌≡◌, ◌+◌, ◌++◌, length}
use Rattle.sc_model.specs.Plan as plans
use Rattle.sc_store.specs.Planning.{facts_of, test_of}
use Rattle.sc_store.proofs.planning.levels_of.Given as goal

-- what was found is a front part; each level has a number
abbrev pub invariant-loop-left : goal.invariant-loop-left
invariant-loop-left g l =
    (l.found ++ plans.levels_of (test_of l.which) l.number l.policies (facts_of l.left) ≡ plans.levels_of (test_of l.which) 0 l.fn.policies (facts_of l.fn.levels))
    × (l.number + length l.left ≡ length l.fn.levels)

abbrev pub decreases-loop-left : goal.decreases-loop-left
decreases-loop-left g l = length l.left
