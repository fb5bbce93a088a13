use Rattle.std.proofs.Common.{◌≡◌, length}
use Rattle.sc_store.specs.Planning.{facts_of}
use Rattle.sc_store.specs.Telling.{max_onto}
use Rattle.sc_store.proofs.telling.max_of.Given as goal

abbrev pub invariant-loop-left : goal.invariant-loop-left
invariant-loop-left g l = max_onto l.sum (facts_of l.left) ≡ max_onto 0 (facts_of l.fn.levels)

abbrev pub decreases-loop-left : goal.decreases-loop-left
decreases-loop-left g l = length l.left
