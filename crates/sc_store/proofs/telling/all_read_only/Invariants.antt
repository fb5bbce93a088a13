use Rattle.std.proofs.Common.{◌≡◌, length}
use Rattle.sc_model.specs.Describing.{all_read_only}
use Rattle.sc_store.specs.Planning.{facts_of}
use Rattle.sc_store.proofs.telling.all_read_only.Given as goal

abbrev pub invariant-loop-left : goal.invariant-loop-left
invariant-loop-left g l = all_read_only (facts_of l.left) ≡ all_read_only (facts_of l.fn.levels)

abbrev pub decreases-loop-left : goal.decreases-loop-left
decreases-loop-left g l = length l.left
