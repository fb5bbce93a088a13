use Rattle.std.proofs.Common.{length, nat_eq}
use Rattle.sc_lru.specs.IterMut.{rest, IsReady}
use Rattle.sc_lru_tests.proofs.tests.lends_every_value.Given as goal

abbrev pub invariant-loop-value : goal.invariant-loop-value
invariant-loop-value g l = IsReady nat_eq l.pairs

abbrev pub decreases-loop-value : goal.decreases-loop-value
decreases-loop-value g l = length (rest l.pairs)
