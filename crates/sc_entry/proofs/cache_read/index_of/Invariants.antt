use Rattle.sc_entry.proofs.Holding.{HeldSoFar}
use Rattle.sc_entry.proofs.cache_read.index_of.Given as goal

abbrev pub invariant-loop-left : goal.invariant-loop-left
invariant-loop-left l = HeldSoFar l.bytes l.left l.reader l.index

abbrev pub decreases-loop-left : goal.decreases-loop-left
decreases-loop-left l = l.left
