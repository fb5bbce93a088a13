use Rattle.sc_store_disk.specs.Marks.{Sweeps}
use Rattle.sc_store_disk.proofs.marks.Marks.sweep.Given as goal

-- what was swept so far
abbrev pub invariant-loop-at : goal.invariant-loop-at
invariant-loop-at g l = Sweeps l.fn.cache.store.index l.fn.keep l.fn.self l.self

abbrev pub decreases-loop-at : goal.decreases-loop-at
decreases-loop-at g l = l.at
