use Rattle.std.proofs.Common.{◌≡◌, ℕ, ◌≤◌, length}
use Rattle.sc_entry.specs.Causes.{Rose}
use Rattle.sc_disk.specs.Store.{Evicts, Needed}
use Rattle.sc_disk.proofs.lru_disk_cache.LruDiskCache.evict_to.Given as goal

abbrev pub invariant-loop-self : goal.invariant-loop-self
invariant-loop-self g l = (n : ℕ) × Evicts n l.initial.self l.self × Needed l.limit n l.initial.self.index

abbrev pub decreases-loop-self : goal.decreases-loop-self
decreases-loop-self g l = length l.self.index
