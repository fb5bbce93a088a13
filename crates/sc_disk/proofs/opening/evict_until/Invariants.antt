use Rattle.std.proofs.Common.{ℕ, ◌≡◌, length}
use Rattle.sc_disk.specs.Opening.{Drops}
use Rattle.sc_disk.specs.Store.{Needed}
use Rattle.sc_disk.proofs.opening.evict_until.Given as goal

abbrev pub invariant-loop-disk : goal.invariant-loop-disk
invariant-loop-disk g l = record {
  drops : (n : ℕ) × Drops n l.initial.index.entries l.index.entries (g.D.Disk.state l.initial.disk) (g.D.Disk.state l.disk) × Needed l.limit n l.initial.index.entries;
  capacity : l.index.capacity ≡ l.initial.index.capacity;
}

abbrev pub decreases-loop-disk : goal.decreases-loop-disk
decreases-loop-disk g l = length l.index.entries
