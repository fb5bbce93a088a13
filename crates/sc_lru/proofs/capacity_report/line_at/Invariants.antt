use Rattle.std.proofs.Common.{◌≡◌, ◌+◌, ◌≤◌, drop, length}
use Rattle.sc_lru.specs.DryRun.{dry_line, shown}
use Rattle.sc_lru.proofs.DryRuns.{dry}
use Rattle.sc_lru.proofs.capacity_report.line_at.Given as goal

abbrev pub invariant-loop-one : goal.invariant-loop-one
invariant-loop-one g l = record {
  counts : dry g.K.PartialEq.eq l.capacity (shown l.sizes.entries) l.line (drop l.one-index l.uses) ≡ dry_line g.K.PartialEq.eq l.uses l.capacity;
  capacity : l.sizes.capacity ≡ l.capacity;
  hits : l.line.hits ≤ l.one-index;
  misses : l.line.misses ≤ l.one-index;
  evicted : l.line.evicted + length l.sizes.entries ≤ l.one-index;
  too_large : l.line.too_large ≤ l.one-index;
}
