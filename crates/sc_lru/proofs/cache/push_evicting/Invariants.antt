use Rattle.std.proofs.Common.{◌≡◌, ◌+◌, ◌≤◌, ◌∷◌, ◌++◌, [], length}
use Rattle.sc_lru.proofs.Evictions.{Left}
use Rattle.sc_lru.proofs.cache.push_evicting.Given as goal

abbrev pub invariant-loop-left : goal.invariant-loop-left
invariant-loop-left g l = record {
  left : Left (g.M.Meter.measure l.meter) l.limit l.fn.order.entries (l.fn.key, l.fn.value) l.size l.left l.order.entries;
  slots : l.size ≤ l.limit → l.order.slots ≡ l.fn.order.slots ++ l.fn.key ∷ [];
  spare : l.fn.order.spare ≤ l.order.spare + 1;
  hasher : l.order.hasher ≡ l.fn.order.hasher;
}

abbrev pub decreases-loop-left : goal.decreases-loop-left
decreases-loop-left g l = length l.order.entries
