use Rattle.std.proofs.Common.{◌≡◌, ◌≤◌, length}
use Rattle.sc_lru.specs.LruCache.{suffix_within, total, KeepsParts}
use Rattle.sc_lru.proofs.cache.LruCache.evict_to.Given as goal

abbrev pub invariant-loop-self : goal.invariant-loop-self
invariant-loop-self g l = record {
  suffix : suffix_within (g.M.Meter.measure l.initial.self.meter) l.limit l.self.entries ≡ suffix_within (g.M.Meter.measure l.initial.self.meter) l.limit l.initial.self.entries;
  kept : total (g.M.Meter.measure l.initial.self.meter) l.initial.self.entries ≤ l.limit → l.self ≡ l.initial.self;
  room : l.initial.self.spare ≤ l.self.spare;
  parts : KeepsParts l.initial.self l.self;
}

abbrev pub decreases-loop-self : goal.decreases-loop-self
decreases-loop-self g l = length l.self.entries
