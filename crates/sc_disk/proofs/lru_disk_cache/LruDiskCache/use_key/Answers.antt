use Rattle.std.proofs.Common.{◌≡◌, true, is_some, bytes_eq, ap, rules}
use Rattle.std.specs.Map.{lookup}
use Rattle.sc_disk.proofs.Keeping.{Keeps-used}
use Rattle.sc_disk.proofs.Places.{held-key}
use Rattle.sc_disk.proofs.lru_disk_cache.LruDiskCache.use_key.Goals as goal

pub invariant_of-self : goal.invariant_of-self
invariant_of-self g c = let s = c.self.inside in let after = c.get.follows.lender-at-none in
    Keeps-used s.index.entries after.entries s.index.capacity after.capacity s.pending.slots s.held s.capacity (g.D.Disk.state s.disk) c.args.key.now c.len-distinct.ensures.distinct
    (ap (λ i. i.entries) c.get.follows.holds-at-none) (ap (λ i. i.capacity) c.get.follows.holds-at-none) c.self.invariant

pub returns-clause-held : goal.returns-clause-held
returns-clause-held g c = λ good found. let s = c.self.inside in let state = g.D.Disk.state in
    let there : is_some (lookup (bytes_eq c.args.key.now) s.index.entries) ≡ true = search rules in
    held-key (state s.disk) (state s.disk).divided s.index.entries s.pending.slots c.args.key.now good there c.self.invariant.files
