use Rattle.std.proofs.Common.{ap, subst}
use Rattle.sc_disk.specs.Store.{AreKeys, temporary_of}
use Rattle.sc_disk.proofs.Sizes.{size-evicted}
use Rattle.sc_disk.proofs.Temporaries.{temporary_is}
use Rattle.sc_disk.proofs.lru_disk_cache.LruDiskCache.make_room.Goals as goal

pub returns-clause-size : goal.returns-clause-size
returns-clause-size g c = let old = c.args.self.now in let e = c.evict_to.ensures.evicts in
    size-evicted old.disk c.evict_to.new.self.disk (temporary_of c.args.entry.now) c.args.size e.0 old.index (temporary_is c.args.entry.now.divided c.args.entry.now.key c.args.entry.now.number) (subst AreKeys (ap (λ w. w.index) c.self.view_is) c.self.invariant.keys) e.1.disk c.requires
