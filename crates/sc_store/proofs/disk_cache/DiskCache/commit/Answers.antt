use Rattle.std.proofs.Common.{subst}
use Rattle.sc_store_disk.specs.DiskStores.{held_disk}
use Rattle.sc_store_disk.specs.Entries.{ClosesEntry, IsOpenAt}
use Rattle.sc_store.specs.Held.{HeldLevel, disk_of}
use Rattle.sc_store.proofs.disk_cache.DiskCache.commit.Goals as goal

pub returns-clause-closed : goal.returns-clause-closed
returns-clause-closed g c =
    subst (λ (l : HeldLevel). IsOpenAt c.args.entry (disk_of l) → ClosesEntry c.args.entry.number (disk_of l) (held_disk c.commit.new.self)) c.self.view_is c.commit.ensures.closed
