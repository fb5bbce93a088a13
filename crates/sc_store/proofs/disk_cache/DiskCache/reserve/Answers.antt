use Rattle.std.proofs.Common.{IfOk, subst}
use Rattle.sc_store_disk.specs.DiskStores.{held_disk}
use Rattle.sc_store.specs.Asking.{ReservesDisk}
use Rattle.sc_store.specs.Held.{HeldLevel, disk_of}
use Rattle.sc_store.proofs.disk_cache.DiskCache.reserve.Goals as goal

pub returns-clause-moved : goal.returns-clause-moved
returns-clause-moved g c =
    subst (λ (h : HeldLevel). IfOk c.reserve.result (λ how. ReservesDisk c.args.policy.now c.args.key.now c.args.size how (disk_of h) (held_disk c.reserve.new.self))) c.self.view_is c.reserve.ensures.moved
