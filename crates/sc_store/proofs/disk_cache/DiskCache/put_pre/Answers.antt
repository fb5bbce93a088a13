use Rattle.std.proofs.Common.{IfOk, subst}
use Rattle.sc_store_disk.specs.DiskStores.{held_disk}
use Rattle.sc_store_disk.specs.Preprocessor.{PutsPre}
use Rattle.sc_store.specs.Held.{HeldLevel, disk_of}
use Rattle.sc_store.proofs.disk_cache.DiskCache.put_pre.Goals as goal

pub returns-clause-put : goal.returns-clause-put
returns-clause-put g c =
    subst (λ (h : HeldLevel). IfOk c.put_pre.result (λ how. PutsPre c.args.policy.now c.args.key.now c.args.bytes.now how (disk_of h) (held_disk c.put_pre.new.self))) c.self.view_is c.put_pre.ensures.put
