use Rattle.std.proofs.Common.{subst, ◌∷◌, [], sym, None}
use Rattle.slab.specs.Slab.{Slab, Updates}
use Rattle.sc_disk.specs.Disks.{DiskState, Does}
use Rattle.sc_disk.specs.Store.{temporary_of}
use Rattle.sc_disk.specs.declared.change.Change.TheVariants.{Gone}
use Rattle.sc_disk.specs.declared.pending.Pending.{Pending}
use Rattle.sc_disk.proofs.Tidying.{entry_path, tidy-discarded}
use Rattle.sc_disk.proofs.lru_disk_cache.LruDiskCache.abandon.Goals as goal

pub returns-clause-tidy : goal.returns-clause-tidy
returns-clause-tidy g c = λ h. let old = c.args.self.now in let new = c.discard.new.self in
    let k = c.close-pending.ensures in let d = c.in_ok-discard.ensures.ok in let e = c.args.entry in let p = c.close-pending.result in
    tidy-discarded old.pending new.pending old.disk new.disk e.number p (temporary_of e) [] (entry_path e p old c.close-pending.new.self k) k.was
    (subst (λ (p : Slab Pending). Updates old.pending p e.number None) (sym d.pending) k.closed.entry) tt
    (subst (λ (w : DiskState). Does (Gone (temporary_of e) ∷ []) w new.disk) k.disk d.disk) h
