use Rattle.std.proofs.Common.{subst, sym, ◌∷◌, None}
use Rattle.slab.specs.Slab.{Slab, Updates}
use Rattle.sc_disk.specs.Disks.{DiskState, Does}
use Rattle.sc_disk.specs.Store.{gone, firsts, temporary_of}
use Rattle.sc_disk.specs.declared.change.Change.TheVariants.{Moved, Touched}
use Rattle.sc_disk.specs.declared.pending.Pending.{Pending}
use Rattle.sc_disk.proofs.Placing.{refused_commit}
use Rattle.sc_disk.proofs.Tidying.{entry_path, quiet-gone, tidy-moved}
use Rattle.sc_disk.proofs.lru_disk_cache.LruDiskCache.commit.Goals as goal

pub returns-in-Ok-clause-tidy : goal.returns-in-Ok-clause-tidy
returns-in-Ok-clause-tidy g c = λ h. let old = c.args.self.now in let mid = c.close-pending.new.self in let new = c.place.new.self in
    let k = c.close-pending.ensures in let p = c.in-Ok.ensures.ok in let e = c.args.entry in let n = p.1 in
    tidy-moved old.pending new.pending old.disk new.disk e.number c.close-pending.result (temporary_of e) c.close-pending.result.key (Touched (temporary_of e) c.args.now ∷ gone (firsts n mid.index)) (entry_path e c.close-pending.result old mid k) k.was
    (subst (λ (q : Slab Pending). Updates old.pending q e.number None) (sym p.2.pending) k.closed.entry) k.good (tt, quiet-gone (firsts n mid.index))
    (subst (λ (w : DiskState). Does (Moved (temporary_of e) c.close-pending.result.key ∷ Touched (temporary_of e) c.args.now ∷ gone (firsts n mid.index)) w new.disk) k.disk p.2.disk) h

pub returns-clause-err : goal.returns-clause-err
returns-clause-err g c = let p = c.in-Err.ensures.err in let u = c.undo.ensures in
    (p.0, p.1, u.0, refused_commit c.in-Err.refused c.undo.result c.args.entry c.close-pending.result c.args.now p.0 p.1 u.0 c.args.self.now c.close-pending.new.self c.place.new.self c.undo.new.self c.close-pending.ensures p.2 u.1)
