use Rattle.std.proofs.Common.{◌≡◌, ◌∷◌, [], false, refl, sym, ap, ◌∙◌, subst, is_some, bytes_eq}
use Rattle.std.specs.Map.{lookup}
use Rattle.sc_entry.specs.Keys.{is_file_key}
use Rattle.sc_lru.proofs.Cut.{none_from_is_some}
use Rattle.sc_disk.specs.Disks.{DiskState, Does}
use Rattle.sc_disk.specs.declared.change.Change.TheVariants.{Touched}
use Rattle.sc_disk.proofs.Doing.{does-none}
use Rattle.sc_disk.proofs.Names.{key_not_temporary}
use Rattle.sc_disk.proofs.Pairs.{touched-none}
use Rattle.sc_disk.proofs.Tidying.{quiet-touched, tidy-alters, tidy-as}
use Rattle.sc_disk.proofs.lru_disk_cache.LruDiskCache.get_file.Goals as goal

pub returns-then-not-use_key-clause-err : goal.returns-then-not-use_key-clause-err
returns-then-not-use_key-clause-err g c = let k = c.args.key.now in let old = c.args.self.now in let u = c.use_key.ensures in
    let absent : is_some (lookup (bytes_eq k) old.index) ≡ false = sym u.found ∙ c.if-not-use_key.true in (
      false,
      record {
        cause = (ap is_file_key (sym c.as_text.ensures) ∙ sym c.is_file_key.ensures ∙ c.if-not-is_file_key.false, absent);
        index = u.index ∙ touched-none k old.index (none_from_is_some _ absent);
        touch = refl;
        pending = u.pending;
        capacity = u.capacity;
        disk = subst (λ (d : DiskState). Does [] old.disk d) (sym u.disk) (does-none old.disk);
      },
    )

pub returns-in_err-bytes-clause-tidy : goal.returns-in_err-bytes-clause-tidy
returns-in_err-bytes-clause-tidy g c = λ h. let old = c.args.self.now in let mid = c.use_key.new.self in let new = c.read_used.new.self in let u = c.use_key.ensures in let r = c.in_err-bytes.ensures.err in
    tidy-alters mid new _ (quiet-touched r.0 c.args.key.now c.args.now) r.1 (tidy-as old mid u.pending u.disk h)

pub returns-clause-tidy : goal.returns-clause-tidy
returns-clause-tidy g c = λ h. let old = c.args.self.now in let mid = c.use_key.new.self in let new = c.read_used.new.self in let u = c.use_key.ensures in
    tidy-alters mid new (Touched c.args.key.now c.args.now ∷ []) (tt, tt) c.in_ok-bytes.ensures.ok.alters (tidy-as old mid u.pending u.disk h)

pub read_used-requires : goal.read_used-requires
read_used-requires g c = c.use_key.ensures.held (key_not_temporary c.args.key.now (ap is_file_key (sym c.as_text.ensures) ∙ sym c.is_file_key.ensures ∙ c.if-not-is_file_key.false)) c.if-not-use_key.false
