-- Evictions leave the temporaries.
use Rattle.std.proofs.Common.{◌≡◌, ℕ, zero, suc, true, List, [], ◌∷◌, option_map, Some, refl, ap, ◌∙◌}
use Rattle.sc_disk.specs.Disks.{DiskFiles, DiskState, Does, IsSize, change, disk_file_at, replay}
use Rattle.sc_disk.specs.Names.{is_temporary_path}
use Rattle.sc_disk.specs.Store.{AreKeys, gone, firsts}
use Rattle.sc_disk.specs.declared.change.Change.TheVariants.{Gone}
use Rattle.sc_disk.proofs.Changing.{AreKeys-first, at-gone, first_is_key, size}
use Rattle.sc_disk.proofs.Doing.{replay-append, told-all}
use Rattle.sc_disk.proofs.Pairs.{Index}
use Rattle.sc_disk.proofs.Temporaries.{apart-back}

-- a temporary stays where it is, whatever indexed files go
pub at-evicted : (q : List ℕ) (n : ℕ) (es : Index) (f : DiskFiles) → is_temporary_path q ≡ true → AreKeys es → disk_file_at (replay f (gone (firsts n es))) q ≡ disk_file_at f q
at-evicted q zero es f t a = refl
at-evicted q (suc n) [] f t a = refl
at-evicted q (suc n) (e ∷ es) f t a =
    ap (λ g. disk_file_at g q) (replay-append f (gone (firsts n es)) (Gone e.0 ∷ []))
    ∙ at-evicted q n es (change (Gone e.0) f) t (AreKeys-first (e ∷ es) a)
    ∙ at-gone f e.0 q (apart-back q e.0 t (first_is_key e es a (is_temporary_path e.0) refl))

pub size-evicted : (old new : DiskState) (t : List ℕ) (r n : ℕ) (es : Index) → is_temporary_path t ≡ true → AreKeys es → Does (gone (firsts n es)) old new → IsSize t r old → IsSize t r new
size-evicted old new t r n es temp a is s = told-all old new (gone (firsts n es)) (λ f. option_map size (disk_file_at f t) ≡ Some r) (λ f. option_map size (disk_file_at f t) ≡ Some r) is
    (λ f h. ap (option_map size) (at-evicted t n es f temp a) ∙ h) s
