-- Files that go for others are evictions, as the daemon's definitions have them.
use Rattle.std.proofs.Common.{◌≡◌, ℕ, zero, suc, ◌+◌, ◌<◌, Bool, true, false, cond, is_some, bytes_eq, List, [], ◌∷◌, drop, Option, Some, None, refl, sym, ap, ◌∙◌, subst, arith}
use Rattle.std.proofs.lemmas.Map.Keys.{IsDistinct-tail}
use Rattle.std.specs.List.{AllByRecursion, IsDistinct}
use Rattle.std.specs.Map.{keys_of, lookup}
use Rattle.sc_lru.specs.LruCache.{total}
use Rattle.sc_disk.proofs.Files.{same_path, self_path}
use Rattle.sc_disk.proofs.Pairs.{absent_later}
use Rattle.sc_disk.specs.Disks.{DiskFiles}
use Rattle.sc_disk.specs.Store.{size_of as measure}
use Rattle.sc_model.specs.Evicting.{Evicts, drop_part, part_file}
use Rattle.sc_model.specs.Levels.{Files, Level, drop_file, size_of}
use Rattle.sc_disk_pair.specs.Parts.{in_part}
use Rattle.sc_disk_pair.specs.declared.part.Part.{Part}
use Rattle.sc_disk_pair.specs.declared.part.Part.TheVariants.{Main, Pre}
use Rattle.sc_store_disk.specs.Shown.{Index, bytes_at, files_of}
use Rattle.sc_store_disk.proofs.Finding.{find-drop, find-files, same_map_files}
use Rattle.sc_store_disk.proofs.Sizes.{IsWhole, sizes}

-- a level that holds these files
abbrev pub holding : Level → Index → DiskFiles → Level
holding v es f = record v { main = files_of Main es f; pre = files_of Pre es f }

abbrev pub is_main : Part → Bool
is_main Main = true
is_main Pre = false

cut : (t : Bool) (s : Option ℕ) (n : ℕ) (b : Option (List ℕ)) → (t ≡ true → s ≡ None) → cond t None (cond (is_some (cond t (Some n) s)) b None) ≡ cond (is_some s) b None
cut true s n b h = sym (ap (λ o. cond (is_some o) b None) (h refl))
cut false s n b h = refl

gone_first : (part : Part) (r : List ℕ) (n : ℕ) (es : Index) (f : DiskFiles) → lookup (bytes_eq (in_part part r)) es ≡ None → drop_file (files_of part ((in_part part r, n) ∷ es) f) r ≡ files_of part es f
gone_first Main r n es f none = same_map_files (drop_file (files_of Main ((in_part Main r, n) ∷ es) f) r) (files_of Main es f) (λ q.
    find-drop (files_of Main ((in_part Main r, n) ∷ es) f) r q ∙ ap (cond (bytes_eq q r) None) (find-files Main ((in_part Main r, n) ∷ es) f q)
    ∙ cut (bytes_eq q r) (lookup (bytes_eq (in_part Main q)) es) n (bytes_at f (in_part Main q)) (λ t. ap (λ k. lookup (bytes_eq (in_part Main k)) es) (same_path q r t) ∙ none)
    ∙ sym (find-files Main es f q))
gone_first Pre r n es f none = same_map_files (drop_file (files_of Pre ((in_part Pre r, n) ∷ es) f) r) (files_of Pre es f) (λ q.
    find-drop (files_of Pre ((in_part Pre r, n) ∷ es) f) r q ∙ ap (cond (bytes_eq q r) None) (find-files Pre ((in_part Pre r, n) ∷ es) f q)
    ∙ cut (bytes_eq q r) (lookup (bytes_eq (in_part Pre q)) es) n (bytes_at f (in_part Pre q)) (λ t. ap (λ k. lookup (bytes_eq (in_part Pre k)) es) (same_path q r t) ∙ none)
    ∙ sym (find-files Pre es f q))

first_goes : (part : Part) (r : List ℕ) (n : ℕ) (es : Index) (f : DiskFiles) (v : Level) → lookup (bytes_eq (in_part part r)) es ≡ None
    → drop_part (is_main part) r (holding v ((in_part part r, n) ∷ es) f) ≡ holding v es f
first_goes Main r n es f v none = ap (λ (m : Files). record v { main = m; pre = files_of Pre es f }) (gone_first Main r n es f none)
first_goes Pre r n es f v none = ap (λ (m : Files). record v { main = files_of Main es f; pre = m }) (gone_first Pre r n es f none)

-- a file that is indexed first stands
stands_first : (part : Part) (r b : List ℕ) (n : ℕ) (es : Index) (f : DiskFiles) (v : Level) → bytes_at f (in_part part r) ≡ Some b → is_some (part_file (is_main part) r (holding v ((in_part part r, n) ∷ es) f)) ≡ true
stands_first Main r b n es f v h =
    ap is_some (find-files Main ((in_part Main r, n) ∷ es) f r ∙ ap (λ t. cond (is_some (cond t (Some n) (lookup (bytes_eq (in_part Main r)) es))) (bytes_at f (in_part Main r)) None) (self_path (in_part Main r)) ∙ h)
stands_first Pre r b n es f v h =
    ap is_some (find-files Pre ((in_part Pre r, n) ∷ es) f r ∙ ap (λ t. cond (is_some (cond t (Some n) (lookup (bytes_eq (in_part Pre r)) es))) (bytes_at f (in_part Pre r)) None) (self_path (in_part Pre r)) ∙ h)

-- the first n files went, each only while all and these bytes more took more than the capacity
pub evictions : (capacity more n : ℕ) (es : Index) (f : DiskFiles) (v w : Level) → IsDistinct bytes_eq (keys_of es) → AllByRecursion (IsWhole f) es → ((m : ℕ) → m < n → capacity < total measure (drop m es) + more)
    → w.main ≡ files_of Main (drop n es) f → w.pre ≡ files_of Pre (drop n es) f → (ps : List (Bool × List ℕ)) × Evicts capacity more ps (holding v es f) w
evictions capacity more zero [] f v w d a needed main pre = ([], (main, pre))
evictions capacity more zero (e ∷ es) f v w d a needed main pre = ([], (main, pre))
evictions capacity more (suc n) [] f v w d a needed main pre = ([], (main, pre))
evictions capacity more (suc n) (e ∷ es) f v w d a needed main pre =
    let x : IsWhole f e = a.0 in
    let rest = IsDistinct-tail bytes_eq e.0 (keys_of es) d in
    let all : size_of (files_of Main (e ∷ es) f) + size_of (files_of Pre (e ∷ es) f) ≡ total measure (e ∷ es) = sizes (e ∷ es) f d a in
    let over : capacity < total measure (e ∷ es) + more = needed 0 (omega arith) in
    let none : lookup (bytes_eq (in_part x.part x.path)) es ≡ None = ap (λ k. lookup (bytes_eq k) es) (sym x.placed) ∙ absent_later e es d in
    let goes : drop_part (is_main x.part) x.path (holding v (e ∷ es) f) ≡ holding v es f =
    ap (λ k. drop_part (is_main x.part) x.path (holding v ((k, e.1) ∷ es) f)) x.placed ∙ first_goes x.part x.path e.1 es f v none in
    let later = evictions capacity more n es f v w rest a.1 (λ m l. needed (suc m) (omega (arith, l))) main pre in (
      (is_main x.part, x.path) ∷ later.0,
      (
        subst (λ (z : ℕ). capacity < z + more) (sym all) over,
        ap (λ k. is_some (part_file (is_main x.part) x.path (holding v ((k, e.1) ∷ es) f))) x.placed ∙ stands_first x.part x.path x.bytes e.1 es f v (ap (bytes_at f) (sym x.placed) ∙ x.stands),
        subst (λ (u : Level). Evicts capacity more later.0 u w) (sym goes) later.1,
      ),
    )
