-- A store that is opened holds what it held before.
use Rattle.std.proofs.Common.{◌≡◌, inl, inr, ℕ, Bool, true, false, cond, if◌then◌else◌, is_some, nat_le, bytes_eq, option_map, List, [], ◌∷◌, ◌++◌, length, Option, Some, None, refl, sym, ap, ◌∙◌, subst}
use Rattle.std.specs.Cmp.Lexicographic.{slice_cmp}
use Rattle.std.specs.FinMap as map
use Rattle.std.specs.List.{list_any}
use Rattle.std.specs.Map.{lookup}
use Rattle.std.specs.Ordering.{nat_cmp}
use Rattle.sc_lru.specs.LruCache.{suffix_within, total}
use Rattle.sc_disk.proofs.Files.{same_path, self_path}
use Rattle.sc_disk.proofs.Reopening.{files_listed}
use Rattle.sc_disk.specs.Disks.{DiskFiles, disk_file_at, listing, no_disk_files, replay}
use Rattle.sc_disk.specs.Opening.{Begins, IsReopened, is_kept, kept_of, pairs_of}
use Rattle.sc_disk.specs.Store.{Agrees, AreKeys, gone, size_of}
use Rattle.sc_disk.specs.declared.disk.Listed.{Listed}
use Rattle.sc_disk.specs.declared.disk_file.DiskFile.{DiskFile}
use Rattle.sc_disk_pair.specs.Parts.{in_part}
use Rattle.sc_disk_pair.specs.declared.part.Part.{Part}
use Rattle.sc_disk.proofs.Rising.{In, in-filter, perm-in}
use Rattle.sc_disk.proofs.Again.{again-refused}
use Rattle.sc_store_disk.specs.Reopened.{in_use_order, reopened}
use Rattle.sc_store_disk.specs.Shown.{Index, bytes_at, files_of, shown}
use Rattle.sc_store_disk.proofs.Changing.{bytes-all_gone}
use Rattle.sc_store_disk.proofs.Finding.{same-shown}
use Rattle.sc_store_disk.proofs.Ordering.{reopened-is, reopened-only, same-order}
use Rattle.sc_store_disk.proofs.Sizes.{key_is_no_temporary}

-- A file that is listed stands.
in-lookup : (xs : List Listed) (e : Listed) → In e xs → is_some (lookup (bytes_eq e.path) (pairs_of xs)) ≡ true
in-lookup [] e i = absurd i
in-lookup (x ∷ xs) e (inl same) = ap (λ t. is_some (cond t (Some x.size) (lookup (bytes_eq e.path) (pairs_of xs)))) (ap (λ (y : Listed). bytes_eq e.path y.path) same ∙ self_path e.path)
in-lookup (x ∷ xs) e (inr i) = (elim (bytes_eq e.path x.path) as (λ t. is_some (cond t (Some x.size) (lookup (bytes_eq e.path) (pairs_of xs))) ≡ true) [ true ↦ refl | false ↦ in-lookup xs e i ])

listed_stands : (f : DiskFiles) (e : Listed) → In e (listing f) → is_some (bytes_at f e.path) ≡ true
listed_stands f e i = some_same (disk_file_at f e.path) ∙ ap is_some ((files_listed f).same e.path) ∙ in-lookup (listing f) e i
  where
    some_same : (o : Option DiskFile) → is_some (option_map (λ file. file.bytes) o) ≡ is_some (option_map (λ file. length file.bytes) o)
    some_same None = refl
    some_same (Some x) = refl

abbrev pub Among : List Listed → List ℕ → ℕ → Type 0
Among xs q n = (e : Listed) × In e xs × (e.path ≡ q) × (e.size ≡ n)

same_size : (m n : ℕ) → Some m ≡ Some n → m ≡ n
same_size m n h = cc

lookup-in : (xs : List Listed) (q : List ℕ) (n : ℕ) → lookup (bytes_eq q) (pairs_of xs) ≡ Some n → Among xs q n
lookup-in [] q n h = cc
lookup-in (x ∷ xs) q n h = (elim (bytes_eq q x.path) as (λ t. bytes_eq q x.path ≡ t → cond t (Some x.size) (lookup (bytes_eq q) (pairs_of xs)) ≡ Some n → Among (x ∷ xs) q n) [
  | true ↦ λ t l. (x, inl refl, sym (same_path q x.path t), same_size x.size n l)
  | false ↦ λ _ l. let on = lookup-in xs q n l in (on.0, inr on.1, on.2, on.3)
]) refl h

later : (x : Listed) (xs : List Listed) (q : List ℕ) (n : ℕ) → Among xs q n → Among (x ∷ xs) q n
later x xs q n a = (a.0, inr a.1, a.2, a.3)

pub suffix-in : (capacity : ℕ) (xs : List Listed) (q : List ℕ) (n : ℕ) → lookup (bytes_eq q) (suffix_within size_of capacity (pairs_of xs)) ≡ Some n → Among xs q n
suffix-in capacity [] q n h = cc
suffix-in capacity (x ∷ xs) q n h = (elim (nat_le (total size_of (pairs_of (x ∷ xs))) capacity) as (λ t. lookup (bytes_eq q) (if t then pairs_of (x ∷ xs) else suffix_within size_of capacity (pairs_of xs)) ≡ Some n → Among (x ∷ xs) q n) [
  | true ↦ λ l. lookup-in (x ∷ xs) q n l
  | false ↦ λ l. later x xs q n (suffix-in capacity xs q n l)
]) h

-- each of the files that an opening would keep stands
reopened_stands : (capacity : ℕ) (f : DiskFiles) (q : List ℕ) (n : ℕ) → lookup (bytes_eq q) (reopened capacity f) ≡ Some n → is_some (bytes_at f q) ≡ true
unfolding reopened
reopened_stands capacity f q n h =
    let kept = kept_of capacity (listing f) in
    let a : Among (in_use_order kept) q n = suffix-in capacity (in_use_order kept) q n h in
    ap (λ k. is_some (bytes_at f k)) (sym a.2) ∙ listed_stands f a.0 (in-filter (is_kept capacity) (listing f) a.0 (perm-in kept (in_use_order kept) (same-order kept) a.0 a.1)).1

-- a file that stands once others went is as it was
left_same : (t : Bool) (o : Option (List ℕ)) → is_some (cond t None o) ≡ true → cond t None o ≡ o
left_same true o h = cc
left_same false o h = refl

pub bytes-left : (f g : DiskFiles) (ks : List (List ℕ)) (q : List ℕ) → g ≡ replay f (gone ks) → is_some (bytes_at g q) ≡ true → bytes_at g q ≡ bytes_at f q
bytes-left f g ks q e h =
    let is : bytes_at g q ≡ cond (list_any (bytes_eq q) ks) None (bytes_at f q) = ap (λ (x : DiskFiles). bytes_at x q) e ∙ bytes-all_gone f ks q in
    is ∙ left_same (list_any (bytes_eq q) ks) (bytes_at f q) (sym (ap is_some is) ∙ h)

-- what is shown by an index whose files stand
shown-left : (es : Index) (f g : DiskFiles) (ks : List (List ℕ)) (q : List ℕ) → g ≡ replay f (gone ks) → ((n : ℕ) → lookup (bytes_eq q) es ≡ Some n → is_some (bytes_at g q) ≡ true) → (o : Option ℕ) → lookup (bytes_eq q) es ≡ o
    → cond (is_some o) (bytes_at g q) None ≡ cond (is_some o) (bytes_at f q) None
shown-left es f g ks q e stands None l = refl
shown-left es f g ks q e stands (Some n) l = bytes-left f g ks q e (stands n l)

shown-by : (es : Index) (f g : DiskFiles) (ks : List (List ℕ)) (q : List ℕ) → g ≡ replay f (gone ks) → ((n : ℕ) → lookup (bytes_eq q) es ≡ Some n → is_some (bytes_at g q) ≡ true) → shown es g q ≡ shown es f q
shown-by es f g ks q e stands = shown-left es f g ks q e stands (lookup (bytes_eq q) es) refl

-- an indexed key's file stands
sized : (o : Option DiskFile) (n : ℕ) → option_map (λ file. length file.bytes) o ≡ Some n → is_some (option_map (λ file. file.bytes) o) ≡ true
sized None n h = cc
sized (Some x) n h = refl

pub indexed_stands : (es : Index) (f : DiskFiles) → AreKeys es → Agrees es f → (q : List ℕ) (n : ℕ) → lookup (bytes_eq q) es ≡ Some n → is_some (bytes_at f q) ≡ true
indexed_stands es f keys agrees q n h = sized (disk_file_at f q) n (agrees q (key_is_no_temporary es q n keys h) ∙ h)

pub opened-files : (part : Part) (capacity : ℕ) (index : Index) (f g : DiskFiles) (ks : List (List ℕ)) → IsReopened capacity f index → g ≡ replay f (gone ks) → AreKeys index → Agrees index g → files_of part index g ≡ files_of part (reopened capacity f) f
opened-files part capacity index f g ks r e keys agrees =
    same-shown part index index g f (λ k. shown-by index f g ks (in_part part k) e (indexed_stands index g keys agrees (in_part part k))) ∙ ap (λ es. files_of part es f) (reopened-only capacity f index r)

last_list : (ls : List (List ℕ)) → ls ++ [] ≡ ls
last_list [] = refl
last_list (l ∷ ls) = ap (λ x. l ∷ x) (last_list ls)

pub refused-same : (capacity : ℕ) (f g : DiskFiles) (ks : List (List ℕ)) → Begins capacity ks f → g ≡ replay f (gone ks) → reopened capacity g ≡ reopened capacity f
refused-same capacity f g ks begins e =
    let again : IsReopened capacity (replay f (gone ks)) (reopened capacity g) = subst (λ x. IsReopened capacity x (reopened capacity g)) e (reopened-is capacity g) in
    reopened-only capacity f (reopened capacity g) (again-refused capacity f ks ks [] (reopened capacity g) begins (last_list ks) again)

pub refused-files : (part : Part) (capacity : ℕ) (f g : DiskFiles) (ks : List (List ℕ)) → Begins capacity ks f → g ≡ replay f (gone ks) → files_of part (reopened capacity g) g ≡ files_of part (reopened capacity f) f
refused-files part capacity f g ks begins e =
    same-shown part (reopened capacity g) (reopened capacity g) g f (λ k. shown-by (reopened capacity g) f g ks (in_part part k) e (reopened_stands capacity g (in_part part k)))
    ∙ ap (λ es. files_of part es f) (refused-same capacity f g ks begins e)

-- where nothing is told, nothing is shown
none_shown : (es : Index) (q : List ℕ) (t : Bool) → cond t (bytes_at no_disk_files q) None ≡ None
none_shown es q true = ap (option_map (λ file. file.bytes)) (map.get-empty (slice_cmp nat_cmp) q)
none_shown es q false = refl

pub files-untold : (part : Part) (es fs : Index) → files_of part es no_disk_files ≡ files_of part fs no_disk_files
files-untold part es fs = same-shown part es fs no_disk_files no_disk_files (λ k. none_shown es (in_part part k) (is_some (lookup (bytes_eq (in_part part k)) es)) ∙ sym (none_shown fs (in_part part k) (is_some (lookup (bytes_eq (in_part part k)) fs))))
