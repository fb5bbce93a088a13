-- The bytes of both folders' files are the indexed ones.
use Rattle.std.proofs.Common.{◌≡◌, inl, inr, ℕ, ◌+◌, Bool, true, false, cond, is_some, bytes_eq, option_map, List, [], ◌∷◌, length, Option, Some, None, refl, sym, ap, ◌∙◌, arith}
use Rattle.std.proofs.lemmas.Map.Keys.{IsDistinct-tail}
use Rattle.std.specs.Cmp.Lexicographic.{nat_list_cmp_total, slice_cmp}
use Rattle.std.specs.FinMap as map
use Rattle.std.specs.FinMap.Entries.{by_order, find, put}
use Rattle.std.specs.List.{AllByRecursion, IsDistinct}
use Rattle.std.specs.Map.{keys_of, lookup}
use Rattle.std.specs.Ordering.{is_eq, nat_cmp}
use Rattle.std.specs.declared.cmp.Ordering.{Ordering}
use Rattle.std.specs.declared.cmp.Ordering.TheVariants.{Less, Equal, Greater}
use Rattle.sc_lru.proofs.Measures.{total-cons}
use Rattle.sc_lru.specs.LruCache.{total}
use Rattle.sc_disk.proofs.Files.{same_path, self_path}
use Rattle.sc_disk.proofs.Pairs.{absent_later}
use Rattle.sc_disk.specs.Disks.{DiskFiles, disk_file_at}
use Rattle.sc_disk.specs.Names.{is_temporary_path}
use Rattle.sc_disk.specs.Store.{Agrees, AreKeys, size_of as measure}
use Rattle.sc_disk.specs.declared.disk_file.DiskFile.{DiskFile}
use Rattle.sc_model.specs.Levels.{Files, find_file, no_files, put_file, size_of, sum_lengths}
use Rattle.sc_disk_pair.proofs.Joined.{Kind, kind_of}
use Rattle.sc_disk_pair.specs.Parts.{ArePlaced, in_part}
use Rattle.sc_disk_pair.specs.declared.part.Part.{Part}
use Rattle.sc_disk_pair.specs.declared.part.Part.TheVariants.{Main, Pre}
use Rattle.sc_store_disk.specs.Shown.{Index, bytes_at, files_of, with_shown}
use Rattle.sc_store_disk.proofs.Finding.{find-files}

abbrev by_path : List ℕ → List ℕ → Ordering
by_path = slice_cmp nat_cmp

put_at : (o : Ordering) (k v : List ℕ) (e : List ℕ × List ℕ) (es : List (List ℕ × List ℕ)) → cond (is_eq o) (Some e.1) (find by_path k es) ≡ None
    → (find by_path k es ≡ None → sum_lengths (put by_path k v es) ≡ length v + sum_lengths es)
    → sum_lengths (by_order o ((k, v) ∷ e ∷ es) ((e.0, v) ∷ es) (e ∷ put by_path k v es)) ≡ length v + (length e.1 + sum_lengths es)
put_at Less k v e es h rest = refl
put_at Equal k v e es h rest = cc
put_at Greater k v e es h rest = let r : sum_lengths (put by_path k v es) ≡ length v + sum_lengths es = rest h in omega (arith, r)

sum-put : (k v : List ℕ) (es : List (List ℕ × List ℕ)) → find by_path k es ≡ None → sum_lengths (put by_path k v es) ≡ length v + sum_lengths es
sum-put k v [] h = refl
sum-put k v (e ∷ es) h = put_at (by_path k e.0) k v e es h (sum-put k v es)

pub size-put : (m : Files) (k v : List ℕ) → find_file m k ≡ None → size_of (put_file m k v) ≡ length v + size_of m
size-put m k v h = ap sum_lengths (map.entries-insert nat_list_cmp_total m k v) ∙ sum-put k v (map.entries m) (sym (map.get-entries m k) ∙ h)

no_sum : (es : List (List ℕ × List ℕ)) → length es ≡ 0 → sum_lengths es ≡ 0
no_sum [] h = refl
no_sum (e ∷ es) h = absurd (omega (arith, h))

pub size-none : size_of no_files ≡ 0
size-none = no_sum (map.entries no_files) (sym (map.len-entries no_files) ∙ map.len-empty by_path (List ℕ))

-- An indexed file: its path is of a part, and its bytes are as many as the index says.
pub record IsWhole (f : DiskFiles) (e : List ℕ × ℕ) : Type 0 where
  pub part : Part
  pub path : List ℕ
  pub bytes : List ℕ
  pub placed : e.0 ≡ in_part part path
  pub stands : bytes_at f e.0 ≡ Some bytes
  pub size : length bytes ≡ e.1

pub size-in : (part : Part) (r b : List ℕ) (n : ℕ) (es : Index) (f : DiskFiles) → lookup (bytes_eq (in_part part r)) es ≡ None → bytes_at f (in_part part r) ≡ Some b → length b ≡ n
    → size_of (files_of Main ((in_part part r, n) ∷ es) f) + size_of (files_of Pre ((in_part part r, n) ∷ es) f) ≡ n + (size_of (files_of Main es f) + size_of (files_of Pre es f))
size-in Main r b n es f none stands len =
    let more : size_of (put_file (files_of Main es f) r b) ≡ length b + size_of (files_of Main es f) = size-put (files_of Main es f) r b (find-files Main es f r ∙ ap (λ o. cond (is_some o) (bytes_at f (in_part Main r)) None) none) in
    ap (λ o. size_of (with_shown (Some r) o (files_of Main es f)) + size_of (files_of Pre es f)) stands ∙ omega (arith, more, len)
size-in Pre r b n es f none stands len =
    let more : size_of (put_file (files_of Pre es f) r b) ≡ length b + size_of (files_of Pre es f) = size-put (files_of Pre es f) r b (find-files Pre es f r ∙ ap (λ o. cond (is_some o) (bytes_at f (in_part Pre r)) None) none) in
    ap (λ o. size_of (files_of Main es f) + size_of (with_shown (Some r) o (files_of Pre es f))) stands ∙ omega (arith, more, len)

pub sizes : (es : Index) (f : DiskFiles) → IsDistinct bytes_eq (keys_of es) → AllByRecursion (IsWhole f) es → size_of (files_of Main es f) + size_of (files_of Pre es f) ≡ total measure es
sizes [] f d a = omega (arith, size-none)
sizes (e ∷ es) f d a =
    let w : IsWhole f e = a.0 in
    let rest : size_of (files_of Main es f) + size_of (files_of Pre es f) ≡ total measure es = sizes es f (IsDistinct-tail bytes_eq e.0 (keys_of es) d) a.1 in
    let none : lookup (bytes_eq (in_part w.part w.path)) es ≡ None = ap (λ k. lookup (bytes_eq k) es) (sym w.placed) ∙ absent_later e es d in
    let one : size_of (files_of Main ((in_part w.part w.path, e.1) ∷ es) f) + size_of (files_of Pre ((in_part w.part w.path, e.1) ∷ es) f) ≡ e.1 + (size_of (files_of Main es f) + size_of (files_of Pre es f)) =
    size-in w.part w.path w.bytes e.1 es f none (ap (bytes_at f) (sym w.placed) ∙ w.stands) w.size in
    ap (λ k. size_of (files_of Main ((k, e.1) ∷ es) f) + size_of (files_of Pre ((k, e.1) ∷ es) f)) w.placed ∙ one ∙ ap (λ n. e.1 + n) rest ∙ sym (total-cons measure e es)

-- Each pair of a list of distinct keys is what its key is looked up as.
later_apart : (q : List ℕ) (n : ℕ) (e : List ℕ × ℕ) (es : Index) → IsDistinct bytes_eq (keys_of (e ∷ es)) → lookup (bytes_eq q) es ≡ Some n → (t : Bool) → bytes_eq q e.0 ≡ t → cond t (Some e.1) (lookup (bytes_eq q) es) ≡ Some n
later_apart q n e es d h true t = let none : lookup (bytes_eq q) es ≡ None = ap (λ k. lookup (bytes_eq k) es) (same_path q e.0 t) ∙ absent_later e es d in absurd (some_none n (sym h ∙ none))
  where
    some_none : (m : ℕ) → Some m ≡ None → ⊥
    some_none m p = cc
later_apart q n e es d h false t = h

pub each-pair : (P : List ℕ × ℕ → Type 0) (es : Index) → IsDistinct bytes_eq (keys_of es) → ((q : List ℕ) (n : ℕ) → lookup (bytes_eq q) es ≡ Some n → P (q, n)) → AllByRecursion P es
each-pair P [] d h = tt
each-pair P (e ∷ es) d h = (
  h e.0 e.1 (ap (λ t. cond t (Some e.1) (lookup (bytes_eq e.0) es)) (self_path e.0)),
  each-pair P es (IsDistinct-tail bytes_eq e.0 (keys_of es) d) (λ q n l. h q n (later_apart q n e es d l (bytes_eq q e.0) refl)),
)

not_some : (n : ℕ) (o : Option ℕ) → o ≡ Some n → o ≡ None → ⊥
not_some n o p q = cc

file_not : (f : DiskFiles) (q : List ℕ) (n : ℕ) → option_map (λ file. length file.bytes) (disk_file_at f q) ≡ Some n → disk_file_at f q ≡ None → ⊥
file_not f q n h e = cc

standing : (o : Option DiskFile) (n : ℕ) → option_map (λ file. length file.bytes) o ≡ Some n → (b : List ℕ) × (option_map (λ file. file.bytes) o ≡ Some b) × (length b ≡ n)
standing None n h = cc
standing (Some x) n h = (x.bytes, refl, cc)

whole_at : (f : DiskFiles) (q : List ℕ) (n : ℕ) → ArePlaced f → option_map (λ file. length file.bytes) (disk_file_at f q) ≡ Some n → Kind q → IsWhole f (q, n)
whole_at f q n placed h (inl (part, r, e)) = let s = standing (disk_file_at f q) n h in record { part = part; path = r; bytes = s.0; placed = e; stands = s.1; size = s.2 }
whole_at f q n placed h (inr (apart, none)) = absurd (file_not f q n h (placed q none))

key_shows : (es : Index) (q : List ℕ) (n : ℕ) → AreKeys es → lookup (bytes_eq q) es ≡ Some n → (t : Bool) → is_temporary_path q ≡ t → is_temporary_path q ≡ false
key_shows es q n keys h true t = absurd (not_some n (lookup (bytes_eq q) es) h (keys q t))
key_shows es q n keys h false t = t

-- a key that is indexed is no temporary's path
pub key_is_no_temporary : (es : Index) (q : List ℕ) (n : ℕ) → AreKeys es → lookup (bytes_eq q) es ≡ Some n → is_temporary_path q ≡ false
key_is_no_temporary es q n keys h = key_shows es q n keys h (is_temporary_path q) refl

pub all-whole : (es : Index) (f : DiskFiles) → IsDistinct bytes_eq (keys_of es) → AreKeys es → Agrees es f → ArePlaced f → AllByRecursion (IsWhole f) es
all-whole es f d keys agrees placed = each-pair (IsWhole f) es d (λ q n h. whole_at f q n placed (agrees q (key_is_no_temporary es q n keys h) ∙ h) (kind_of q))
