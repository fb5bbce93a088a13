-- A disk store takes at most its capacity.
use Rattle.std.proofs.Common.{◌≡◌, inl, inr, ℕ, ◌+◌, ◌≤◌, Bool, true, false, cond, if◌then◌else◌, is_some, nat_le, bytes_eq, option_map, List, [], ◌∷◌, length, Option, Some, None, refl, sym, ap, ◌∙◌, subst, arith}
use Rattle.std.proofs.lemmas.Bool.{leb-true}
use Rattle.std.proofs.lemmas.List.Sorted.{IsPermutation-map}
use Rattle.std.proofs.lemmas.Map.Keys.{IsDistinct-IsPermutation, IsDistinct-cons, IsDistinct-head, IsDistinct-tail}
use Rattle.std.specs.Cmp.Lexicographic.{nat_list_eq_equiv}
use Rattle.std.specs.List.{AllByRecursion, IsDistinct}
use Rattle.std.specs.Map.{keys_of, lookup}
use Rattle.std.specs.Option.{option_map_or}
use Rattle.sc_entry.specs.Causes.{IfTold}
use Rattle.sc_entry.specs.declared.cache_mode.CacheMode.{CacheMode}
use Rattle.sc_lru.proofs.Measures.{total-cons}
use Rattle.sc_lru.specs.LruCache.{suffix_within, total}
use Rattle.sc_disk.proofs.Files.{self_path}
use Rattle.sc_disk.proofs.Pairs.{absent_later}
use Rattle.sc_disk.proofs.Reopening.{files_listed}
use Rattle.sc_disk.specs.Disks.{DiskFiles, DiskRecord, DiskState, disk_file_at, files_now, listing, no_disk_files}
use Rattle.sc_disk.specs.Opening.{is_kept, kept_of, pair_of, pairs_of}
use Rattle.sc_disk.specs.Sound.{IsSound}
use Rattle.sc_disk.specs.Store.{Store, declared, indexed, size_of as measure}
use Rattle.sc_disk.specs.declared.disk.Listed.{Listed}
use Rattle.sc_disk.specs.declared.disk_file.DiskFile.{DiskFile}
use Rattle.sc_model.specs.Evicting.{part_size}
use Rattle.sc_model.specs.Levels.{size_of}
use Rattle.sc_disk_pair.proofs.Joined.{Kind, kind_of}
use Rattle.sc_disk_pair.specs.Pairs.{own_key}
use Rattle.sc_disk_pair.specs.Parts.{ArePlaced, in_part}
use Rattle.sc_disk_pair.specs.Twos.{TwoState}
use Rattle.sc_disk_pair.specs.declared.pair_cache.PairCache.{PairCache}
use Rattle.sc_disk_pair.specs.declared.part.Part.TheVariants.{Main, Pre}
use Rattle.sc_disk.proofs.Rising.{In, in-filter, perm-in}
use Rattle.sc_store_disk.specs.DiskStores.{bytes_of, level_of, opened_store, state_of, store_of, told_files, unopened_store}
use Rattle.sc_store_disk.specs.Reopened.{in_use_order, reopened}
use Rattle.sc_store_disk.specs.Shown.{Index, bytes_at, files_of, with_shown}
use Rattle.sc_store_disk.proofs.Lending.{store-sized}
use Rattle.sc_store_disk.proofs.Openings.{Among, files-untold, suffix-in}
use Rattle.sc_store_disk.proofs.Ordering.{same-order}
use Rattle.sc_store_disk.proofs.Sizes.{each-pair, size-in, size-none}

-- a file that stands, as large as the index says
pub record Stands (f : DiskFiles) (e : List ℕ × ℕ) : Type 0 where
  pub bytes : List ℕ
  pub stands : bytes_at f e.0 ≡ Some bytes
  pub size : length bytes ≡ e.1

one_more : (es : Index) (f : DiskFiles) (e : List ℕ × ℕ) → lookup (bytes_eq e.0) es ≡ None → Stands f e → Kind e.0
    → size_of (files_of Main (e ∷ es) f) + size_of (files_of Pre (e ∷ es) f) ≤ e.1 + (size_of (files_of Main es f) + size_of (files_of Pre es f))
one_more es f e none s (inl (part, r, is)) =
    let one : size_of (files_of Main ((in_part part r, e.1) ∷ es) f) + size_of (files_of Pre ((in_part part r, e.1) ∷ es) f) ≡ e.1 + (size_of (files_of Main es f) + size_of (files_of Pre es f)) =
    size-in part r s.bytes e.1 es f (ap (λ k. lookup (bytes_eq k) es) (sym is) ∙ none) (ap (bytes_at f) (sym is) ∙ s.stands) s.size in
    let same : size_of (files_of Main (e ∷ es) f) + size_of (files_of Pre (e ∷ es) f) ≡ size_of (files_of Main ((in_part part r, e.1) ∷ es) f) + size_of (files_of Pre ((in_part part r, e.1) ∷ es) f) =
    ap (λ k. size_of (files_of Main ((k, e.1) ∷ es) f) + size_of (files_of Pre ((k, e.1) ∷ es) f)) is in
    omega (arith, one, same)
one_more es f e none s (inr (apart, cut)) =
    let same : size_of (files_of Main (e ∷ es) f) + size_of (files_of Pre (e ∷ es) f) ≡ size_of (files_of Main es f) + size_of (files_of Pre es f) =
    ap (λ o. size_of (with_shown (own_key Main o) (bytes_at f e.0) (files_of Main es f)) + size_of (with_shown (own_key Pre o) (bytes_at f e.0) (files_of Pre es f))) cut in
    omega (arith, same)

sizes_most : (es : Index) (f : DiskFiles) → IsDistinct bytes_eq (keys_of es) → AllByRecursion (Stands f) es → size_of (files_of Main es f) + size_of (files_of Pre es f) ≤ total measure es
sizes_most [] f d a = omega (arith, size-none)
sizes_most (e ∷ es) f d a =
    let rest : size_of (files_of Main es f) + size_of (files_of Pre es f) ≤ total measure es = sizes_most es f (IsDistinct-tail bytes_eq e.0 (keys_of es) d) a.1 in
    let one : size_of (files_of Main (e ∷ es) f) + size_of (files_of Pre (e ∷ es) f) ≤ e.1 + (size_of (files_of Main es f) + size_of (files_of Pre es f)) = one_more es f e (absent_later e es d) a.0 (kind_of e.0) in
    omega (arith, rest, one, total-cons measure e es)

-- The files that an opening would keep.
apart_kept : (capacity : ℕ) (k : List ℕ) (xs : List Listed) → AllByRecursion (λ q. bytes_eq k q ≡ false) (keys_of (pairs_of xs)) → AllByRecursion (λ q. bytes_eq k q ≡ false) (keys_of (pairs_of (kept_of capacity xs)))
apart_kept capacity k [] a = tt
apart_kept capacity k (x ∷ xs) a = (elim (is_kept capacity x) as (λ t. AllByRecursion (λ q. bytes_eq k q ≡ false) (keys_of (pairs_of (cond t (x ∷ kept_of capacity xs) (kept_of capacity xs))))) [
  | true ↦ (a.0, apart_kept capacity k xs a.1)
  | false ↦ apart_kept capacity k xs a.1
])

distinct_kept : (capacity : ℕ) (xs : List Listed) → IsDistinct bytes_eq (keys_of (pairs_of xs)) → IsDistinct bytes_eq (keys_of (pairs_of (kept_of capacity xs)))
distinct_kept capacity [] d = d
distinct_kept capacity (x ∷ xs) d =
    let rest = distinct_kept capacity xs (IsDistinct-tail bytes_eq x.path (keys_of (pairs_of xs)) d) in
    (elim (is_kept capacity x) as (λ t. IsDistinct bytes_eq (keys_of (pairs_of (cond t (x ∷ kept_of capacity xs) (kept_of capacity xs))))) [
      | true ↦ IsDistinct-cons bytes_eq x.path (keys_of (pairs_of (kept_of capacity xs))) (apart_kept capacity x.path xs (IsDistinct-head bytes_eq x.path (keys_of (pairs_of xs)) d)) rest
      | false ↦ rest
    ])

distinct_suffix : (capacity : ℕ) (es : Index) → IsDistinct bytes_eq (keys_of es) → IsDistinct bytes_eq (keys_of (suffix_within measure capacity es))
distinct_suffix capacity [] d = d
distinct_suffix capacity (e ∷ es) d = (elim (nat_le (total measure (e ∷ es)) capacity) as (λ t. IsDistinct bytes_eq (keys_of (if t then e ∷ es else suffix_within measure capacity es))) [
  | true ↦ d
  | false ↦ distinct_suffix capacity es (IsDistinct-tail bytes_eq e.0 (keys_of es) d)
])

pub distinct_reopened : (capacity : ℕ) (f : DiskFiles) → IsDistinct bytes_eq (keys_of (reopened capacity f))
unfolding reopened
distinct_reopened capacity f =
    let kept = kept_of capacity (listing f) in
    let order = in_use_order kept in
    distinct_suffix capacity (pairs_of order) (IsDistinct-IsPermutation bytes_eq nat_list_eq_equiv.symm (keys_of (pairs_of kept)) (keys_of (pairs_of order))
    (IsPermutation-map (λ (e : List ℕ × ℕ). e.0) (pairs_of kept) (pairs_of order) (IsPermutation-map pair_of kept order (same-order kept))) (distinct_kept capacity (listing f) (files_listed f).distinct))

suffix_fits : (capacity : ℕ) (es : Index) → total measure (suffix_within measure capacity es) ≤ capacity
suffix_fits capacity [] = omega arith
suffix_fits capacity (e ∷ es) = (elim (nat_le (total measure (e ∷ es)) capacity) as (λ t. nat_le (total measure (e ∷ es)) capacity ≡ t → total measure (if t then e ∷ es else suffix_within measure capacity es) ≤ capacity) [
  | true ↦ λ t. leb-true (total measure (e ∷ es)) capacity t
  | false ↦ λ t. suffix_fits capacity es
]) refl

fits_reopened : (capacity : ℕ) (f : DiskFiles) → total measure (reopened capacity f) ≤ capacity
unfolding reopened
fits_reopened capacity f = suffix_fits capacity (pairs_of (in_use_order (kept_of capacity (listing f))))

not_apart : (b : Bool) → b ≡ true → b ≡ false → ⊥
not_apart true p q = cc
not_apart false p q = cc

apart_in : (k : List ℕ) (xs : List Listed) (e : Listed) → AllByRecursion (λ q. bytes_eq k q ≡ false) (keys_of (pairs_of xs)) → In e xs → bytes_eq k e.path ≡ false
apart_in k [] e a i = absurd i
apart_in k (x ∷ xs) e a (inl same) = ap (λ (y : Listed). bytes_eq k y.path) (sym same) ∙ a.0
apart_in k (x ∷ xs) e a (inr i) = apart_in k xs e a.1 i

flip : (a b : List ℕ) → bytes_eq a b ≡ false → bytes_eq b a ≡ false
flip a b h = nat_list_eq_equiv.symm b a ∙ h

sized-lookup : (xs : List Listed) (e : Listed) → IsDistinct bytes_eq (keys_of (pairs_of xs)) → In e xs → lookup (bytes_eq e.path) (pairs_of xs) ≡ Some e.size
sized-lookup [] e d i = absurd i
sized-lookup (x ∷ xs) e d (inl same) = ap (λ (y : Listed). lookup (bytes_eq y.path) (pairs_of (x ∷ xs))) (sym same) ∙ ap (λ t. cond t (Some x.size) (lookup (bytes_eq x.path) (pairs_of xs))) (self_path x.path) ∙ ap (λ (y : Listed). Some y.size) same
sized-lookup (x ∷ xs) e d (inr i) =
    ap (λ t. cond t (Some x.size) (lookup (bytes_eq e.path) (pairs_of xs))) (flip x.path e.path (apart_in x.path xs e (IsDistinct-head bytes_eq x.path (keys_of (pairs_of xs)) d) i))
    ∙ sized-lookup xs e (IsDistinct-tail bytes_eq x.path (keys_of (pairs_of xs)) d) i

sized_bytes : (o : Option DiskFile) (n : ℕ) → option_map (λ (file : DiskFile). length file.bytes) o ≡ Some n → (b : List ℕ) × (option_map (λ (file : DiskFile). file.bytes) o ≡ Some b) × (length b ≡ n)
sized_bytes None n h = cc
sized_bytes (Some x) n h = (x.bytes, refl, cc)

pub reopened_stand : (capacity : ℕ) (f : DiskFiles) (q : List ℕ) (n : ℕ) → lookup (bytes_eq q) (reopened capacity f) ≡ Some n → Stands f (q, n)
unfolding reopened
reopened_stand capacity f q n h =
    let kept = kept_of capacity (listing f) in
    let a : Among (in_use_order kept) q n = suffix-in capacity (in_use_order kept) q n h in
    let listed : In a.0 (listing f) = (in-filter (is_kept capacity) (listing f) a.0 (perm-in kept (in_use_order kept) (same-order kept) a.0 a.1)).1 in
    let size : option_map (λ (file : DiskFile). length file.bytes) (disk_file_at f q) ≡ Some n =
    ap (λ k. option_map (λ (file : DiskFile). length file.bytes) (disk_file_at f k)) (sym a.2) ∙ (files_listed f).same a.0.path ∙ sized-lookup (listing f) a.0 (files_listed f).distinct listed ∙ ap Some a.3 in
    let s = sized_bytes (disk_file_at f q) n size in
    record { bytes = s.0; stands = s.1; size = s.2 }

reopened_within : (capacity : ℕ) (f : DiskFiles) → size_of (files_of Main (reopened capacity f) f) + size_of (files_of Pre (reopened capacity f) f) ≤ capacity
reopened_within capacity f =
    let most : size_of (files_of Main (reopened capacity f) f) + size_of (files_of Pre (reopened capacity f) f) ≤ total measure (reopened capacity f) =
    sizes_most (reopened capacity f) f (distinct_reopened capacity f) (each-pair (Stands f) (reopened capacity f) (distinct_reopened capacity f) (reopened_stand capacity f)) in
    let fits : total measure (reopened capacity f) ≤ capacity = fits_reopened capacity f in
    omega (arith, most, fits)

untold_size : (es : Index) → size_of (files_of Main es no_disk_files) + size_of (files_of Pre es no_disk_files) ≡ 0
untold_size es = (λ i. size_of (files-untold Main es [] i) + size_of (files-untold Pre es [] i)) ∙ omega (arith, size-none)

opened_within : (s : Store) (o : Option DiskRecord) → s.disk.told ≡ o → IsSound s → IsDistinct bytes_eq (keys_of s.index) → IfTold s.disk.told (λ r. ArePlaced (files_now r)) → part_size (level_of true s.index s.disk) + declared s.pending.slots ≤ s.capacity
opened_within s None e sound d placed =
    let none : size_of (files_of Main s.index (told_files s.disk.told)) + size_of (files_of Pre s.index (told_files s.disk.told)) ≡ 0 =
    ap (λ x. size_of (files_of Main s.index (told_files x)) + size_of (files_of Pre s.index (told_files x))) e ∙ untold_size s.index in
    omega (arith, none, sound.fits)
opened_within s (Some r) e sound d placed =
    let sum : size_of (level_of true s.index s.disk).main + size_of (level_of true s.index s.disk).pre ≡ indexed s = store-sized s sound d placed (ap is_some e) in
    omega (arith, sum, sound.fits)

within_store : {D : Type 0} (mode : CacheMode) (capacity : ℕ) (t : Option TwoState) (c : PairCache D) → c.store.capacity ≡ capacity → IsSound c.store → IsDistinct bytes_eq (keys_of c.store.index) → IfTold c.store.disk.told (λ r. ArePlaced (files_now r))
    → part_size (opened_store mode capacity c.store).level + (opened_store mode capacity c.store).reserved ≤ capacity
within_store mode capacity t c same sound d placed = subst (λ (n : ℕ). part_size (opened_store mode capacity c.store).level + (opened_store mode capacity c.store).reserved ≤ n) same (opened_within c.store c.store.disk.told refl sound d placed)

pub within-opened : {D : Type 0} (mode : CacheMode) (capacity : ℕ) (o : Option (PairCache D)) (t : Option TwoState) (c : PairCache D) → o ≡ Some c → option_map_or (λ (x : PairCache D). x.store.capacity) o capacity ≡ capacity → IsSound c.store → IsDistinct bytes_eq (keys_of c.store.index)
    → IfTold c.store.disk.told (λ r. ArePlaced (files_now r)) → part_size (store_of mode capacity o t).level + (store_of mode capacity o t).reserved ≤ capacity
within-opened {D} mode capacity o t c is limit sound d placed =
    let same : c.store.capacity ≡ capacity = ap (λ (x : Option (PairCache D)). option_map_or (λ y. y.store.capacity) x capacity) (sym is) ∙ limit in
    subst (λ (x : Option (PairCache D)). part_size (store_of mode capacity x t).level + (store_of mode capacity x t).reserved ≤ capacity) (sym is) (within_store mode capacity t c same sound d placed)

unopened_within : (mode : CacheMode) (capacity : ℕ) (d : DiskState) → part_size (unopened_store mode capacity d).level + 0 ≤ capacity
unopened_within mode capacity d = let most : part_size (unopened_store mode capacity d).level ≤ capacity = reopened_within capacity (told_files d.told) in omega (arith, most)

pub within-unopened : {D : Type 0} (mode : CacheMode) (capacity : ℕ) (o : Option (PairCache D)) (t : Option TwoState) → o ≡ None → part_size (store_of mode capacity o t).level + (store_of mode capacity o t).reserved ≤ capacity
within-unopened {D} mode capacity o t is = subst (λ (x : Option (PairCache D)). part_size (store_of mode capacity x t).level + (store_of mode capacity x t).reserved ≤ capacity) (sym is) (unopened_within mode capacity (state_of t))

pub capacity-is : {D : Type 0} (mode : CacheMode) (capacity : ℕ) (o : Option (PairCache D)) (t : Option TwoState) → (store_of mode capacity o t).facts.capacity ≡ capacity
capacity-is mode capacity (Some c) t = refl
capacity-is mode capacity None t = refl

-- the same of what is indexed, whether or not the disks tell
pub bound-opened : {D : Type 0} (mode : CacheMode) (capacity : ℕ) (o : Option (PairCache D)) (t : Option TwoState) (c : PairCache D) → o ≡ Some c → option_map_or (λ (x : PairCache D). x.store.capacity) o capacity ≡ capacity → IsSound c.store
    → bytes_of capacity o t + (store_of mode capacity o t).reserved ≤ capacity
bound-opened {D} mode capacity o t c is limit sound =
    let same : c.store.capacity ≡ capacity = ap (λ (x : Option (PairCache D)). option_map_or (λ y. y.store.capacity) x capacity) (sym is) ∙ limit in
    subst (λ (x : Option (PairCache D)). bytes_of capacity x t + (store_of mode capacity x t).reserved ≤ capacity) (sym is) (subst (λ (n : ℕ). indexed c.store + declared c.store.pending.slots ≤ n) same sound.fits)

unopened_bound : (mode : CacheMode) (capacity : ℕ) (d : DiskState) → total measure (reopened capacity (told_files d.told)) + 0 ≤ capacity
unopened_bound mode capacity d = let most : total measure (reopened capacity (told_files d.told)) ≤ capacity = fits_reopened capacity (told_files d.told) in omega (arith, most)

pub bound-unopened : {D : Type 0} (mode : CacheMode) (capacity : ℕ) (o : Option (PairCache D)) (t : Option TwoState) → o ≡ None → bytes_of capacity o t + (store_of mode capacity o t).reserved ≤ capacity
bound-unopened {D} mode capacity o t is = subst (λ (x : Option (PairCache D)). bytes_of capacity x t + (store_of mode capacity x t).reserved ≤ capacity) (sym is) (unopened_bound mode capacity (state_of t))
