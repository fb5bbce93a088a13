-- The files that are left once an opening has removed some, and what a second opening indexes of them.
use Rattle.std.proofs.Common.{◌≡◌, ◌⊎◌, inl, inr, ℕ, zero, suc, Bool, true, false, cond, not, ◌&&◌, bytes_eq, List, [], ◌∷◌, length, take, drop, map, None, refl, sym, ap, ◌∙◌, subst, arith}
use lib.Dec.{T}
use Rattle.std.proofs.lemmas.List.Sorted.{IsPermutation-map, ranks_by}
use Rattle.std.proofs.lemmas.Map.Keys.{IsDistinct-head, IsDistinct-tail, IsDistinct-IsPermutation}
use Rattle.std.proofs.lemmas.Map.Text.{is_eq-slice_cmp}
use Rattle.std.specs.Cmp.{IsStrictWeakOrder, IsTotalOrder, nat_cmp_total, on_total, then_total}
use Rattle.std.specs.Cmp.Lexicographic.{slice_cmp, nat_list_cmp_total, nat_list_eq_equiv}
use Rattle.std.specs.FinMap as finite
use Rattle.std.specs.FinMap.Entries.{below_all, is_sorted, find-where_key, is_sorted-where_key, where_key}
use Rattle.std.specs.FinMap.{entries-from_sorted, from_sorted, get-from_sorted, get-remove, nat_cmp-IsAntisymmetric, same_map, slice_cmp-IsAntisymmetric}
use Rattle.std.specs.List.{AllByRecursion, IsDistinct, filter}
use Rattle.std.specs.List.Sorted.{IsPermutation, IsSorted}
use Rattle.std.specs.Map.{keys_of}
use Rattle.std.specs.Ordering.{is_eq, is_lt, nat_cmp, ordering_reverse, ordering_then}
use Rattle.std.specs.declared.cmp.Ordering.{Ordering}
use Rattle.std.specs.declared.cmp.Ordering.TheVariants.{Less, Equal, Greater}
use Rattle.sc_lru.proofs.Measures.{suffix_within-over}
use Rattle.sc_lru.specs.LruCache.{suffix_within}
use Rattle.sc_disk.specs.Disks.{DiskFiles, change, listing, replay}
use Rattle.sc_disk.specs.Opening.{IsReopened, IsUseOrder, dropped_of, is_kept, kept_of, pair_of, pairs_of, paths_of, use_cmp}
use Rattle.sc_disk.specs.Store.{Needed, firsts, gone, size_of}
use Rattle.sc_disk.specs.declared.change.Change.TheVariants.{Gone}
use Rattle.sc_disk.specs.declared.disk.Listed.{Listed}
use Rattle.sc_disk.specs.declared.disk_file.DiskFile.{DiskFile}
use Rattle.sc_disk.proofs.Doing.{replay-append}
use Rattle.sc_disk.proofs.Files.{same_path, self_path}
use Rattle.sc_disk.proofs.Pairs.{Index}
use Rattle.sc_disk.proofs.Rising.{In, OneWay, Rises, all-from, all-in, drop-in, filter-in, in-filter, in-parts, in-perm, parts-apart, perm-in, rises-drop, rises-filter, same-rising, sorted-first, sorted-rest, take-in, true_false}

abbrev by_path : Listed → Listed → Bool
by_path a b = is_lt (slice_cmp nat_cmp a.path b.path)

abbrev by_use : Listed → Listed → Bool
by_use a b = is_lt (use_cmp a b)

path_order : IsStrictWeakOrder by_path
path_order = ranks_by nat_list_cmp_total (λ (e : Listed). e.path)

use_total : IsTotalOrder use_cmp
use_total = then_total (on_total (λ (e : Listed). e.moment) nat_cmp_total) (then_total (on_total (λ (e : Listed). e.path) nat_list_cmp_total) (on_total (λ (e : Listed). e.size) nat_cmp_total))

use_order : IsStrictWeakOrder by_use
use_order = ranks_by use_total (λ (e : Listed). e)

path_way : OneWay by_path
path_way = path_order.one_way

use_way : OneWay by_use
use_way = use_order.one_way

-- A listing's paths rise.
first_holds : (a b : Bool) → T (a && b) → T a
first_holds true b h = tt
first_holds false b h = h

rest_holds : (a b : Bool) → T (a && b) → T b
rest_holds true b h = h
rest_holds false b h = absurd h

is_true : (b : Bool) → T b → b ≡ true
is_true true h = refl
is_true false h = absurd h

abbrev Found : Type 0
Found = List (List ℕ × DiskFile)

abbrev listed_of : List ℕ × DiskFile → Listed
listed_of e = record { path = e.0; size = length e.1.bytes; moment = e.1.moment }

below_found : (x : List ℕ × DiskFile) (es : Found) → T (below_all (slice_cmp nat_cmp) x.0 es) → AllByRecursion (λ y. by_path (listed_of x) y ≡ true) (map listed_of es)
below_found x [] h = tt
below_found x (e ∷ es) h = (
  is_true (is_lt (slice_cmp nat_cmp x.0 e.0)) (first_holds (is_lt (slice_cmp nat_cmp x.0 e.0)) (below_all (slice_cmp nat_cmp) x.0 es) h),
  below_found x es (rest_holds (is_lt (slice_cmp nat_cmp x.0 e.0)) (below_all (slice_cmp nat_cmp) x.0 es) h),
)

rises_found : (es : Found) → T (is_sorted (slice_cmp nat_cmp) es) → Rises by_path (map listed_of es)
rises_found [] h = tt
rises_found (e ∷ es) h = (
  below_found e es (first_holds (below_all (slice_cmp nat_cmp) e.0 es) (is_sorted (slice_cmp nat_cmp) es) h),
  rises_found es (rest_holds (below_all (slice_cmp nat_cmp) e.0 es) (is_sorted (slice_cmp nat_cmp) es) h),
)

rises-listing : (f : DiskFiles) → Rises by_path (listing f)
rises-listing f = rises_found (finite.entries f) (finite.entries_sorted f)

below_itself : (x b : Listed) → by_path x b ≡ true → x.path ≡ b.path → ⊥
below_itself x b t same = true_false (by_path x b) t (ap (λ k. is_lt (slice_cmp nat_cmp k b.path)) same ∙ ap (λ k. is_lt (slice_cmp nat_cmp b.path k)) (sym same) ∙ path_way x b t)

-- one file of a listing has a path
same-listed : (all : List Listed) (a b : Listed) → Rises by_path all → In a all → In b all → bytes_eq a.path b.path ≡ true → a ≡ b
same-listed [] a b r i j h = absurd i
same-listed (x ∷ xs) a b r (inl e) (inl f) h = sym e ∙ f
same-listed (x ∷ xs) a b r (inl e) (inr j) h = absurd (below_itself x b (all-in (λ y. by_path x y ≡ true) xs b r.0 j) (ap (λ (y : Listed). y.path) e ∙ same_path a.path b.path h))
same-listed (x ∷ xs) a b r (inr i) (inl f) h = absurd (below_itself x a (all-in (λ y. by_path x y ≡ true) xs a r.0 i) (ap (λ (y : Listed). y.path) f ∙ sym (same_path a.path b.path h)))
same-listed (x ∷ xs) a b r (inr i) (inr j) h = same-listed xs a b r.1 i j h

-- One file less.
abbrev without : List ℕ → List Listed → List Listed
without k all = filter (λ e. not (bytes_eq e.path k)) all

abbrev keeps_other : List ℕ → List ℕ → Bool
keeps_other k q = not (bytes_eq q k)

alike : (k q x : List ℕ) → slice_cmp nat_cmp q x ≡ Equal → keeps_other k x ≡ keeps_other k q
alike k q x h = ap (keeps_other k) (sym (same_path q x (sym (is_eq-slice_cmp q x) ∙ ap is_eq h)))

listed-without : (k : List ℕ) (es : Found) → map listed_of (where_key (slice_cmp nat_cmp) (keeps_other k) es) ≡ without k (map listed_of es)
listed-without k [] = refl
listed-without k (e ∷ es) = (elim (keeps_other k e.0) as (λ b. map listed_of (cond b (e ∷ where_key (slice_cmp nat_cmp) (keeps_other k) es) (where_key (slice_cmp nat_cmp) (keeps_other k) es)) ≡ cond b (listed_of e ∷ without k (map listed_of es)) (without k (map listed_of es))) [
  | true ↦ ap (λ l. listed_of e ∷ l) (listed-without k es)
  | false ↦ listed-without k es
])

turn : {X : Type 0} (b : Bool) (x y : X) → cond (not b) x y ≡ cond b y x
turn true x y = refl
turn false x y = refl

listing-removed : (k : List ℕ) (f : DiskFiles) → listing (change (Gone k) f) ≡ without k (listing f)
listing-removed k f =
    let es = finite.entries f in
    let kept = where_key (slice_cmp nat_cmp) (keeps_other k) es in
    let up : T (is_sorted (slice_cmp nat_cmp) kept) = is_sorted-where_key (slice_cmp nat_cmp) (keeps_other k) es (finite.entries_sorted f) in
    let same : change (Gone k) f ≡ from_sorted kept = same_map nat_list_cmp_total (slice_cmp-IsAntisymmetric nat_cmp-IsAntisymmetric) _ _ (λ q.
    get-remove nat_list_cmp_total f k q ∙ ap (λ b. cond b None (finite.get f q)) (is_eq-slice_cmp q k) ∙ sym (turn (bytes_eq q k) (finite.get f q) None)
    ∙ ap (λ o. cond (keeps_other k q) o None) (finite.get-entries f q)
    ∙ sym (get-from_sorted (slice_cmp nat_cmp) kept q up ∙ find-where_key (slice_cmp nat_cmp) (keeps_other k) q (λ x h. alike k q x h) es)) in
    ap (map listed_of) (ap finite.entries same ∙ entries-from_sorted (slice_cmp nat_cmp) kept up) ∙ listed-without k es

not-true : (b : Bool) → not b ≡ true → b ≡ false
not-true true h = absurd (true_false true refl (sym h))
not-true false h = refl

-- what a listing has once files are gone
pub in-remaining : (ls : List (List ℕ)) (f : DiskFiles) (e : Listed) → In e (listing (replay f (gone ls))) → In e (listing f) × AllByRecursion (λ k. bytes_eq e.path k ≡ false) ls
in-remaining [] f e i = (i, tt)
in-remaining (k ∷ ls) f e i =
    let on = in-remaining ls (change (Gone k) f) e (subst (λ g. In e (listing g)) (replay-append f (gone ls) (Gone k ∷ [])) i) in
    let first = in-filter (λ (x : Listed). not (bytes_eq x.path k)) (listing f) e (subst (In e) (listing-removed k f) on.0) in
    (first.1, (not-true (bytes_eq e.path k) first.0, on.1))

pub remains : (ls : List (List ℕ)) (f : DiskFiles) (e : Listed) → In e (listing f) → AllByRecursion (λ k. bytes_eq e.path k ≡ false) ls → In e (listing (replay f (gone ls)))
remains [] f e i a = i
remains (k ∷ ls) f e i a = subst (λ g. In e (listing g)) (sym (replay-append f (gone ls) (Gone k ∷ [])))
    (remains ls (change (Gone k) f) e (subst (In e) (sym (listing-removed k f)) (filter-in (λ (x : Listed). not (bytes_eq x.path k)) (listing f) e (ap not a.0) i)) a.1)

-- a path of a list is that of one of its files
in-paths : (all : List Listed) (k : List ℕ) → In k (paths_of all) → (d : Listed) × In d all × (d.path ≡ k)
in-paths [] k i = absurd i
in-paths (x ∷ xs) k (inl e) = (x, inl refl, e)
in-paths (x ∷ xs) k (inr i) = let on = in-paths xs k i in (on.0, inr on.1, on.2)

in-firsts : (n : ℕ) (all : List Listed) (k : List ℕ) → In k (firsts n (pairs_of all)) → (d : Listed) × In d (take n all) × (d.path ≡ k)
in-firsts zero [] k i = absurd i
in-firsts zero (x ∷ xs) k i = absurd i
in-firsts (suc n) [] k i = absurd i
in-firsts (suc n) (x ∷ xs) k (inl e) = (x, inl refl, e)
in-firsts (suc n) (x ∷ xs) k (inr i) = let on = in-firsts n xs k i in (on.0, inr on.1, on.2)

firsts-in : (n : ℕ) (all : List Listed) (d : Listed) → In d (take n all) → In d.path (firsts n (pairs_of all))
firsts-in zero [] d i = absurd i
firsts-in zero (x ∷ xs) d i = absurd i
firsts-in (suc n) [] d i = absurd i
firsts-in (suc n) (x ∷ xs) d (inl e) = inl (ap (λ (y : Listed). y.path) e)
firsts-in (suc n) (x ∷ xs) d (inr i) = inr (firsts-in n xs d i)

apart-by : (p k : List ℕ) → (bytes_eq p k ≡ true → ⊥) → bytes_eq p k ≡ false
apart-by p k h = by (bytes_eq p k) h
  where
    by : (b : Bool) → (b ≡ true → ⊥) → b ≡ false
    by true h = absurd (h refl)
    by false h = refl

-- a file that is kept isn't one of those that aren't
kept-apart : (capacity : ℕ) (f : DiskFiles) (e : Listed) (k : List ℕ) → is_kept capacity e ≡ true → In e (listing f) → In k (paths_of (dropped_of capacity (listing f))) → bytes_eq e.path k ≡ false
kept-apart capacity f e k keeps i j =
    let d = in-paths (dropped_of capacity (listing f)) k j in
    let was = in-filter (λ (x : Listed). not (is_kept capacity x)) (listing f) d.0 d.1 in
    apart-by e.path k (λ t. true_false (is_kept capacity e) keeps (ap (is_kept capacity) (same-listed (listing f) e d.0 (rises-listing f) i was.1 (ap (bytes_eq e.path) d.2 ∙ t)) ∙ not-true (is_kept capacity d.0) was.0))

-- files were removed that aren't kept: the same are kept
pub kept-same : (capacity : ℕ) (f : DiskFiles) (ls : List (List ℕ)) → ((k : List ℕ) → In k ls → In k (paths_of (dropped_of capacity (listing f)))) → kept_of capacity (listing (replay f (gone ls))) ≡ kept_of capacity (listing f)
kept-same capacity f ls sub = let c : DiskFiles = replay f (gone ls) in same-rising by_path path_way (kept_of capacity (listing c)) (kept_of capacity (listing f)) (rises-filter by_path (is_kept capacity) (listing c) (rises-listing c)) (rises-filter by_path (is_kept capacity) (listing f) (rises-listing f))
    (λ e i. let p = in-filter (is_kept capacity) (listing c) e i in filter-in (is_kept capacity) (listing f) e p.0 (in-remaining ls f e p.1).0)
    (λ e i. let p = in-filter (is_kept capacity) (listing f) e i in filter-in (is_kept capacity) (listing c) e p.0 (remains ls f e p.1 (all-from (λ k. bytes_eq e.path k ≡ false) ls (λ k j. kept-apart capacity f e k p.0 p.1 (sub k j)))))

-- Files of distinct paths in the order of their use rise.
after : (o : Ordering) → is_lt (ordering_reverse o) ≡ false → is_eq o ≡ false → is_lt o ≡ true
after Less h n = refl
after Equal h n = absurd (true_false true refl n)
after Greater h n = absurd (true_false true refl h)

second_apart : (a b c : Ordering) → is_eq b ≡ false → is_eq (ordering_then a (ordering_then b c)) ≡ false
second_apart Less b c h = refl
second_apart Greater b c h = refl
second_apart Equal Less c h = refl
second_apart Equal Greater c h = refl
second_apart Equal Equal c h = absurd (true_false true refl h)

strict : (x y : Listed) → by_use y x ≡ false → bytes_eq x.path y.path ≡ false → by_use x y ≡ true
strict x y h n = after (use_cmp x y) (ap is_lt (sym (use_total.antisymm y x)) ∙ h)
    (second_apart (nat_cmp x.moment y.moment) (slice_cmp nat_cmp x.path y.path) (nat_cmp x.size y.size) (is_eq-slice_cmp x.path y.path ∙ n))

strict-all : (x : Listed) (xs : List Listed) → AllByRecursion (λ y. by_use y x ≡ false) xs → AllByRecursion (λ k. bytes_eq x.path k ≡ false) (keys_of (pairs_of xs)) → AllByRecursion (λ y. by_use x y ≡ true) xs
strict-all x [] a b = tt
strict-all x (y ∷ xs) a b = (strict x y a.0 b.0, strict-all x xs a.1 b.1)

rises-sorted : (xs : List Listed) → IsSorted use_cmp xs → IsDistinct bytes_eq (keys_of (pairs_of xs)) → Rises by_use xs
rises-sorted [] up d = tt
rises-sorted (x ∷ xs) up d = (
  strict-all x xs (sorted-first by_use use_order x xs up) (IsDistinct-head bytes_eq x.path (keys_of (pairs_of xs)) d),
  rises-sorted xs (sorted-rest by_use x xs up) (IsDistinct-tail bytes_eq x.path (keys_of (pairs_of xs)) d),
)

less-apart : (o : Ordering) → is_lt o ≡ true → is_eq o ≡ false
less-apart Less h = refl
less-apart Equal h = absurd (true_false true refl (sym h))
less-apart Greater h = absurd (true_false true refl (sym h))

apart-all : (x : Listed) (xs : List Listed) → AllByRecursion (λ y. by_path x y ≡ true) xs → AllByRecursion (λ k. bytes_eq x.path k ≡ false) (keys_of (pairs_of xs))
apart-all x [] a = tt
apart-all x (y ∷ xs) a = (sym (is_eq-slice_cmp x.path y.path) ∙ less-apart (slice_cmp nat_cmp x.path y.path) a.0, apart-all x xs a.1)

distinct-rising : (xs : List Listed) → Rises by_path xs → IsDistinct bytes_eq (keys_of (pairs_of xs))
unfolding IsDistinct
distinct-rising [] r = tt
distinct-rising (x ∷ xs) r = (apart-all x xs r.0, distinct-rising xs r.1)

pub rises-order : (capacity : ℕ) (f : DiskFiles) (order : List Listed) → IsUseOrder capacity f order → Rises by_use order
rises-order capacity f order o = rises-sorted order o.sorted
    (IsDistinct-IsPermutation bytes_eq nat_list_eq_equiv.symm (keys_of (pairs_of kept)) (keys_of (pairs_of order)) (IsPermutation-map (λ (e : List ℕ × ℕ). e.0) (pairs_of kept) (pairs_of order) (IsPermutation-map pair_of kept order o.same))
    (distinct-rising kept (rises-filter by_path (is_kept capacity) (listing f) (rises-listing f))))
  where
    kept : List Listed
    kept = kept_of capacity (listing f)

-- Then the first ones in the order of their use were removed too: what is left has that order.
pub order-left : (capacity : ℕ) (f : DiskFiles) (order later : List Listed) (m : ℕ) (ls : List (List ℕ)) → IsUseOrder capacity f order → ((k : List ℕ) → In k ls → In k (paths_of (dropped_of capacity (listing f))) ⊎ In k (firsts m (pairs_of order)))
    → ((k : List ℕ) → In k (firsts m (pairs_of order)) → In k ls) → IsUseOrder capacity (replay f (gone ls)) later → later ≡ drop m order
order-left capacity f order later m ls o sub all l =
    let c : DiskFiles = replay f (gone ls) in
    let up : Rises by_use order = rises-order capacity f order o in
    same-rising by_use use_way later (drop m order) (rises-order capacity c later l) (rises-drop by_use m order up)
    (λ e i. let p = in-filter (is_kept capacity) (listing c) e (perm-in (kept_of capacity (listing c)) later l.same e i) in
    let r = in-remaining ls f e p.1 in
    elim (in-parts m order e (in-perm (kept_of capacity (listing f)) order o.same e (filter-in (is_kept capacity) (listing f) e p.0 r.0))) [
      | inl j ↦ absurd (true_false (bytes_eq e.path e.path) (self_path e.path) (all-in (λ k. bytes_eq e.path k ≡ false) ls e.path r.1 (all e.path (firsts-in m order e j))))
      | inr j ↦ j
    ])
    (λ e i. let p = in-filter (is_kept capacity) (listing f) e (perm-in (kept_of capacity (listing f)) order o.same e (drop-in m order e i)) in
    in-perm (kept_of capacity (listing c)) later l.same e (filter-in (is_kept capacity) (listing c) e p.0 (remains ls f e p.1 (all-from (λ k. bytes_eq e.path k ≡ false) ls (λ k j. elim (sub k j) [
      | inl d ↦ kept-apart capacity f e k p.0 p.1 d
      | inr d ↦ let g = in-firsts m order k d in
          let there = in-filter (is_kept capacity) (listing f) g.0 (perm-in (kept_of capacity (listing f)) order o.same g.0 (take-in m order g.0 g.1)) in
          apart-by e.path k (λ t. parts-apart by_use use_way m order e up (subst (λ x. In x (take m order)) (sym (same-listed (listing f) e g.0 (rises-listing f) p.1 there.1 (ap (bytes_eq e.path) g.2 ∙ t))) g.1) i)
    ])))))

pairs-drop : (m : ℕ) (xs : List Listed) → pairs_of (drop m xs) ≡ drop m (pairs_of xs)
pairs-drop zero [] = refl
pairs-drop zero (x ∷ xs) = refl
pairs-drop (suc m) [] = refl
pairs-drop (suc m) (x ∷ xs) = pairs-drop m xs

-- those that had to go are in no end that fits
pub suffix-dropped : (capacity m : ℕ) (es : Index) → Needed capacity m es → suffix_within size_of capacity (drop m es) ≡ suffix_within size_of capacity es
suffix-dropped capacity zero [] h = refl
suffix-dropped capacity zero (e ∷ es) h = refl
suffix-dropped capacity (suc m) [] h = refl
suffix-dropped capacity (suc m) (e ∷ es) h = suffix-dropped capacity m es (λ j l. h (suc j) (omega (arith, l))) ∙ sym (suffix_within-over size_of capacity (e ∷ es) (h 0 (omega arith)))

-- what a second opening indexes of the files that a first one left
pub reopened-same : (capacity : ℕ) (f : DiskFiles) (ls : List (List ℕ)) (index : Index) → ((k : List ℕ) → In k ls → In k (paths_of (dropped_of capacity (listing f)))) → IsReopened capacity (replay f (gone ls)) index → IsReopened capacity f index
unfolding IsReopened
reopened-same capacity f ls index sub r = (r.0, record { same = subst (λ (l : List Listed). IsPermutation l r.0) (kept-same capacity f ls sub) r.1.same; sorted = r.1.sorted }, r.2)

pub reopened-left : (capacity : ℕ) (f : DiskFiles) (order : List Listed) (m : ℕ) (ls : List (List ℕ)) (index : Index) → IsUseOrder capacity f order → Needed capacity m (pairs_of order)
    → ((k : List ℕ) → In k ls → In k (paths_of (dropped_of capacity (listing f))) ⊎ In k (firsts m (pairs_of order))) → ((k : List ℕ) → In k (firsts m (pairs_of order)) → In k ls) → IsReopened capacity (replay f (gone ls)) index → IsReopened capacity f index
unfolding IsReopened
reopened-left capacity f order m ls index o needed sub all r = (
  order,
  o,
  r.2 ∙ ap (λ l. suffix_within size_of capacity (pairs_of l)) (order-left capacity f order r.0 m ls o sub all r.1) ∙ ap (suffix_within size_of capacity) (pairs-drop m order) ∙ suffix-dropped capacity m (pairs_of order) needed,
)
