-- The steps of an opening.
use Rattle.std.proofs.Common.{◌≡◌, inl, inr, ℕ, zero, suc, ◌+◌, ◌-◌, ◌<◌, ◌≤◌, Bool, true, false, cond, not, ◌&&◌, nat_le, is_some, bytes_eq, List, [], ◌∷◌, ◌++◌, length, map, drop, slice_index_or, option_map, Option, Some, None, refl, sym, ap, ◌∙◌, subst, arith, append_assoc, length-append}
use native.Mathlib.Decide.{dec_lt}
use lib.Dec.{T}
use Rattle.std.proofs.lemmas.Bool.Decides.{nat_tests}
use Rattle.std.proofs.lemmas.List.Elements.{All-from_recursion, recursion_from_All}
use Rattle.std.proofs.lemmas.List.Sorted.{All-permutation, IsPermutation-map}
use Rattle.std.proofs.lemmas.Map.Keys.{IsDistinct-head, IsDistinct-tail, IsDistinct-cons, IsDistinct-IsPermutation}
use Rattle.std.proofs.lemmas.Map.Text.{is_eq-slice_cmp}
use Rattle.indexmap.proofs.MapLemmas.{lookup_permutation}
use Rattle.std.specs.Cmp.Lexicographic.{slice_cmp, nat_list_eq_equiv}
use Rattle.std.specs.FinMap as finite
use Rattle.std.specs.FinMap.Entries.{below_all, is_sorted, find}
use Rattle.std.specs.List.{AllByRecursion, IsDistinct}
use Rattle.std.specs.List.Sorted.{IsPermutation, IsSorted}
use Rattle.std.specs.Map.{keys_of, lookup, remove_entry}
use Rattle.std.specs.Ordering.{nat_cmp, is_eq, is_lt}
use Rattle.std.specs.declared.cmp.Ordering.{Ordering}
use Rattle.std.specs.declared.cmp.Ordering.TheVariants.{Less, Equal, Greater}
use Rattle.sc_entry.specs.Causes.{IfTold}
use Rattle.sc_lru.proofs.Measures.{suffix_within-fits, suffix_within-over, total-cons, total-push}
use Rattle.sc_lru.specs.LruCache.{suffix_within, total}
use Rattle.sc_disk.specs.Disks.{ArePlaced, DiskFiles, DiskRecord, DiskState, Does, IsListing, change, disk_file_at, files_now, has_place, listing, replay}
use Rattle.sc_disk.specs.Names.{is_temporary_path}
use Rattle.sc_disk.specs.Opening.{Begins, Follows, Indexes, IsReopened, RefusesOpening, Reopens, dropped_of, is_kept, kept_of, pair_of, pairs_of, paths_of, use_cmp}
use Rattle.sc_disk.specs.Store.{AreKeys, HasFiles, Keeps, Needed, NoStray, filed, firsts, gone, size_of}
use Rattle.sc_disk.specs.declared.change.Change.{Change}
use Rattle.sc_disk.specs.declared.change.Change.TheVariants.{Gone}
use Rattle.sc_disk.specs.declared.disk.Listed.{Listed}
use Rattle.sc_disk.specs.declared.disk_file.DiskFile.{DiskFile}
use Rattle.sc_disk.specs.declared.pending.Pending.{Pending}
use Rattle.sc_disk.proofs.Changing.{AreKeys-first, at-gone, size}
use Rattle.sc_disk.proofs.Doing.{does-after, replay-append, told-all, told-map}
use Rattle.sc_disk.proofs.Evictions.{gone-append}
use Rattle.sc_disk.proofs.Files.{at-removed, same_path}
use Rattle.sc_disk.proofs.Names.{both, not-true}
use Rattle.sc_disk.proofs.Places.{placed-filtered}
use Rattle.sc_disk.proofs.Pairs.{Index, lookup-later, removed-none}

-- the files are these, of these sizes, and no others
pub record AreFiles (all : Index) (f : DiskFiles) : Type 0 where
  pub distinct : IsDistinct bytes_eq (keys_of all)
  pub same : (q : List ℕ) → option_map size (disk_file_at f q) ≡ lookup (bytes_eq q) all

-- A listing has each file once, and no others.
less_not_equal : (o : Ordering) → T (is_lt o) → is_eq o ≡ false
less_not_equal Less h = refl
less_not_equal Equal h = absurd h
less_not_equal Greater h = absurd h

first_holds : (a b : Bool) → T (a && b) → T a
first_holds true b h = tt
first_holds false b h = h

rest_holds : (a b : Bool) → T (a && b) → T b
rest_holds true b h = h
rest_holds false b h = absurd h

abbrev Found : Type 0
Found = List (List ℕ × DiskFile)

abbrev listed_of : List ℕ × DiskFile → Listed
listed_of e = record { path = e.0; size = length e.1.bytes; moment = e.1.moment }

abbrev sizes_of : Found → Index
sizes_of es = pairs_of (map listed_of es)

apart_keys : (k : List ℕ) (es : Found) → T (below_all (slice_cmp nat_cmp) k es) → AllByRecursion (λ y. bytes_eq k y ≡ false) (keys_of (sizes_of es))
apart_keys k [] h = tt
apart_keys k (e ∷ es) h = (
  sym (is_eq-slice_cmp k e.0) ∙ less_not_equal (slice_cmp nat_cmp k e.0) (first_holds (is_lt (slice_cmp nat_cmp k e.0)) (below_all (slice_cmp nat_cmp) k es) h),
  apart_keys k es (rest_holds (is_lt (slice_cmp nat_cmp k e.0)) (below_all (slice_cmp nat_cmp) k es) h),
)

distinct_sorted : (es : Found) → T (is_sorted (slice_cmp nat_cmp) es) → IsDistinct bytes_eq (keys_of (sizes_of es))
unfolding IsDistinct
distinct_sorted [] h = tt
distinct_sorted (e ∷ es) h = (
  apart_keys e.0 es (first_holds (below_all (slice_cmp nat_cmp) e.0 es) (is_sorted (slice_cmp nat_cmp) es) h),
  distinct_sorted es (rest_holds (below_all (slice_cmp nat_cmp) e.0 es) (is_sorted (slice_cmp nat_cmp) es) h),
)

found_size : (b : Bool) (x : DiskFile) (o : Option DiskFile) → option_map size (cond b (Some x) o) ≡ cond b (Some (size x)) (option_map size o)
found_size true x o = refl
found_size false x o = refl

lookup_sizes : (q : List ℕ) (es : Found) → option_map size (find (slice_cmp nat_cmp) q es) ≡ lookup (bytes_eq q) (sizes_of es)
lookup_sizes q [] = refl
lookup_sizes q (e ∷ es) = found_size (is_eq (slice_cmp nat_cmp q e.0)) e.1 (find (slice_cmp nat_cmp) q es)
    ∙ ap (λ b. cond b (Some (size e.1)) (option_map size (find (slice_cmp nat_cmp) q es))) (is_eq-slice_cmp q e.0)
    ∙ ap (cond (bytes_eq q e.0) (Some (size e.1))) (lookup_sizes q es)

pub files_listed : (f : DiskFiles) → AreFiles (pairs_of (listing f)) f
files_listed f = record {
  distinct = distinct_sorted (finite.entries f) (finite.entries_sorted f);
  same = λ q. ap (option_map size) (finite.get-entries f q) ∙ lookup_sizes q (finite.entries f);
}

-- One file goes, wherever it stands in the list.
all_cut : (k : List ℕ) (front rest : Index) (x : List ℕ × ℕ) → AllByRecursion (λ y. bytes_eq k y ≡ false) (keys_of (front ++ x ∷ rest)) → AllByRecursion (λ y. bytes_eq k y ≡ false) (keys_of (front ++ rest))
all_cut k [] rest x h = h.1
all_cut k (e ∷ front) rest x h = (h.0, all_cut k front rest x h.1)

all_at : (k : List ℕ) (front rest : Index) (x : List ℕ × ℕ) → AllByRecursion (λ y. bytes_eq k y ≡ false) (keys_of (front ++ x ∷ rest)) → bytes_eq k x.0 ≡ false
all_at k [] rest x h = h.0
all_at k (e ∷ front) rest x h = all_at k front rest x h.1

distinct_cut : (front rest : Index) (x : List ℕ × ℕ) → IsDistinct bytes_eq (keys_of (front ++ x ∷ rest)) → IsDistinct bytes_eq (keys_of (front ++ rest))
distinct_cut [] rest x d = IsDistinct-tail bytes_eq x.0 (keys_of rest) d
distinct_cut (e ∷ front) rest x d = IsDistinct-cons bytes_eq e.0 (keys_of (front ++ rest)) (all_cut e.0 front rest x (IsDistinct-head bytes_eq e.0 (keys_of (front ++ x ∷ rest)) d))
    (distinct_cut front rest x (IsDistinct-tail bytes_eq e.0 (keys_of (front ++ x ∷ rest)) d))

lookup_cut : (q : List ℕ) (front rest : Index) (x : List ℕ × ℕ) → bytes_eq q x.0 ≡ false → lookup (bytes_eq q) (front ++ x ∷ rest) ≡ lookup (bytes_eq q) (front ++ rest)
lookup_cut q [] rest x h = ap (λ b. cond b (Some x.1) (lookup (bytes_eq q) rest)) h
lookup_cut q (e ∷ front) rest x h = ap (cond (bytes_eq q e.0) (Some e.1)) (lookup_cut q front rest x h)

none_found : (k : List ℕ) (es : Index) → AllByRecursion (λ y. bytes_eq k y ≡ false) (keys_of es) → lookup (bytes_eq k) es ≡ None
none_found k [] h = refl
none_found k (e ∷ es) h = ap (λ b. cond b (Some e.1) (lookup (bytes_eq k) es)) h.0 ∙ none_found k es h.1

turned : (q k : List ℕ) → bytes_eq q k ≡ false → bytes_eq k q ≡ false
turned q k h = (nat_list_eq_equiv).symm k q ∙ h

absent_cut : (front rest : Index) (x : List ℕ × ℕ) → IsDistinct bytes_eq (keys_of (front ++ x ∷ rest)) → lookup (bytes_eq x.0) (front ++ rest) ≡ None
absent_cut [] rest x d = none_found x.0 rest (IsDistinct-head bytes_eq x.0 (keys_of rest) d)
absent_cut (e ∷ front) rest x d = ap (λ b. cond b (Some e.1) (lookup (bytes_eq x.0) (front ++ rest))) (turned e.0 x.0 (all_at e.0 front rest x (IsDistinct-head bytes_eq e.0 (keys_of (front ++ x ∷ rest)) d)))
    ∙ absent_cut front rest x (IsDistinct-tail bytes_eq e.0 (keys_of (front ++ x ∷ rest)) d)

pub files_cut : (front rest : Index) (x : List ℕ × ℕ) (f : DiskFiles) → AreFiles (front ++ x ∷ rest) f → AreFiles (front ++ rest) (change (Gone x.0) f)
files_cut front rest x f w = record {
  distinct = distinct_cut front rest x w.distinct;
  same = λ q. (elim (bytes_eq q x.0) as (λ y. bytes_eq q x.0 ≡ y → option_map size (disk_file_at (change (Gone x.0) f) q) ≡ lookup (bytes_eq q) (front ++ rest)) [
    | true ↦ λ u. ap (option_map size) (at-removed f x.0 q ∙ ap (λ b. cond b None (disk_file_at f q)) u) ∙ sym (ap (λ n. lookup (bytes_eq n) (front ++ rest)) (same_path q x.0 u) ∙ absent_cut front rest x w.distinct)
    | false ↦ λ u. ap (option_map size) (at-gone f x.0 q u) ∙ w.same q ∙ lookup_cut q front rest x u
  ]) refl;
}

pub files_evicted : (n : ℕ) (es pend : Index) (f : DiskFiles) → AreFiles (es ++ pend) f → AreFiles (drop n es ++ pend) (replay f (gone (firsts n es)))
files_evicted zero [] pend f w = w
files_evicted zero (e ∷ es) pend f w = w
files_evicted (suc n) [] pend f w = w
files_evicted (suc n) (e ∷ es) pend f w = subst (AreFiles (drop n es ++ pend)) (sym (replay-append f (gone (firsts n es)) (Gone e.0 ∷ [])))
    (files_evicted n es pend (change (Gone e.0) f) (files_cut [] (es ++ pend) e f w))

pub files_sorted : (es fs : Index) (f : DiskFiles) → IsPermutation es fs → AreFiles es f → AreFiles fs f
files_sorted es fs f p w =
    let d : IsDistinct bytes_eq (keys_of fs) = IsDistinct-IsPermutation bytes_eq nat_list_eq_equiv.symm (keys_of es) (keys_of fs) (IsPermutation-map (λ (e : List ℕ × ℕ). e.0) es fs p) w.distinct in
    record { distinct = d; same = λ q. w.same q ∙ sym (lookup_permutation nat_list_eq_equiv es fs p d (bytes_eq q) (λ x y t. ap (λ k. bytes_eq k y) (same_path q x t))) }

-- The longest end that fits.
pub needed_suffix : (limit n : ℕ) (es : Index) → Needed limit n es → total size_of (drop n es) ≤ limit → drop n es ≡ suffix_within size_of limit es
needed_suffix limit zero [] h k = refl
needed_suffix limit zero (e ∷ es) h k = sym (suffix_within-fits size_of limit (e ∷ es) k)
needed_suffix limit (suc n) [] h k = refl
needed_suffix limit (suc n) (e ∷ es) h k = needed_suffix limit n es (λ m l. h (suc m) (omega (arith, l))) k ∙ sym (suffix_within-over size_of limit (e ∷ es) (h 0 (omega arith)))

-- Steps of the second pass, which indexes files and evicts the first ones.
pairs-append : (xs ys : List Listed) → pairs_of (xs ++ ys) ≡ pairs_of xs ++ pairs_of ys
pairs-append [] ys = refl
pairs-append (x ∷ xs) ys = ap (λ l. pair_of x ∷ l) (pairs-append xs ys)

length-pairs : (xs : List Listed) → length (pairs_of xs) ≡ length xs
length-pairs [] = refl
length-pairs (x ∷ xs) = ap suc (length-pairs xs)

drop-push : (n : ℕ) (es : Index) (x : List ℕ × ℕ) → n ≤ length es → drop n (es ++ x ∷ []) ≡ drop n es ++ x ∷ []
drop-push zero [] x h = refl
drop-push zero (e ∷ es) x h = refl
drop-push (suc n) [] x h = absurd (omega arith)
drop-push (suc n) (e ∷ es) x h = drop-push n es x (omega (arith, h))

drop-drop : (n m : ℕ) (es : Index) → drop m (drop n es) ≡ drop (n + m) es
drop-drop n m es = by n m es (n + m) refl
  where
    by : (n m : ℕ) (es : Index) (k : ℕ) → k ≡ n + m → drop m (drop n es) ≡ drop k es
    by zero m [] k h = ap (λ i. drop i []) (sym (h ∙ omega arith))
    by zero m (e ∷ es) k h = ap (λ i. drop i (e ∷ es)) (sym (h ∙ omega arith))
    by (suc n) zero [] zero h = refl
    by (suc n) zero [] (suc k) h = refl
    by (suc n) (suc m) [] zero h = refl
    by (suc n) (suc m) [] (suc k) h = refl
    by (suc n) m (e ∷ es) zero h = absurd (omega (arith, h))
    by (suc n) m (e ∷ es) (suc k) h = by n m es k (omega (arith, h))

firsts-push : (n : ℕ) (es : Index) (x : List ℕ × ℕ) → n ≤ length es → firsts n (es ++ x ∷ []) ≡ firsts n es
firsts-push zero [] x h = refl
firsts-push zero (e ∷ es) x h = refl
firsts-push (suc n) [] x h = absurd (omega arith)
firsts-push (suc n) (e ∷ es) x h = ap (λ l. e.0 ∷ l) (firsts-push n es x (omega (arith, h)))

firsts-then : (n m : ℕ) (es : Index) → firsts n es ++ firsts m (drop n es) ≡ firsts (n + m) es
firsts-then n m es = by n m es (n + m) refl
  where
    by : (n m : ℕ) (es : Index) (k : ℕ) → k ≡ n + m → firsts n es ++ firsts m (drop n es) ≡ firsts k es
    by zero m [] k h = ap (λ i. firsts i []) (sym (h ∙ omega arith))
    by zero m (e ∷ es) k h = ap (λ i. firsts i (e ∷ es)) (sym (h ∙ omega arith))
    by (suc n) zero [] zero h = refl
    by (suc n) zero [] (suc k) h = refl
    by (suc n) (suc m) [] zero h = refl
    by (suc n) (suc m) [] (suc k) h = refl
    by (suc n) m (e ∷ es) zero h = absurd (omega (arith, h))
    by (suc n) m (e ∷ es) (suc k) h = ap (λ l. e.0 ∷ l) (by n m es k (omega (arith, h)))

total-nil : (n : ℕ) → total size_of (drop n []) ≡ 0
total-nil zero = refl
total-nil (suc n) = refl

-- no more go than there are
needed-within : (limit n : ℕ) (es : Index) → Needed limit n es → n ≤ length es
needed-within limit zero es h = omega arith
needed-within limit (suc n) [] h = let over : limit < total size_of (drop 0 []) = h 0 (omega arith) in absurd (omega (arith, over, total-nil 0))
needed-within limit (suc n) (e ∷ es) h = omega (arith, needed-within limit n es (λ m l. h (suc m) (omega (arith, l))))

length-dropped : (n : ℕ) (es : Index) → length (drop n es) ≡ length es - n
length-dropped zero [] = refl
length-dropped zero (e ∷ es) = omega arith
length-dropped (suc n) [] = omega arith
length-dropped (suc n) (e ∷ es) = omega (arith, length-dropped n es)

total-pushed : (n : ℕ) (es : Index) (x : List ℕ × ℕ) → n ≤ length es → total size_of (drop n (es ++ x ∷ [])) ≡ total size_of (drop n es) + x.1
total-pushed n es x h = ap (total size_of) (drop-push n es x h) ∙ total-push size_of (drop n es) x

-- one file more
needed-push : (limit n m : ℕ) (es : Index) (x : List ℕ × ℕ) → x.1 ≤ limit → n + m ≤ length es → Needed limit n es → Needed (limit - x.1) m (drop n es) → Needed limit (n + m) (es ++ x ∷ [])
needed-push limit n m es x small within h k = λ j l. elim (dec_lt j n) [
  | Prim.yes less ↦ let p : limit < total size_of (drop j es) = h j less in omega (arith, p, total-pushed j es x (omega (arith, within, l)))
  | Prim.no not_less ↦ let p : limit - x.1 < total size_of (drop (j - n) (drop n es)) = k (j - n) (omega arith) in
      let at : total size_of (drop (j - n) (drop n es)) ≡ total size_of (drop j es) = ap (total size_of) (drop-drop n (j - n) es) ∙ same j n not_less in
      omega (arith, p, at, small, total-pushed j es x (omega (arith, within, l)))
]
  where
    same : (j n : ℕ) → (j < n → ⊥) → total size_of (drop (n + (j - n)) es) ≡ total size_of (drop j es)
    same j n h = let e : n + (j - n) ≡ j = omega arith in ap (λ i. total size_of (drop i es)) e

absent-dropped : (q : List ℕ) (n : ℕ) (es : Index) → lookup (bytes_eq q) es ≡ None → lookup (bytes_eq q) (drop n es) ≡ None
absent-dropped q zero [] h = h
absent-dropped q zero (e ∷ es) h = h
absent-dropped q (suc n) [] h = h
absent-dropped q (suc n) (e ∷ es) h = absent-dropped q n es (lookup-later q e es h)

absent_front : (q : List ℕ) (es rest : Index) → lookup (bytes_eq q) (es ++ rest) ≡ None → lookup (bytes_eq q) es ≡ None
absent_front q [] rest h = refl
absent_front q (e ∷ es) rest h = (elim (bytes_eq q e.0) as (λ y. cond y (Some e.1) (lookup (bytes_eq q) (es ++ rest)) ≡ None → cond y (Some e.1) (lookup (bytes_eq q) es) ≡ None) [
  | true ↦ λ u. u
  | false ↦ λ u. absent_front q es rest u
]) h

abbrev pub Indexed : ℕ → List Listed → List Listed → Index → List (List ℕ) → Type 0
Indexed capacity all done index removed = IsDistinct bytes_eq (keys_of (pairs_of all)) → (n : ℕ) × Follows capacity n done index removed

absent-next : (before rest all : List Listed) (x : Listed) (n : ℕ) → before ++ x ∷ rest ≡ all → IsDistinct bytes_eq (keys_of (pairs_of all)) → lookup (bytes_eq x.path) (drop n (pairs_of before)) ≡ None
absent-next before rest all x n order distinct =
    let d : IsDistinct bytes_eq (keys_of (pairs_of before ++ pair_of x ∷ pairs_of rest)) = subst (λ (l : Index). IsDistinct bytes_eq (keys_of l)) (ap pairs_of (sym order) ∙ pairs-append before (x ∷ rest)) distinct in
    absent-dropped x.path n (pairs_of before) (absent_front x.path (pairs_of before) (pairs_of rest) (absent_cut (pairs_of before) (pairs_of rest) (pair_of x) d))

followed : (capacity n m : ℕ) (x : Listed) (before : List Listed) (es fs : Index) (removed : List (List ℕ)) → x.size ≤ capacity → Follows capacity n before es removed → Needed (capacity - x.size) m es → fs ≡ filed x.path x.size (drop m es)
    → lookup (bytes_eq x.path) (drop (n + m) (pairs_of before)) ≡ None → Follows capacity (n + m) (before ++ x ∷ []) fs (removed ++ firsts m es)
followed capacity n m x before es fs removed small f needed is absent =
    let ps = pairs_of before in
    let more : Needed (capacity - x.size) m (drop n ps) = subst (λ (l : Index). Needed (capacity - x.size) m l) f.index needed in
    let left : m ≤ length ps - n = subst (λ (k : ℕ). m ≤ k) (length-dropped n ps) (needed-within (capacity - x.size) m (drop n ps) more) in
    let within : n + m ≤ length ps = omega (arith, left, f.within, length-pairs before) in
    let all : pairs_of (before ++ x ∷ []) ≡ ps ++ pair_of x ∷ [] = pairs-append before (x ∷ []) in
    let rest : drop m es ≡ drop (n + m) ps = ap (drop m) f.index ∙ drop-drop n m ps in
    record {
      within = omega (arith, within, length-pairs before, length-append before (x ∷ []));
      needed = subst (λ (l : Index). Needed capacity (n + m) l) (sym all) (needed-push capacity n m ps (pair_of x) small within f.needed more);
      index = is ∙ ap (λ l. remove_entry (bytes_eq x.path) l ++ pair_of x ∷ []) rest ∙ ap (λ l. l ++ pair_of x ∷ []) (removed-none x.path (drop (n + m) ps) absent)
          ∙ sym (ap (drop (n + m)) all ∙ drop-push (n + m) ps (pair_of x) within);
      removed = ap (λ l. l ++ firsts m es) f.removed ∙ ap (λ l. firsts n ps ++ firsts m l) f.index ∙ firsts-then n m ps ∙ sym (ap (firsts (n + m)) all ∙ firsts-push (n + m) ps (pair_of x) within);
    }

-- a file that fits by itself is indexed behind the others
pub admitted : (capacity m : ℕ) (x : Listed) (before rest all : List Listed) (es fs : Index) (removed : List (List ℕ)) → x.size ≤ capacity → Needed (capacity - x.size) m es → fs ≡ filed x.path x.size (drop m es)
    → before ++ x ∷ rest ≡ all → Indexed capacity all before es removed → Indexed capacity all (before ++ x ∷ []) fs (removed ++ firsts m es)
admitted capacity m x before rest all es fs removed small needed is order h = λ d.
    let f = h d in (f.0 + m, followed capacity f.0 m x before es fs removed small f.1 needed is (absent-next before rest all x (f.0 + m) order d))

-- an admission that was refused on its way
pub refused_admission : (capacity m : ℕ) (x : Listed) (before rest all : List Listed) (es : Index) (removed : List (List ℕ)) → x.size ≤ capacity → Needed (capacity - x.size) m es → before ++ x ∷ rest ≡ all → Indexed capacity all before es removed
    → IsDistinct bytes_eq (keys_of (pairs_of all)) → (n : ℕ) × Needed capacity n (pairs_of all) × (removed ++ firsts m es ≡ firsts n (pairs_of all))
refused_admission capacity m x before rest all es removed small needed order h = λ d.
    let f = h d in let n = f.0 in let ps = pairs_of before in
    let more : Needed (capacity - x.size) m (drop n ps) = subst (λ (l : Index). Needed (capacity - x.size) m l) f.1.index needed in
    let left : m ≤ length ps - n = subst (λ (k : ℕ). m ≤ k) (length-dropped n ps) (needed-within (capacity - x.size) m (drop n ps) more) in
    let within : n + m ≤ length ps = omega (arith, left, f.1.within, length-pairs before) in
    let split : pairs_of all ≡ (ps ++ pair_of x ∷ []) ++ pairs_of rest = ap pairs_of (sym order) ∙ pairs-append before (x ∷ rest) ∙ sym (append_assoc ps (pair_of x ∷ []) (pairs_of rest)) in (
      n + m,
      subst (λ (l : Index). Needed capacity (n + m) l) (sym split) (needed-more_files capacity (n + m) (ps ++ pair_of x ∷ []) (pairs_of rest) (needed-push capacity n m ps (pair_of x) small within f.1.needed more)),
      ap (λ l. l ++ firsts m es) f.1.removed ∙ ap (λ l. firsts n ps ++ firsts m l) f.1.index ∙ firsts-then n m ps
          ∙ sym (ap (firsts (n + m)) (split ∙ append_assoc ps (pair_of x ∷ []) (pairs_of rest)) ∙ firsts-append (n + m) ps (pair_of x ∷ pairs_of rest) within),
    )
  where
    total-more : (es rest : Index) → total size_of es ≤ total size_of (es ++ rest)
    total-more [] rest = omega arith
    total-more (e ∷ es) rest = omega (arith, total-cons size_of e es, total-cons size_of e (es ++ rest), total-more es rest)

    dropped-more : (j : ℕ) (es rest : Index) → total size_of (drop j es) ≤ total size_of (drop j (es ++ rest))
    dropped-more zero [] rest = omega arith
    dropped-more zero (e ∷ es) rest = total-more (e ∷ es) rest
    dropped-more (suc j) [] rest = omega arith
    dropped-more (suc j) (e ∷ es) rest = dropped-more j es rest

    needed-more_files : (limit n : ℕ) (es rest : Index) → Needed limit n es → Needed limit n (es ++ rest)
    needed-more_files limit n es rest h = λ j l. let p : limit < total size_of (drop j es) = h j l in omega (arith, p, dropped-more j es rest)

    firsts-append : (n : ℕ) (es rest : Index) → n ≤ length es → firsts n (es ++ rest) ≡ firsts n es
    firsts-append zero [] [] h = refl
    firsts-append zero [] (r ∷ rest) h = refl
    firsts-append zero (e ∷ es) rest h = refl
    firsts-append (suc n) [] rest h = absurd (omega arith)
    firsts-append (suc n) (e ∷ es) rest h = ap (λ l. e.0 ∷ l) (firsts-append n es rest (omega (arith, h)))

pub AreKeys-dropped : (n : ℕ) (es : Index) → AreKeys es → AreKeys (drop n es)
AreKeys-dropped zero [] a = a
AreKeys-dropped zero (e ∷ es) a = a
AreKeys-dropped (suc n) [] a = a
AreKeys-dropped (suc n) (e ∷ es) a = AreKeys-dropped n es (AreKeys-first (e ∷ es) a)

pub kept_is_key : (capacity : ℕ) (x : Listed) → is_kept capacity x ≡ true → is_temporary_path x.path ≡ false
kept_is_key capacity x h = not-true (is_temporary_path x.path) (both (not (is_temporary_path x.path)) (nat_le x.size capacity) h).0

pub small_kept : (capacity : ℕ) (x : Listed) → is_kept capacity x ≡ true → x.size ≤ capacity
small_kept capacity x h = let t : nat_le x.size capacity ≡ true = (both (not (is_temporary_path x.path)) (nat_le x.size capacity) h).1 in grind (arith, nat_tests)

-- more removals after others
pub gone-after : (a b c : DiskState) (ks ls : List (List ℕ)) → Does (gone ks) a b → Does (gone ls) b c → Does (gone (ks ++ ls)) a c
gone-after a b c ks ls p q = subst (λ (xs : List Change). Does xs a c) (sym (gone-append ks ls)) (does-after a b c (gone ks) (gone ls) p q)

list-nil : {X : Type 0} (xs : List X) → xs ++ [] ≡ xs
list-nil [] = refl
list-nil (x ∷ xs) = ap (λ l. x ∷ l) (list-nil xs)

pub order-more : (ys rest items all : List Listed) (x : Listed) → items ≡ x ∷ rest → ys ++ items ≡ all → (ys ++ x ∷ []) ++ rest ≡ all
order-more ys rest items all x pop h = append_assoc ys (x ∷ []) rest ∙ ap (λ l. ys ++ l) (sym pop) ∙ h

pub order-end : (ys items all : List Listed) → items ≡ [] → ys ++ items ≡ all → ys ≡ all
order-end ys items all nil h = sym (list-nil ys) ∙ ap (λ l. ys ++ l) (sym nil) ∙ h

-- Steps of the first pass, which keeps files or removes them.
pub kept-yes : (capacity : ℕ) (kept rest : List Listed) (x : Listed) (all : List Listed) → is_kept capacity x ≡ true → kept ++ kept_of capacity (x ∷ rest) ≡ all → (kept ++ x ∷ []) ++ kept_of capacity rest ≡ all
kept-yes capacity kept rest x all t h = append_assoc kept (x ∷ []) (kept_of capacity rest) ∙ ap (λ b. kept ++ cond b (x ∷ kept_of capacity rest) (kept_of capacity rest)) (sym t) ∙ h

pub kept-no : (capacity : ℕ) (kept rest : List Listed) (x : Listed) (all : List Listed) → is_kept capacity x ≡ false → kept ++ kept_of capacity (x ∷ rest) ≡ all → kept ++ kept_of capacity rest ≡ all
kept-no capacity kept rest x all t h = ap (λ b. kept ++ cond b (x ∷ kept_of capacity rest) (kept_of capacity rest)) (sym t) ∙ h

pub kept-end : (capacity : ℕ) (kept items all : List Listed) → items ≡ [] → kept ++ kept_of capacity items ≡ all → kept ≡ all
kept-end capacity kept items all nil h = sym (list-nil kept) ∙ ap (λ l. kept ++ kept_of capacity l) (sym nil) ∙ h

dropped_first : (capacity : ℕ) (x : Listed) (rest : List Listed) (b : Bool) → is_kept capacity x ≡ b → paths_of (dropped_of capacity (x ∷ rest)) ≡ cond b (paths_of (dropped_of capacity rest)) (x.path ∷ paths_of (dropped_of capacity rest))
dropped_first capacity x rest true t = ap (λ b. paths_of (cond (not b) (x ∷ dropped_of capacity rest) (dropped_of capacity rest))) t
dropped_first capacity x rest false t = ap (λ b. paths_of (cond (not b) (x ∷ dropped_of capacity rest) (dropped_of capacity rest))) t

pub dropped-yes : (capacity : ℕ) (removed all : List (List ℕ)) (x : Listed) (rest items : List Listed) → items ≡ x ∷ rest → is_kept capacity x ≡ true → removed ++ paths_of (dropped_of capacity items) ≡ all → removed ++ paths_of (dropped_of capacity rest) ≡ all
dropped-yes capacity removed all x rest items pop t h = ap (λ l. removed ++ l) (sym (ap (λ l. paths_of (dropped_of capacity l)) pop ∙ dropped_first capacity x rest true t)) ∙ h

pub dropped-no : (capacity : ℕ) (removed all : List (List ℕ)) (x : Listed) (rest items : List Listed) → items ≡ x ∷ rest → is_kept capacity x ≡ false → removed ++ paths_of (dropped_of capacity items) ≡ all → (removed ++ x.path ∷ []) ++ paths_of (dropped_of capacity rest) ≡ all
dropped-no capacity removed all x rest items pop t h = append_assoc removed (x.path ∷ []) (paths_of (dropped_of capacity rest)) ∙ ap (λ l. removed ++ l) (sym (ap (λ l. paths_of (dropped_of capacity l)) pop ∙ dropped_first capacity x rest false t)) ∙ h

pub dropped-end : (capacity : ℕ) (removed all : List (List ℕ)) (items : List Listed) → items ≡ [] → removed ++ paths_of (dropped_of capacity items) ≡ all → removed ≡ all
dropped-end capacity removed all items nil h = sym (list-nil removed) ∙ ap (λ l. removed ++ paths_of (dropped_of capacity l)) (sym nil) ∙ h

good_first : (capacity : ℕ) (x : Listed) (xs : List Listed) (b : Bool) → is_kept capacity x ≡ b → AllByRecursion (λ e. is_kept capacity e ≡ true) xs → AllByRecursion (λ e. is_kept capacity e ≡ true) (cond (is_kept capacity x) (x ∷ xs) xs)
good_first capacity x xs true t h = subst (λ c. AllByRecursion (λ e. is_kept capacity e ≡ true) (cond c (x ∷ xs) xs)) (sym t) (t, h)
good_first capacity x xs false t h = subst (λ c. AllByRecursion (λ e. is_kept capacity e ≡ true) (cond c (x ∷ xs) xs)) (sym t) h

-- all that are kept are good
good_kept : (capacity : ℕ) (all : List Listed) → AllByRecursion (λ e. is_kept capacity e ≡ true) (kept_of capacity all)
good_kept capacity [] = tt
good_kept capacity (x ∷ all) = good_first capacity x (kept_of capacity all) (is_kept capacity x) refl (good_kept capacity all)

pub good_sorted : (capacity : ℕ) (all kept order : List Listed) → kept ≡ kept_of capacity all → IsPermutation kept order → AllByRecursion (λ e. is_kept capacity e ≡ true) order
good_sorted capacity all kept order is p = recursion_from_All (λ e. is_kept capacity e ≡ true) order
    (All-permutation (λ e. is_kept capacity e ≡ true) kept order p (All-from_recursion (λ e. is_kept capacity e ≡ true) kept (subst (AllByRecursion (λ e. is_kept capacity e ≡ true)) (sym is) (good_kept capacity all))))

-- the disk has places for those that are kept
pub placed_sorted : (capacity : ℕ) (all kept order : List Listed) (d : DiskState) → kept ≡ kept_of capacity all → IsPermutation kept order → ArePlaced all d → ArePlaced order d
placed_sorted capacity all kept order d is p h = recursion_from_All (λ e. has_place d e.path ≡ true) order
    (All-permutation (λ e. has_place d e.path ≡ true) kept order p (All-from_recursion (λ e. has_place d e.path ≡ true) kept (subst (λ (l : List Listed). ArePlaced l d) (sym is) (placed-filtered d (is_kept capacity) all h))))

-- The whole opening, of a disk that tells.
files_dropped : (capacity : ℕ) (front : Index) (all : List Listed) (f : DiskFiles) → AreFiles (front ++ pairs_of all) f → AreFiles (front ++ pairs_of (kept_of capacity all)) (replay f (gone (paths_of (dropped_of capacity all))))
files_dropped capacity front [] f w = w
files_dropped capacity front (x ∷ all) f w = (elim (is_kept capacity x) as (λ b. AreFiles (front ++ pairs_of (cond b (x ∷ kept_of capacity all) (kept_of capacity all))) (replay f (gone (paths_of (cond (not b) (x ∷ dropped_of capacity all) (dropped_of capacity all)))))) [
  | true ↦ subst (λ (l : Index). AreFiles l (replay f (gone (paths_of (dropped_of capacity all))))) (append_assoc front (pair_of x ∷ []) (pairs_of (kept_of capacity all)))
      (files_dropped capacity (front ++ pair_of x ∷ []) all f (subst (λ (l : Index). AreFiles l f) (sym (append_assoc front (pair_of x ∷ []) (pairs_of all))) w))
  | false ↦ subst (AreFiles (front ++ pairs_of (kept_of capacity all))) (sym (replay-append f (gone (paths_of (dropped_of capacity all))) (Gone x.path ∷ [])))
      (files_dropped capacity front all (change (Gone x.path) f) (files_cut front (pairs_of all) (pair_of x) f w))
])

files_indexed : (capacity : ℕ) (es : Index) (removed : List (List ℕ)) (f : DiskFiles) → Indexes capacity es removed f → AreFiles es (replay f (gone removed))
files_indexed capacity es removed f i =
    let kept = kept_of capacity (listing f) in let dropped = paths_of (dropped_of capacity (listing f)) in
    let g : DiskFiles = replay f (gone dropped) in let ps = pairs_of i.order in
    let first : AreFiles (pairs_of kept) g = files_dropped capacity [] (listing f) f (files_listed f) in
    let sorted : AreFiles ps g = files_sorted (pairs_of kept) ps g (IsPermutation-map pair_of kept i.order i.ordered.same) first in
    let last : AreFiles (drop i.n ps ++ []) (replay g (gone (firsts i.n ps))) = files_evicted i.n ps [] g (subst (λ (l : Index). AreFiles l g) (sym (list-nil ps)) sorted) in
    let both_gone : replay f (gone removed) ≡ replay g (gone (firsts i.n ps)) = ap (λ ks. replay f (gone ks)) i.removed ∙ ap (replay f) (gone-append dropped (firsts i.n ps)) ∙ replay-append f (gone (firsts i.n ps)) (gone dropped) in
    subst (AreFiles es) (sym both_gone) (subst (λ (l : Index). AreFiles l (replay g (gone (firsts i.n ps)))) (list-nil (drop i.n ps) ∙ sym i.index) last)

no_open : (e : Pending) (n : ℕ) → slice_index_or {A = Option Pending} [] n None ≡ Some e → ⊥
no_open e n h = cc

none_some : (o : Option DiskFile) → option_map size o ≡ None → is_some o ≡ true → ⊥
none_some None h s = cc
none_some (Some x) h s = cc

-- once all is indexed, the files are the indexed ones
opened_files : (v : Bool) (es : Index) (f : DiskFiles) → AreFiles es f → HasFiles v es [] f
opened_files v es f w = record { agrees = λ q t. w.same q; temporaries = λ n e is. absurd (no_open e n is) }

opened_tidy : (v : Bool) (es : Index) (f : DiskFiles) → AreKeys es → AreFiles es f → NoStray v [] f
opened_tidy v es f keys w = λ q t some. absurd (none_some (disk_file_at f q) (w.same q ∙ keys q t) some)

pub told_files : (capacity : ℕ) (es : Index) (old new : DiskState) → Reopens capacity es old new → IfTold new.told (λ r. HasFiles new.divided es [] (files_now r))
unfolding Reopens
told_files capacity es old new o = told-all old new (gone o.0) (Indexes capacity es o.0) (HasFiles new.divided es []) o.1 (λ f i. opened_files new.divided es (replay f (gone o.0)) (files_indexed capacity es o.0 f i)) o.2

pub told_tidy : (capacity : ℕ) (es : Index) (old new : DiskState) → AreKeys es → Reopens capacity es old new → IfTold new.told (λ r. NoStray new.divided [] (files_now r))
unfolding Reopens
told_tidy capacity es old new keys o = told-all old new (gone o.0) (Indexes capacity es o.0) (NoStray new.divided []) o.1 (λ f i. opened_tidy new.divided es (replay f (gone o.0)) keys (files_indexed capacity es o.0 f i)) o.2

pub told_reopened : (capacity : ℕ) (es : Index) (old new : DiskState) → Reopens capacity es old new → IfTold old.told (λ r. IsReopened capacity (files_now r) es)
unfolding IsReopened Reopens
told_reopened capacity es old new o = told-map old (Indexes capacity es o.0) (λ f. IsReopened capacity f es) (λ f i. (i.order, i.ordered, i.index ∙ needed_suffix capacity i.n (pairs_of i.order) i.evicted.0 i.evicted.1)) o.2

distinct_order : (capacity : ℕ) (f : DiskFiles) (order : List Listed) → IsPermutation (kept_of capacity (listing f)) order → IsDistinct bytes_eq (keys_of (pairs_of order))
distinct_order capacity f order p =
    let kept = kept_of capacity (listing f) in let g : DiskFiles = replay f (gone (paths_of (dropped_of capacity (listing f)))) in
    (files_sorted (pairs_of kept) (pairs_of order) g (IsPermutation-map pair_of kept order p) (files_dropped capacity [] (listing f) f (files_listed f))).distinct

-- what the steps of an opening come to
pub reopened : (capacity : ℕ) (all kept order : List Listed) (es : Index) (removed : List (List ℕ)) (a b c d : DiskState) → Does [] a b → IsListing all a → kept ≡ kept_of capacity all → Does (gone (paths_of (dropped_of capacity all))) b c
    → IsPermutation kept order → IsSorted use_cmp order → total size_of es ≤ capacity → Does (gone removed) c d → Indexed capacity order order es removed → Reopens capacity es a d
unfolding Reopens
reopened capacity all kept order es removed a b c d still listed is dropped p s fits evicted indexed = (
  paths_of (dropped_of capacity all) ++ removed,
  gone-after a c d (paths_of (dropped_of capacity all)) removed (subst (λ (xs : List Change). Does xs a c) (list-nil (gone (paths_of (dropped_of capacity all)))) (does-after a b c [] (gone (paths_of (dropped_of capacity all))) still dropped)) evicted,
  told-map a (λ f. all ≡ listing f) (Indexes capacity es (paths_of (dropped_of capacity all) ++ removed)) (λ f e.
      let same : IsPermutation (kept_of capacity (listing f)) order = subst (λ (l : List Listed). IsPermutation l order) (is ∙ ap (kept_of capacity) e) p in
      let i = indexed (distinct_order capacity f order same) in
      record {
        order = order;
        n = i.0;
        ordered = record { same = same; sorted = s };
        evicted = (i.1.needed, subst (λ (l : Index). total size_of l ≤ capacity) i.1.index fits);
        index = i.1.index;
        removed = ap (λ l. paths_of (dropped_of capacity l) ++ removed) e ∙ ap (λ l. paths_of (dropped_of capacity (listing f)) ++ l) i.1.removed;
      }) listed,
)

pub refused_listing : (capacity : ℕ) (a b : DiskState) → Does [] a b → RefusesOpening capacity a b
unfolding RefusesOpening
refused_listing capacity a b still = ([], still, begun a.told)
  where
    begun : (o : Option DiskRecord) → IfTold o (λ r. Begins capacity [] (files_now r))
    begun None = tt
    begun (Some r) = inl (paths_of (dropped_of capacity (listing (files_now r))), refl)

pub refused_dropping : (capacity : ℕ) (all : List Listed) (removed rest : List (List ℕ)) (a b c : DiskState) → Does [] a b → IsListing all a → removed ++ rest ≡ paths_of (dropped_of capacity all) → Does (gone removed) b c → RefusesOpening capacity a c
unfolding RefusesOpening
refused_dropping capacity all removed rest a b c still listed front dropped = (
  removed,
  subst (λ (xs : List Change). Does xs a c) (list-nil (gone removed)) (does-after a b c [] (gone removed) still dropped),
  told-map a (λ f. all ≡ listing f) (Begins capacity removed) (λ f e. inl (rest, front ∙ ap (λ l. paths_of (dropped_of capacity l)) e)) listed,
)

pub refused_sorting : (capacity : ℕ) (all : List Listed) (a b c : DiskState) → Does [] a b → IsListing all a → Does (gone (paths_of (dropped_of capacity all))) b c → RefusesOpening capacity a c
refused_sorting capacity all a b c still listed dropped = refused_dropping capacity all (paths_of (dropped_of capacity all)) [] a b c still listed (list-nil (paths_of (dropped_of capacity all))) dropped

pub refused_indexing : (capacity : ℕ) (all kept order : List Listed) (removed : List (List ℕ)) (a b c d : DiskState) → Does [] a b → IsListing all a → kept ≡ kept_of capacity all → Does (gone (paths_of (dropped_of capacity all))) b c
    → IsPermutation kept order → IsSorted use_cmp order → Does (gone removed) c d → (IsDistinct bytes_eq (keys_of (pairs_of order)) → (n : ℕ) × Needed capacity n (pairs_of order) × (removed ≡ firsts n (pairs_of order))) → RefusesOpening capacity a d
unfolding RefusesOpening
refused_indexing capacity all kept order removed a b c d still listed is dropped p s evicted indexed = (
  paths_of (dropped_of capacity all) ++ removed,
  gone-after a c d (paths_of (dropped_of capacity all)) removed (subst (λ (xs : List Change). Does xs a c) (list-nil (gone (paths_of (dropped_of capacity all)))) (does-after a b c [] (gone (paths_of (dropped_of capacity all))) still dropped)) evicted,
  told-map a (λ f. all ≡ listing f) (Begins capacity (paths_of (dropped_of capacity all) ++ removed)) (λ f e.
      let same : IsPermutation (kept_of capacity (listing f)) order = subst (λ (l : List Listed). IsPermutation l order) (is ∙ ap (kept_of capacity) e) p in
      let i = indexed (distinct_order capacity f order same) in
      inr (order, i.0, record { same = same; sorted = s }, i.1, ap (λ l. paths_of (dropped_of capacity l) ++ removed) e ∙ ap (λ l. paths_of (dropped_of capacity (listing f)) ++ l) i.2)) listed,
)

pub indexed_none : (capacity : ℕ) (all : List Listed) → Indexed capacity all [] [] []
indexed_none capacity all = λ d. (0, record { within = omega arith; needed = λ m h. absurd (omega arith); index = refl; removed = refl })

-- what a store keeps that was just opened
pub opened_keeps : (capacity bound : ℕ) (es : Index) (slots : List (Option Pending)) (old new : DiskState) → slots ≡ [] → bound ≡ capacity → total size_of es ≤ capacity → AreKeys es → Reopens capacity es old new → Keeps es bound slots 0 capacity new
opened_keeps capacity bound es slots old new none limit fits keys o = subst (λ (s : List (Option Pending)). Keeps es bound s 0 capacity new) (sym none) (record {
  reserved = refl;
  limit = limit;
  fits = omega (arith, fits);
  keys = keys;
  opened = λ n e is. absurd (no_open e n is);
  files = told_files capacity es old new o;
})
