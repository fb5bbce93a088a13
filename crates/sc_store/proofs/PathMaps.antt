-- The map that the entries of a `PathMap` make.
use Rattle.std.proofs.Common.{◌≡◌, ℕ, ◌+◌, ◌-◌, ◌^◌, min, Bool, true, false, ◌&&◌, cond, List, [], ◌∷◌, ◌++◌, map, length, Option, Some, refl, arith, ap, sym, subst, ◌∙◌}
use lib.Dec.{T}
use Rattle.std.specs.Ordering.{nat_cmp, is_lt}
use Rattle.std.specs.declared.cmp.Ordering.{Ordering}
use Rattle.std.specs.declared.cmp.Ordering.TheVariants.{Less}
use Rattle.std.specs.Cmp.{eq_by_cmp_equiv}
use Rattle.std.specs.Cmp.Lexicographic.{slice_cmp, nat_list_cmp_total}
use Rattle.std.specs.Map.{lookup}
use Rattle.std.specs.BTreeMap.{is_at}
use Rattle.std.specs.List.{AllByRecursion}
use Rattle.std.specs.List.Sorted.{IsStrictlySortedBy}
use Rattle.std.specs.FinMap.Entries.{below_all, is_sorted}
use Rattle.std.specs.FinMap.{entries, from_sorted, entries-from_sorted, get-from_sorted, get, insert, find, get-from_entries, get-insert, same_map, slice_cmp-IsAntisymmetric, nat_cmp-IsAntisymmetric}
use Rattle.sc_model.specs.Levels.{sum_lengths}
use Rattle.sc_store.specs.Paths.{files_of}

abbrev pub path_cmp : List ℕ → List ℕ → Ordering
path_cmp = slice_cmp nat_cmp

-- what the entries have at a path
abbrev pub at_path : List (List ℕ × List ℕ) → List ℕ → Option (List ℕ)
at_path es q = lookup (is_at (path_cmp q)) es

find_path : (es : List (List ℕ × List ℕ)) (q : List ℕ) → find path_cmp q es ≡ at_path es q
find_path [] q = refl
find_path (e ∷ es) q = ap (cond (is_at (path_cmp q) e.0) (Some e.1)) (find_path es q)

-- what the map of the entries has at a path
pub get_path : (es : List (List ℕ × List ℕ)) (q : List ℕ) → get (files_of es) q ≡ at_path es q
get_path es q = get-from_entries nat_list_cmp_total es q ∙ find_path es q

-- entries that differ at one path make maps that differ there
pub one_put : (es fs : List (List ℕ × List ℕ)) (s b : List ℕ) → ((q : List ℕ) → at_path fs q ≡ cond (is_at (path_cmp s) q) (Some b) (at_path es q)) → files_of fs ≡ insert (files_of es) s b
one_put es fs s b h = same_map nat_list_cmp_total (slice_cmp-IsAntisymmetric nat_cmp-IsAntisymmetric) _ _ (λ q.
    get_path fs q ∙ h q ∙ ap (λ t. cond t (Some b) (at_path es q)) ((eq_by_cmp_equiv nat_list_cmp_total).symm s q)
    ∙ sym (get-insert nat_list_cmp_total (files_of es) s b q ∙ ap (cond (is_at (path_cmp q) s) (Some b)) (get_path es q)))

both_true : (a b : Bool) → T a → T b → T (a && b)
both_true true b p q = q
both_true false b p q = p

below_all-paths : (k : List ℕ) (es : List (List ℕ × List ℕ)) → AllByRecursion (λ y. path_cmp k y ≡ Less) (map (λ e. e.0) es) → T (below_all path_cmp k es)
below_all-paths k [] h = tt
below_all-paths k (e ∷ es) h = both_true _ _ (subst (λ o. T (is_lt o)) (sym h.0) tt) (below_all-paths k es h.1)

rising : (es : List (List ℕ × List ℕ)) → IsStrictlySortedBy path_cmp (map (λ e. e.0) es) → T (is_sorted path_cmp es)
unfolding IsStrictlySortedBy
rising [] h = tt
rising (e ∷ es) h = both_true _ _ (below_all-paths e.0 es h.0) (rising es h.1)

-- a map made of entries whose paths rise has these entries
pub entries_of_files : (es : List (List ℕ × List ℕ)) → IsStrictlySortedBy path_cmp (map (λ e. e.0) es) → entries (files_of es) ≡ es
entries_of_files es h =
    let up : T (is_sorted path_cmp es) = rising es h in
    let same : files_of es ≡ from_sorted es = same_map nat_list_cmp_total (slice_cmp-IsAntisymmetric nat_cmp-IsAntisymmetric) _ _ (λ q. get-from_entries nat_list_cmp_total es q ∙ sym (get-from_sorted path_cmp es q up)) in
    ap entries same ∙ entries-from_sorted path_cmp es up

-- one entry more, and its bytes more
pub sum_lengths-push : (es : List (List ℕ × List ℕ)) (e : List ℕ × List ℕ) → sum_lengths (es ++ e ∷ []) ≡ sum_lengths es + length (e.1)
sum_lengths-push [] e = omega arith
sum_lengths-push (f ∷ es) e = let more = sum_lengths-push es e in omega (arith, more)

-- a sum that stops, with one number more
pub stopped_more : (size sofar more now : ℕ) → size ≡ min sofar (2 ^ 64 - 1) → now ≡ sofar + more → min (size + more) (2 ^ 64 - 1) ≡ min now (2 ^ 64 - 1)
stopped_more size sofar more now is grown = omega arith
