-- The map that the entries of a table of files make.
use Rattle.std.proofs.Common.{◌≡◌, ℕ, Bool, true, false, ◌&&◌, cond, List, [], ◌∷◌, map, Option, Some, None, refl, ap, sym, subst, ◌∙◌}
use lib.Dec.{T}
use Rattle.std.specs.Ordering.{nat_cmp, is_lt}
use Rattle.std.specs.declared.cmp.Ordering.TheVariants.{Less}
use Rattle.std.specs.Cmp.{eq_by_cmp_equiv}
use Rattle.std.specs.Cmp.Lexicographic.{slice_cmp, nat_list_cmp_total}
use Rattle.std.specs.BTreeMap.{is_at}
use Rattle.std.specs.List.{AllByRecursion}
use Rattle.std.specs.List.Sorted.{IsStrictlySortedBy}
use Rattle.std.specs.FinMap.Entries.{below_all, is_sorted}
use Rattle.std.specs.FinMap.{entries, from_sorted, entries-from_sorted, get-from_entries, get-from_sorted, get-remove, remove, same_map, slice_cmp-IsAntisymmetric, nat_cmp-IsAntisymmetric}
pub use Rattle.sc_entry.proofs.TextMaps.{map_of, text_cmp, at_text, get_text, one_inserted}

-- entries of which one path's are gone make a map without it
pub one_removed : {X : Type 0} (es fs : List (List ℕ × X)) (s : List ℕ) → ((q : List ℕ) → at_text fs q ≡ cond (is_at (text_cmp s) q) None (at_text es q)) → map_of fs ≡ remove (map_of es) s
one_removed es fs s h = same_map nat_list_cmp_total (slice_cmp-IsAntisymmetric nat_cmp-IsAntisymmetric) _ _ (λ q.
    get_text fs q ∙ h q ∙ ap (λ b. cond b None (at_text es q)) ((eq_by_cmp_equiv nat_list_cmp_total).symm s q)
    ∙ sym (get-remove nat_list_cmp_total (map_of es) s q ∙ ap (cond (is_at (text_cmp q) s) None) (get_text es q)))

both_true : (a b : Bool) → T a → T b → T (a && b)
both_true true b p q = q
both_true false b p q = p

below_all-paths : {X : Type 0} (k : List ℕ) (es : List (List ℕ × X)) → AllByRecursion (λ y. text_cmp k y ≡ Less) (map (λ e. e.0) es) → T (below_all text_cmp k es)
below_all-paths k [] h = tt
below_all-paths k (e ∷ es) h = both_true _ _ (subst (λ o. T (is_lt o)) (sym h.0) tt) (below_all-paths k es h.1)

rising : {X : Type 0} (es : List (List ℕ × X)) → IsStrictlySortedBy text_cmp (map (λ e. e.0) es) → T (is_sorted text_cmp es)
unfolding IsStrictlySortedBy
rising [] h = tt
rising (e ∷ es) h = both_true _ _ (below_all-paths e.0 es h.0) (rising es h.1)

-- a map made of entries whose paths rise has these entries
pub entries_of_rising : {X : Type 0} (es : List (List ℕ × X)) → IsStrictlySortedBy text_cmp (map (λ e. e.0) es) → entries (map_of es) ≡ es
entries_of_rising es h =
    let up : T (is_sorted text_cmp es) = rising es h in
    let same : map_of es ≡ from_sorted es = same_map nat_list_cmp_total (slice_cmp-IsAntisymmetric nat_cmp-IsAntisymmetric) _ _ (λ q. get-from_entries nat_list_cmp_total es q ∙ sym (get-from_sorted text_cmp es q up)) in
    ap entries same ∙ entries-from_sorted text_cmp es up
