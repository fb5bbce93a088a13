use Rattle.std.proofs.Common.{◌≡◌, ℕ, Bool, true, false, cond, ◌&&◌, List, [], ◌∷◌, ◌++◌, map, Option, Some, Result, Ok, Err, OnErr, refl, ap, sym, subst, ◌∙◌}
use lib.Dec.{T}
use Rattle.std.specs.Ordering.{nat_cmp, is_lt}
use Rattle.std.specs.declared.cmp.Ordering.{Ordering}
use Rattle.std.specs.declared.cmp.Ordering.TheVariants.{Less}
use Rattle.std.specs.Cmp.{eq_by_cmp_equiv}
use Rattle.std.specs.Cmp.Lexicographic.{slice_cmp, nat_list_cmp_total}
use Rattle.std.specs.Map.{lookup}
use Rattle.std.specs.BTreeMap.{is_at}
use Rattle.std.specs.List.{AllByRecursion}
use Rattle.std.specs.List.Sorted.{IsStrictlySortedBy}
use Rattle.std.specs.FinMap.Entries.{below_all, is_sorted}
use Rattle.std.specs.FinMap.{empty, entries, from_sorted, entries-from_sorted, get, insert, find, get-from_entries, get-from_sorted, get-insert, same_map, slice_cmp-IsAntisymmetric, nat_cmp-IsAntisymmetric}
use Rattle.sc_entry.proofs.TextMaps.{one_inserted}
use Rattle.sc_entry.specs.Tally.{Tally, add_each, counted, tally_of}
pub use Rattle.sc_entry.proofs.TextMaps.{text_cmp, at_text, get_text}

-- entries that differ at one text make tallies that differ there
pub one_counted : (es fs : List (List ℕ × ℕ)) (s : List ℕ) (n : ℕ) → ((q : List ℕ) → at_text fs q ≡ cond (is_at (text_cmp s) q) (Some n) (at_text es q)) → tally_of fs ≡ insert (tally_of es) s n
one_counted = one_inserted

-- one more at the end
pub add_each-append : (es fs : List (List ℕ × ℕ)) (m : Tally) → add_each (es ++ fs) m ≡ add_each fs (add_each es m)
add_each-append [] fs m = refl
add_each-append (e ∷ es) fs m = add_each-append es fs (counted m e.0 e.1)

both_true : (a b : Bool) → T a → T b → T (a && b)
both_true true b p q = q
both_true false b p q = p

below_all-keys : (k : List ℕ) (es : List (List ℕ × ℕ)) → AllByRecursion (λ y. text_cmp k y ≡ Less) (map (λ e. e.0) es) → T (below_all text_cmp k es)
below_all-keys k [] h = tt
below_all-keys k (e ∷ es) h = both_true _ _ (subst (λ o. T (is_lt o)) (sym h.0) tt) (below_all-keys k es h.1)

-- keys that rise
pub rising : (es : List (List ℕ × ℕ)) → IsStrictlySortedBy text_cmp (map (λ e. e.0) es) → T (is_sorted text_cmp es)
unfolding IsStrictlySortedBy
rising [] h = tt
rising (e ∷ es) h = both_true _ _ (below_all-keys e.0 es h.0) (rising es h.1)

-- a map made of entries whose keys rise has these entries
pub entries_of_tally : (es : List (List ℕ × ℕ)) → IsStrictlySortedBy text_cmp (map (λ e. e.0) es) → entries (tally_of es) ≡ es
entries_of_tally es h =
    let up : T (is_sorted text_cmp es) = rising es h in
    let same : tally_of es ≡ from_sorted es = same_map nat_list_cmp_total (slice_cmp-IsAntisymmetric nat_cmp-IsAntisymmetric) _ _ (λ q. get-from_entries nat_list_cmp_total es q ∙ sym (get-from_sorted text_cmp es q up)) in
    ap entries same ∙ entries-from_sorted text_cmp es up

pub entries_empty : entries (empty {K = List ℕ} {X = ℕ} {R = text_cmp}) ≡ []
unfolding IsStrictlySortedBy
entries_empty = entries_of_tally [] tt

pub not_empty : {A : Type 0} (front : List A) (x : A) (back : List A) → front ++ x ∷ back ≡ [] → ⊥
not_empty [] x back e = cc
not_empty (y ∷ front) x back e = cc

-- what holds where memory ran out
pub on_err : {T E : Type 0} (r : Result T E) (P : Type 0) → P → OnErr r P
on_err (Ok x) P p = tt
on_err (Err e) P p = p
