-- Entries in order are those of the map that they make.
use Rattle.std.proofs.Common.{◌≡◌, ℕ, T, Bool, true, false, ◌&&◌, List, [], ◌∷◌, ◌++◌, refl, ap, sym, subst, ◌∙◌}
use Rattle.std.specs.List.{AllByRecursion}
use Rattle.std.specs.List.Sorted.{IsStrictlySortedBy}
use Rattle.std.specs.Map.{keys_of}
use Rattle.std.specs.Ordering.{is_lt}
use Rattle.std.specs.declared.cmp.Ordering.{Ordering}
use Rattle.std.specs.declared.cmp.Ordering.TheVariants.{Less}
use Rattle.std.specs.Cmp.Lexicographic.{nat_list_cmp_total}
use Rattle.std.specs.FinMap.{empty, entries, entries-from_sorted, from_sorted, get-entries, get-from_entries, get-from_sorted, insert, same_map, slice_cmp-IsAntisymmetric, nat_cmp-IsAntisymmetric}
use Rattle.std.specs.FinMap.Entries.{below_all, is_sorted}
use Rattle.sc_entry.specs.Tally.{Tally, entries_of, tally_of}
use Rattle.sc_entry.proofs.Tallies.{text_cmp}

both : (a b : Bool) → T a → T b → T (a && b)
both true b p q = q
both false b p q = absurd p

is_less : (o : Ordering) → o ≡ Less → T (is_lt o)
is_less o e = subst (λ r. T (is_lt r)) (sym e) tt

below_if : (x : List ℕ) (es : List (List ℕ × ℕ)) → AllByRecursion (λ y. text_cmp x y ≡ Less) (keys_of es) → T (below_all text_cmp x es)
below_if x [] h = tt
below_if x (e ∷ es) h = both _ _ (is_less _ h.0) (below_if x es h.1)

-- the order that a map's iterators tell
pub sorted_if : (es : List (List ℕ × ℕ)) → IsStrictlySortedBy text_cmp (keys_of es) → T (is_sorted text_cmp es)
unfolding IsStrictlySortedBy
sorted_if [] h = tt
sorted_if (e ∷ es) h = both _ _ (below_if e.0 es h.0) (sorted_if es h.1)

same_sorted : (es : List (List ℕ × ℕ)) → T (is_sorted text_cmp es) → tally_of es ≡ from_sorted es
same_sorted es h = same_map nat_list_cmp_total (slice_cmp-IsAntisymmetric nat_cmp-IsAntisymmetric) _ _ (λ q.
    get-from_entries nat_list_cmp_total es q ∙ sym (get-from_sorted text_cmp es q h))

-- entries in order are those of their map
pub entries_back : (es : List (List ℕ × ℕ)) → T (is_sorted text_cmp es) → entries_of (tally_of es) ≡ es
entries_back es h = ap entries (same_sorted es h) ∙ entries-from_sorted text_cmp es h

-- a map is that of its entries
pub tally_forth : (m : Tally) → tally_of (entries_of m) ≡ m
tally_forth m = same_map nat_list_cmp_total (slice_cmp-IsAntisymmetric nat_cmp-IsAntisymmetric) _ _ (λ q.
    get-from_entries nat_list_cmp_total (entries m) q ∙ sym (get-entries m q))

-- the entries put into a map, the last first
abbrev pub put_each : List (List ℕ × ℕ) → Tally → Tally
put_each [] m = m
put_each (e ∷ es) m = insert (put_each es m) e.0 e.1

pub put_each-empty : (es : List (List ℕ × ℕ)) → put_each es empty ≡ tally_of es
put_each-empty [] = refl
put_each-empty (e ∷ es) = ap (λ m. insert m e.0 e.1) (put_each-empty es)

pub put_each-push : (es : List (List ℕ × ℕ)) (e : List ℕ × ℕ) (m : Tally) → put_each (es ++ e ∷ []) m ≡ put_each es (insert m e.0 e.1)
put_each-push [] e m = refl
put_each-push (d ∷ es) e m = ap (λ n. insert n d.0 d.1) (put_each-push es e m)
