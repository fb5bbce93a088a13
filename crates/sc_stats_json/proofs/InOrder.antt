-- Counts put into an object in their order.
use Rattle.std.proofs.Common.{◌≡◌, ℕ, Bool, true, false, ◌&&◌, List, [], ◌∷◌, ◌++◌, map, Less, Equal, Greater, Ordering, refl, ap, sym, ◌∙◌, append_assoc, append-nil, subst, T}
use Rattle.std.specs.FinMap.{entries, entries_sorted}
use Rattle.std.specs.FinMap.Entries.{below_all, is_sorted}
use Rattle.std.specs.Ordering.{is_lt, ordering_reverse}
use Rattle.std.specs.Cmp.Lexicographic.{nat_list_cmp_total}
use Rattle.serde_json.specs.Data.{Members, member, no_members, put}
use Rattle.sc_entry.specs.Listed.{listed}
use Rattle.sc_entry.specs.Tally.{Tally}
use Rattle.sc_entry.specs.declared.counted_text.CountedText.{CountedText}
use Rattle.sc_entry.proofs.Tallies.{text_cmp}
use Rattle.sc_stats_json.specs.Json.{counted_fields, number_json}
use Rattle.sc_stats_json.specs.Fields.{put_counted}

abbrev Counted : Type 0
Counted = List ℕ × ℕ

abbrev text_of : Counted → CountedText
text_of e = record { text = e.0; count = e.1 }

abbrev pub fields_of : List Counted → Members
fields_of es = counted_fields (map text_of es)

first_of : (a b : Bool) → T (a && b) → T a
first_of true b p = tt
first_of false b p = absurd p

second_of : (a b : Bool) → T (a && b) → T b
second_of true b p = p
second_of false b p = absurd p

less_of : (o : Ordering) → T (is_lt o) → o ≡ Less
less_of Less p = refl
less_of Equal p = absurd p
less_of Greater p = absurd p

below_middle : (k : List ℕ) (es : List Counted) (e : Counted) (more : List Counted) → T (below_all text_cmp k (es ++ e ∷ more)) → text_cmp k e.0 ≡ Less
below_middle k [] e more h = less_of _ (first_of _ _ h)
below_middle k (x ∷ es) e more h = below_middle k es e more (second_of _ _ h)

-- a text above those before it goes last
put_last : (done : List Counted) (e : Counted) (more : List Counted) → T (is_sorted text_cmp (done ++ e ∷ more)) → put e.0 (number_json e.1) (fields_of done) ≡ fields_of (done ++ e ∷ [])
put_last [] e more h = refl
put_last (first ∷ done) e more h =
    let above : text_cmp e.0 first.0 ≡ Greater = nat_list_cmp_total.antisymm e.0 first.0 ∙ ap ordering_reverse (below_middle first.0 done e more (first_of _ _ h)) in
    rw above (ap (member first.0 (number_json first.1)) (put_last done e more (second_of _ _ h)))

put_rest : (done es : List Counted) → T (is_sorted text_cmp (done ++ es)) → put_counted (map text_of es) (fields_of done) ≡ fields_of (done ++ es)
put_rest done [] h = ap fields_of (sym (append-nil done))
put_rest done (e ∷ es) h =
    let regrouped : (done ++ e ∷ []) ++ es ≡ done ++ e ∷ es = append_assoc done (e ∷ []) es in
    ap (put_counted (map text_of es)) (put_last done e es h)
    ∙ put_rest (done ++ e ∷ []) es (subst (λ (xs : List Counted). T (is_sorted text_cmp xs)) (sym regrouped) h)
    ∙ ap fields_of regrouped

-- all texts of a tally put into no fields
pub put_all : (tally : Tally) → put_counted (listed tally) no_members ≡ counted_fields (listed tally)
put_all tally = put_rest [] (entries tally) (entries_sorted tally)
