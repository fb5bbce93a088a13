-- Counts by text: a list of pairs, the texts strictly ascending by their bytes.
use Rattle.std.specs.Prelude.{◌≡◌, ℕ, Bool, true, false, ◌&&◌, T, List, [], ◌∷◌, IsTrue, refl}
use Rattle.std.specs.Ordering.{nat_cmp, is_lt}
use Rattle.std.specs.declared.cmp.Ordering.{Ordering}
use Rattle.std.specs.declared.cmp.Ordering.TheVariants.{Less, Equal, Greater}
use Rattle.std.specs.FinMap.{entries_sorted}
use Rattle.std.specs.FinMap.Entries.{below_all, is_sorted}
use Rattle.std.specs.Cmp.{first_so, second_so}
use Rattle.std.specs.Cmp.Lexicographic.{slice_cmp, nat_list_cmp_total}
use Rattle.std.proofs.Common.{sym, subst}
use Rattle.sc_entry.specs.Tally.{Tally, tally_of, entries_of}
use Rattle.sc_entry.proofs.Ordered.{entries_back, tally_forth}
use Rattle.sc_wire.specs.Codec.{Codec, fitting_as, where_true, ◌&◌}
use Rattle.sc_wire.specs.Lists.{list, text}
use Rattle.sc_wire.specs.Numbers.{u64}

abbrev pub text_cmp : List ℕ → List ℕ → Ordering
text_cmp = slice_cmp nat_cmp

abbrev pub is_text_below : List ℕ → List ℕ → Bool
is_text_below a b = is_lt (text_cmp a b)

-- each text is below the next
abbrev pub rises : List (List ℕ × ℕ) → Bool
rises [] = true
rises (e ∷ []) = true
rises (e ∷ f ∷ es) = is_text_below e.0 f.0 && rises (f ∷ es)

both : (a b : Bool) → T a → T b → T (a && b)
both true b p q = q
both false b p q = absurd p

first : (a b : Bool) → T (a && b) → T a
first true b p = tt
first false b p = p

second : (a b : Bool) → T (a && b) → T b
second true b p = p
second false b p = absurd p

less : (o : Ordering) → IsTrue (is_lt o) → o ≡ Less
less Less p = refl
less Equal p = absurd cc
less Greater p = absurd cc

is_less : (o : Ordering) → o ≡ Less → T (is_lt o)
is_less o e = subst (λ r. T (is_lt r)) (sym e) tt

less_from : (o : Ordering) → T (is_lt o) → o ≡ Less
less_from Less p = refl
less_from Equal p = absurd p
less_from Greater p = absurd p

below_more : (x y : List ℕ) (es : List (List ℕ × ℕ)) → text_cmp x y ≡ Less → T (below_all text_cmp y es) → T (below_all text_cmp x es)
below_more x y [] p h = tt
below_more x y (e ∷ es) p h = both _ _ (is_less _ (nat_list_cmp_total.trans x y e.0 p (less_from _ (first _ _ h)))) (below_more x y es p (second _ _ h))

pub sorted_if_rises : (es : List (List ℕ × ℕ)) → IsTrue (rises es) → T (is_sorted text_cmp es)
sorted_if_rises [] h = tt
sorted_if_rises (e ∷ []) h = tt
sorted_if_rises (e ∷ f ∷ es) h =
    let lt : text_cmp e.0 f.0 ≡ Less = less _ (first_so _ _ h) in
    let rest : T (is_sorted text_cmp (f ∷ es)) = sorted_if_rises (f ∷ es) (second_so _ _ h) in
    both _ _ (both _ _ (is_less _ lt) (below_more e.0 f.0 es lt (first _ _ rest))) rest

pub rises_back : (es : List (List ℕ × ℕ)) → IsTrue (rises es) → entries_of (tally_of es) ≡ es
rises_back es h = entries_back es (sorted_if_rises es h)

true_and : (a b : Bool) → T a → IsTrue b → IsTrue (a && b)
true_and true b p q = q
true_and false b p q = absurd p

pub rises_if_sorted : (es : List (List ℕ × ℕ)) → T (is_sorted text_cmp es) → IsTrue (rises es)
rises_if_sorted [] h = refl
rises_if_sorted (e ∷ []) h = refl
rises_if_sorted (e ∷ f ∷ es) h = true_and _ _ (first _ _ (first _ _ h)) (rises_if_sorted (f ∷ es) (second _ _ h))

pub entries_rise : (tally : Tally) → IsTrue (rises (entries_of tally))
entries_rise tally = rises_if_sorted (entries_of tally) (entries_sorted tally)

-- a text and its count
abbrev pub pair : Codec (List ℕ × ℕ)
pair = text & u64

abbrev pub counts : Codec Tally
counts = fitting_as tally_of entries_of (where_true rises (list pair)) (λ es fits. rises_back es fits.0) tally_forth
