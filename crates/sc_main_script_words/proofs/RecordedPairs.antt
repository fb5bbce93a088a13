-- A pair of words is read, and the pairs behind it.
use Rattle.std.proofs.Common.{◌≡◌, ℕ, List, [], ◌∷◌, Option, Some, refl, ap, sym, ◌∙◌}
use Rattle.sc_stats.specs.declared.counters.ServerStats.{ServerStats}
use Rattle.sc_main_script_words.proofs.Tests.{some_same}
use Rattle.sc_words.specs.Words.{Pops, ◌>>=◌, word}
use Rattle.sc_main_script_words.specs.Records.{pairs_onto, with_pair}

popped : (words : List (List ℕ)) (w : List ℕ) (left : List (List ℕ)) → Pops words (Some w) left → words ≡ w ∷ left
popped [] w left taken = let e = taken.0 in absurd (cc)
popped (x ∷ xs) w left taken = rw (some_same w x taken.0, taken.1) refl

worded : (words : List (List ℕ)) (w : List ℕ) (left : List (List ℕ)) → word words ≡ Some (w, left) → words ≡ w ∷ left
worded [] w left e = absurd (cc)
worded (x ∷ xs) w left e = ap (λ (p : List ℕ × List (List ℕ)). p.0 ∷ p.1) (some_same (x, xs) (w, left) e)

pair_then : (s t : ServerStats) (name number : List ℕ) (left : List (List ℕ)) → with_pair s name number ≡ Some t
    → pairs_onto t left ≡ pairs_onto s (name ∷ number ∷ left)
pair_then s t name number left e = sym (ap (λ (o : Option ServerStats). o >>= (λ u. pairs_onto u left)) e)

pub pair_goes_on : (s t : ServerStats) (words behind left : List (List ℕ)) (name number : List ℕ)
    → Pops words (Some name) behind → word behind ≡ Some (number, left) → with_pair s name number ≡ Some t
    → pairs_onto t left ≡ pairs_onto s words
pair_goes_on s t words behind left name number p q e =
    pair_then s t name number left e
    ∙ sym (ap (λ (ws : List (List ℕ)). pairs_onto s ws) (popped words name behind p ∙ ap (λ (ws : List (List ℕ)). name ∷ ws) (worded behind number left q)))
