-- What holds of each word and of each variable, one after the other.
use Rattle.std.proofs.Common.{◌≡◌, ℕ, suc, ◌+◌, ◌<◌, ◌≤◌, Bool, true, false, cond, List, ◌∷◌, length, drop, Option, Some, IsTrue, All, sym, ap, ◌∙◌, subst, arith, inl, inr}
use Rattle.std.specs.Prelude.{◌⊎◌, bytes_eq}
use Rattle.std.specs.Bool.{MatchBool}
use Rattle.std.specs.List.{AllWithin, HoldsAt, slice_get, slice_index_or}
use Rattle.std.proofs.lemmas.Bool.{cases_eq}
use Rattle.std.proofs.lemmas.Option.{slice_get_within, get_or_from_slice_get}
use Rattle.std.proofs.lemmas.Iterator.Search.{true_from_All}
use Rattle.std.proofs.Math.Seq.{drop-cons}
use lib.ListN.{get_or}
use Rattle.sc_command.specs.Variables.{Named}
use Rattle.sc_host.specs.Programs.{said}

module _ {X : Type 0} (P : X → Type 0) where
  all_if_true : (r : Bool) (xs : List X) → MatchBool r (AllWithin P xs 0 (length xs)) ((k : ℕ) × (k < length xs) × HoldsAt (λ x. ¬ (P x)) xs k) → r ≡ true → All P xs
  all_if_true true xs found is = λ k d within. found k d (omega arith) within
  all_if_true false xs found is = absurd (cc)

  -- what a test of each element tells of all
  pub all_by_test : (r : Bool) (xs : List X) → MatchBool r (AllWithin P xs 0 (length xs)) ((k : ℕ) × (k < length xs) × HoldsAt (λ x. ¬ (P x)) xs k) → (IsTrue r → All P xs) × (All P xs → IsTrue r)
  all_by_test r xs found = ((λ is. all_if_true r xs found is), (λ all. true_from_All P (λ x. ¬ (P x)) r xs (λ x p q. q p) found all))

  -- what holds of all holds of one
  pub all_at : (xs : List X) (i : ℕ) (x : X) → All P xs → slice_get xs i ≡ Some x → P x
  all_at xs i x all at = subst P (get_or_from_slice_get xs i x x at) (all i x (slice_get_within xs i x at))

  -- one of which it doesn't hold
  pub refuted : (r : Bool) (xs : List X) (i : ℕ) (x : X) → (P x → r ≡ true) → r ≡ false → slice_get xs i ≡ Some x → (IsTrue false → All P xs) × (All P xs → IsTrue false)
  refuted r xs i x holds isnt at = ((λ is. absurd (cc)), (λ all. sym isnt ∙ holds (all_at xs i x all at)))

  within_step : (xs : List X) (i : ℕ) (x : X) (k : ℕ) (d : X) → AllWithin P xs 0 i → slice_get xs i ≡ Some x → P x → k < i + 1 → (k ≡ i) ⊎ (k ≡ i → ⊥) → P (slice_index_or xs k d)
  within_step xs i x k d before at holds high (inl e) =
      subst (λ j. P (slice_index_or xs j d)) (sym e) (subst P (sym (get_or_from_slice_get xs i x d at)) holds)
  within_step xs i x k d before at holds high (inr other) = before k d (omega arith) (omega (arith, high, other))

  -- what holds of the first elements and of the next
  pub within_more : (xs : List X) (i : ℕ) (x : X) → AllWithin P xs 0 i → slice_get xs i ≡ Some x → P x → AllWithin P xs 0 (i + 1)
  within_more xs i x before at holds = λ k d low high. within_step xs i x k d before at holds high (cases_eq k i)

  -- what holds of the first elements, where these are all
  pub all_within : (xs : List X) (i : ℕ) → AllWithin P xs 0 i → length xs ≤ i → All P xs
  all_within xs i before all = λ k d within. before k d (omega arith) (omega (arith, within, all))

-- one variable more was set
pub said_step : (vars : Named) (i : ℕ) (p : List ℕ × List ℕ) (name : List ℕ) (before after whole : Option (Option (List ℕ))) → slice_get vars i ≡ Some p
    → after ≡ cond (bytes_eq p.0 name) (Some (Some p.1)) before → said name before (drop i vars) ≡ whole → said name after (drop (i + 1) vars) ≡ whole
said_step vars i p name before after whole at so e =
    let next : drop i vars ≡ p ∷ drop (suc i) vars = drop-cons vars i p (slice_get_within vars i p at) ∙ ap (λ q. q ∷ drop (suc i) vars) (get_or_from_slice_get vars i p p at) in
    let up : i + 1 ≡ suc i = omega arith in
    rw (so, up) (sym (ap (said name before) next) ∙ e)
