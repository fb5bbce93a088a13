-- Loops over a list, by what is left of it.
use Rattle.std.proofs.Common.{◌≡◌, ℕ, zero, suc, ◌+◌, ◌<◌, ◌≤◌, List, [], ◌∷◌, length, drop, get_or, ap, sym, ◌∙◌, arith, add-one}

module _ {A R : Type 0} (f : List A → R → R) where
  -- nothing is left
  pub left_end : ((r : R) → f [] r ≡ r) → (xs : List A) (i : ℕ) (r : R) → length xs ≤ i → f (drop i xs) r ≡ r
  left_end stops [] zero r h = stops r
  left_end stops [] (suc i) r h = stops r
  left_end stops (x ∷ xs) zero r h = absurd (omega arith)
  left_end stops (x ∷ xs) (suc i) r h = left_end stops xs i r (omega arith)

  -- one item is taken
  pub left_step : (g : A → R → R) → ((x : A) (xs : List A) (r : R) → f (x ∷ xs) r ≡ f xs (g x r)) → (xs : List A) (i : ℕ) (d : A) (r : R) → i < length xs → f (drop (i + 1) xs) (g (get_or xs i d) r) ≡ f (drop i xs) r
  left_step g goes xs i d r h = ap (λ n. f (drop n xs) (g (get_or xs i d) r)) (add-one i) ∙ stepped xs i d r h where
    stepped : (xs : List A) (i : ℕ) (d : A) (r : R) → i < length xs → f (drop (suc i) xs) (g (get_or xs i d) r) ≡ f (drop i xs) r
    stepped [] i d r h = absurd (omega arith)
    stepped (x ∷ xs) zero d r h = sym (goes x xs r)
    stepped (x ∷ xs) (suc i) d r h = stepped xs i d r (omega arith)
