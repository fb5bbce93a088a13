-- What stands at a place past the first of two lists in a row.
use Rattle.std.proofs.Common.{◌≡◌, ℕ, ◌-◌, ◌≤◌, List, [], ◌∷◌, ◌++◌, length, slice_get, arith, refl, zero, suc}
use native.Mathlib.Numerals.{unary_clauses}

pub slice_get-append_right : {X : Type 0} → (xs ys : List X) (n i : ℕ) → length xs ≡ n → n ≤ i → slice_get (xs ++ ys) i ≡ slice_get ys (i - n)
slice_get-append_right [] ys zero i e h = simp unary_clauses refl
slice_get-append_right [] ys (suc n) i e h = absurd (omega arith)
slice_get-append_right (x ∷ xs) ys zero i e h = absurd (omega arith)
slice_get-append_right (x ∷ xs) ys (suc n) zero e h = absurd (omega arith)
slice_get-append_right (x ∷ xs) ys (suc n) (suc i) e h = simp unary_clauses (slice_get-append_right xs ys n i (omega arith) (omega arith))
