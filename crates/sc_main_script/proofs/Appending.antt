-- A text that is made longer where it stands in a list.
use Rattle.std.proofs.Common.{◌≡◌, ℕ, zero, suc, ◌<◌, List, [], ◌∷◌, ◌++◌, length, get_or, set, ap, arith}
use Rattle.sc_main_script.specs.Inputs.{appended}

set_more : (xs : List (List ℕ)) (i : ℕ) (t bytes : List ℕ) → i < length xs → t ≡ get_or xs i t → set xs i (t ++ bytes) ≡ appended xs i bytes
set_more [] i t bytes lt e = absurd (omega arith)
set_more (x ∷ xs) zero t bytes lt e = ap (λ (y : List ℕ). (y ++ bytes) ∷ xs) e
set_more (x ∷ xs) (suc i) t bytes lt e = ap (λ (ys : List (List ℕ)). x ∷ ys) (set_more xs i t bytes (omega arith) e)

pub set_appended : (xs ys : List (List ℕ)) (i : ℕ) (t bytes more : List ℕ) → xs ≡ ys → i < length ys → t ≡ get_or xs i t → more ≡ t ++ bytes → set xs i more ≡ appended ys i bytes
set_appended xs ys i t bytes more same lt e is = rw (is, same) (set_more ys i t bytes lt (rw (← same) e))
