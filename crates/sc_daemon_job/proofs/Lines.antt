-- A text is cut into lines at its line feeds.
use Rattle.std.proofs.Common.{◌≡◌, ℕ, zero, suc, ◌-◌, ◌<◌, ◌≢◌, ◌==◌, false, List, [], ◌∷◌, length, take, drop, get_or, refl, arith, eq-eqb}
use Rattle.std.proofs.Math.Nat.{sub_self}
use Rattle.std.proofs.lemmas.Grind.{common_steps}
use Rattle.sc_model.specs.Finishing.{lines}

neq-eqb : (a b : ℕ) → a ≢ b → (a == b) ≡ false
neq-eqb a b h = grind (arith, common_steps)

-- without a line feed there is one line
pub one_line : (text : List ℕ) → 0 < length text → ((j : ℕ) → j < length text → get_or text j 0 ≢ 10) → lines text ≡ text ∷ []
one_line [] some none = absurd (omega arith)
one_line (b ∷ []) some none = rw (neq-eqb b 10 (none 0 (omega arith))) refl
one_line (b ∷ c ∷ bs) some none =
    rw (neq-eqb b 10 (none 0 (omega arith)), one_line (c ∷ bs) (omega arith) (λ j h. none (suc j) (omega arith))) refl

-- nothing is behind it
pub whole_line : (text : List ℕ) → 0 < length text → ((j : ℕ) → j < length text → get_or text j 0 ≢ 10) → lines text ≡ text ∷ lines (take (length text - length text) (drop (length text) text))
whole_line text some none = rw sub_self (one_line text some none)

-- the first line goes up to the first line feed
pub first_line : (text : List ℕ) (k : ℕ) → k < length text → ((j : ℕ) → j < k → get_or text j 0 ≢ 10) → get_or text k 0 ≡ 10
    → lines text ≡ take k text ∷ lines (drop (suc k) text)
first_line [] k lt none at = absurd (omega arith)
first_line (b ∷ bs) zero lt none at = rw (eq-eqb b 10 at) refl
first_line (b ∷ bs) (suc k) lt none at =
    rw (neq-eqb b 10 (none 0 (omega arith)), first_line bs k (omega arith) (λ j h. none (suc j) (omega arith)) at) refl
