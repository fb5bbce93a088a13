-- A list is cut at the first place where a byte stands.
use Rattle.std.proofs.Common.{◌≡◌, ℕ, zero, suc, ◌+◌, ◌-◌, ◌<◌, ◌≢◌, ◌==◌, List, [], ◌∷◌, length, take, drop, get_or, refl, arith, eq-eqb, false, true, add-one, Some, None}
use Rattle.std.proofs.Math.Seq.{take-length}
use Rattle.std.proofs.lemmas.List.{length-drop}
use Rattle.std.proofs.lemmas.Grind.{common_steps}
use Rattle.std.specs.List.{slice_split}
use Rattle.sc_words.specs.Words.{cut_at}

neq-eqb : (a b : ℕ) → a ≢ b → (a == b) ≡ false
neq-eqb a b h = grind (arith, common_steps)

pub eq_from_test : (a b : ℕ) → (a == b) ≡ true → a ≡ b
eq_from_test a b h = grind (arith, common_steps)

pub cut_none : (c : ℕ) (text : List ℕ) → ((j : ℕ) → j < length text → get_or text j 0 ≢ c) → None ≡ cut_at c text
cut_none c [] none = refl
cut_none c (x ∷ xs) none =
    rw (neq-eqb x c (none 0 (omega arith)), ← (cut_none c xs (λ j h. none (suc j) (omega arith)))) refl

pub cut_here : (c : ℕ) (text : List ℕ) (k : ℕ) → k < length text → ((j : ℕ) → j < k → get_or text j 0 ≢ c) → get_or text k 0 ≡ c
    → Some (take k text, drop (suc k) text) ≡ cut_at c text
cut_here c [] k lt none at = absurd (omega arith)
cut_here c (x ∷ xs) zero lt none at = rw (eq-eqb x c at) refl
cut_here c (x ∷ xs) (suc k) lt none at =
    rw (neq-eqb x c (none 0 (omega arith)), ← (cut_here c xs k (omega arith) (λ j h. none (suc j) (omega arith)) at)) refl

pub split_none : (c : ℕ) (text : List ℕ) → ((j : ℕ) → j < length text → get_or text j 0 ≢ c) → slice_split (λ b. b == c) text ≡ text ∷ []
split_none c [] none = refl
split_none c (x ∷ xs) none =
    rw (neq-eqb x c (none 0 (omega arith)), split_none c xs (λ j h. none (suc j) (omega arith))) refl

pub split_here : (c : ℕ) (text : List ℕ) (k : ℕ) → k < length text → ((j : ℕ) → j < k → get_or text j 0 ≢ c) → get_or text k 0 ≡ c
    → slice_split (λ b. b == c) text ≡ take k text ∷ slice_split (λ b. b == c) (drop (suc k) text)
split_here c [] k lt none at = absurd (omega arith)
split_here c (x ∷ xs) zero lt none at = rw (eq-eqb x c at) refl
split_here c (x ∷ xs) (suc k) lt none at =
    rw (neq-eqb x c (none 0 (omega arith)), split_here c xs k (omega arith) (λ j h. none (suc j) (omega arith)) at) refl

pub rest_of : (k : ℕ) (text : List ℕ) → take (length text - (k + 1)) (drop (k + 1) text) ≡ drop (suc k) text
rest_of k text = rw (← (length-drop (k + 1) text), take-length) (rw add-one refl)
