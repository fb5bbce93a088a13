-- The last place of a byte.
use Rattle.std.proofs.Common.{◌≡◌, ◌≢◌, ℕ, zero, suc, ◌+◌, ◌-◌, ◌<◌, ◌==◌, true, false, if◌then◌else◌, List, [], ◌∷◌, length, take, drop, get_or, Some, None, refl, ap, ◌∙◌, arith, eq-eqb}
use Rattle.std.proofs.Math.Seq.{take-length}
use Rattle.std.proofs.lemmas.List.{length-drop}
use Rattle.std.proofs.lemmas.Grind.{common_steps}
use Rattle.sc_compile_language.specs.Extensions.{after_last, or_else}

neq-eqb : (a b : ℕ) → a ≢ b → (a == b) ≡ false
neq-eqb a b h = grind (arith, common_steps)

pub eq_from_test : (a b : ℕ) → (a == b) ≡ true → a ≡ b
eq_from_test a b h = grind (arith, common_steps)

pub last_none : (mark : ℕ) (text : List ℕ) → ((j : ℕ) → j < length text → get_or text j 0 ≢ mark) → after_last mark text ≡ None
last_none mark [] none = refl
last_none mark (x ∷ xs) none =
    ap (λ t. or_else (after_last mark xs) (if t then Some xs else None)) (neq-eqb x mark (none 0 (omega arith)))
    ∙ ap (λ found. or_else found None) (last_none mark xs (λ j h. none (suc j) (omega arith)))

pub last_here : (mark : ℕ) (text : List ℕ) (k : ℕ) → k < length text → ((j : ℕ) → k < j → j < length text → get_or text j 0 ≢ mark) → get_or text k 0 ≡ mark
    → after_last mark text ≡ Some (drop (suc k) text)
last_here mark [] k lt after at = absurd (omega arith)
last_here mark (x ∷ xs) zero lt after at =
    ap (λ t. or_else (after_last mark xs) (if t then Some xs else None)) (eq-eqb x mark at)
    ∙ ap (λ found. or_else found (Some xs)) (last_none mark xs (λ j h. after (suc j) (omega arith) (omega arith)))
last_here mark (x ∷ xs) (suc k) lt after at =
    ap (λ found. or_else found (if x == mark then Some xs else None)) (last_here mark xs k (omega arith) (λ j h g. after (suc j) (omega arith) (omega arith)) at)

pub rest_of : (k : ℕ) (text : List ℕ) → take (length text - (k + 1)) (drop (k + 1) text) ≡ drop (k + 1) text
rest_of k text = rw (← (length-drop (k + 1) text), take-length) refl
