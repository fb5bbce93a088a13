-- What several calls appended, one after the other.
use Rattle.std.proofs.Common.{◌≡◌, ℕ, List, ◌++◌, Result, Ok, Err, OnOk, ap, ◌∙◌, append_assoc}

pub then_more : (first next last a b : List ℕ) → next ≡ first ++ a → last ≡ next ++ b → last ≡ first ++ (a ++ b)
then_more first next last a b e f = f ∙ ap (λ (x : List ℕ). x ++ b) e ∙ append_assoc first a b

pub then_last : {E : Type 0} (r : Result (Unit {0}) E) (first next last a b : List ℕ) → next ≡ first ++ a → OnOk r (last ≡ next ++ b) → OnOk r (last ≡ first ++ (a ++ b))
then_last (Ok u) first next last a b e f = then_more first next last a b e f
then_last (Err x) first next last a b e f = tt
