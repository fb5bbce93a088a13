-- What holds of an action for any request, or from any moments on, holds for one.
use Rattle.std.proofs.Common.{Result, Ok, Err}
use Rattle.std.specs.Prelude.{IfOk}

pub if_all : {A B E : Type 0} (P : A → B → Type 0) (result : Result A E) (b : B) → IfOk result (λ a. (c : B) → P a c) → IfOk result (λ a. P a b)
if_all P (Ok a) b h = h b
if_all P (Err e) b h = tt
