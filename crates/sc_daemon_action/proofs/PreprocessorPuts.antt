-- What the end of a put says for any request holds for puts of preprocessor entries.
use Rattle.std.proofs.Common.{ℕ, List, Result, Ok, Err}
use Rattle.std.specs.Prelude.{IfOk}
use Rattle.sc_model.specs.declared.message.Request.{Request}
use Rattle.sc_model.specs.declared.message.Request.TheVariants.{StoragePutPreprocessorEntry as PutPre}

pub for_puts : {A E : Type 0} (P : A → Request → Type 0) (result : Result A E) → IfOk result (λ a. (r : Request) → P a r) → IfOk result (λ a. (key put : List ℕ) → P a (PutPre key put))
for_puts P (Ok a) h = λ key put. h (PutPre key put)
for_puts P (Err e) h = tt

-- and from any moments on, from these
pub for_since : {A B E : Type 0} (P : A → Request → B → Type 0) (result : Result A E) (since : B) → IfOk result (λ a. (r : Request) (s : B) → P a r s) → IfOk result (λ a. (r : Request) → P a r since)
for_since P (Ok a) since h = λ r. h r since
for_since P (Err e) since h = tt
