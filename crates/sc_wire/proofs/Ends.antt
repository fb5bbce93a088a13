use Rattle.std.proofs.Common.{◌≡◌, ℕ, List, Option, Some, None, Result, Ok, Err}
use Rattle.std.specs.Prelude.{IfErr}
use Rattle.sc_wire.specs.Codec.{Codec, Spells, read_all, all_again}
use Rattle.sc_wire.specs.declared.error.DecodeError.{DecodeError}
use Rattle.sc_wire.specs.declared.error.DecodeError.TheVariants.{NoMemory, BadFrame}
use Rattle.sc_wire.specs.Gives.{Decodes, IfBadFrame}

some_none : {A : Type 0} (x : A) (o : Option A) → o ≡ Some x → o ≡ None → ⊥
some_none x o p q = cc

pub none_spells : {A : Type 0} (a : Codec A) (bytes : List ℕ) (r : Result A DecodeError) → Decodes r (read_all a bytes)
    → IfErr r (λ e. IfBadFrame e ((m : A) → ¬ (Spells a bytes m)))
none_spells a bytes (Ok x) h = tt
none_spells a bytes (Err NoMemory) h = tt
none_spells a bytes (Err BadFrame) h = λ m s. some_none m (read_all a bytes) (all_again a bytes m s) h
