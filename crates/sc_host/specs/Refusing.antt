-- What a refused call answers.
use Rattle.std.specs.Prelude.{◌≡◌, Result, Ok, Err}
use Rattle.sc_command.specs.declared.refusal.CommandRefusal.{CommandRefusal}
use Rattle.sc_command.specs.declared.refusal.CommandError.{CommandError}
use Rattle.sc_command.specs.declared.refusal.CommandError.TheVariants.{NoMemory, Fault}

-- a fault was answered, for this refusal
abbrev pub IsRefused : {A F : Type 0} → (F → CommandRefusal) → CommandRefusal → Result A (CommandError F) → Type 0
IsRefused why refusal (Err (Fault fault)) = why fault ≡ refusal
IsRefused why refusal (Err NoMemory) = ⊥
IsRefused why refusal (Ok a) = ⊥
