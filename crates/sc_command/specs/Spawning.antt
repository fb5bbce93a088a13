-- What a spawn answers.
use Rattle.std.specs.Prelude.{◌≡◌, Bool, true, false, Result, Ok, Err}
use Rattle.sc_command.specs.declared.refusal.CommandError.{CommandError}
use Rattle.sc_command.specs.declared.refusal.CommandError.TheVariants.{NoMemory, Fault}
use Rattle.sc_command.specs.declared.refusal.CommandRefusal.{CommandRefusal}
use Rattle.sc_command.specs.declared.refusal.CommandRefusal.TheVariants as refusals
use Rattle.sc_command.specs.declared.refusal.SpawnError.{SpawnError}
use Rattle.sc_command.specs.declared.refusal.SpawnError.TheVariants as errors

-- `Spent` exactly where the command was spawned before; else a child, want of memory, or `SpawnFault`.
abbrev pub SpawnAnswer : {C F : Type 0} → (F → CommandRefusal) → Bool → Result C (CommandError F) → Type 0
SpawnAnswer refusal true (Ok child) = ⊥
SpawnAnswer refusal true (Err NoMemory) = ⊥
SpawnAnswer refusal true (Err (Fault fault)) = refusal fault ≡ refusals.Spent
SpawnAnswer refusal false (Ok child) = Unit {0}
SpawnAnswer refusal false (Err NoMemory) = Unit {0}
SpawnAnswer refusal false (Err (Fault fault)) = refusal fault ≡ refusals.SpawnFault

-- A spawn gave what may be given: a child, or a refusal. Want of memory is free.
abbrev pub SpawnGives : {C F : Type 0} → (Result C SpawnError → Type 0) → Result C (CommandError F) → Type 0
SpawnGives gives (Ok child) = gives (Ok child)
SpawnGives gives (Err NoMemory) = Unit {0}
SpawnGives gives (Err (Fault fault)) = gives (Err errors.SpawnFault)
