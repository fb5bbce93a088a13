-- What the execution of a command comes to.
use Rattle.std.specs.Prelude.{◌≡◌, ℕ, ◌/◌, ◌%◌, ◌==◌, if◌then◌else◌, List, [], ◌∷◌, Option, Some, None, Result, Ok, Err, ◌⊎◌, pos}
use Rattle.std.specs.Process.{exit_code, status_bits}
use Rattle.std.specs.declared.process.ExitStatus.{ExitStatus}
use Rattle.sc_entry.specs.Causes.{IfTold, Rose}
use Rattle.sc_command.specs.Children.{Content, GivesOutput}
use Rattle.sc_command.specs.declared.output.Output.{Output}
use Rattle.sc_command.specs.declared.refusal.CommandError.{CommandError}
use Rattle.sc_command.specs.declared.refusal.CommandError.TheVariants as command_errors
use Rattle.sc_command.specs.declared.refusal.CommandRefusal.{CommandRefusal}
use Rattle.sc_command.specs.declared.refusal.CommandRefusal.TheVariants.{Spent, SpawnFault, WaitFault}
use Rattle.sc_command.specs.declared.refusal.NewCommandError.{NewCommandError}
use Rattle.sc_command.specs.declared.refusal.NewCommandError.TheVariants as new_command_errors
use Rattle.sc_command.specs.declared.refusal.SpawnError.{SpawnError}
use Rattle.sc_command.specs.declared.refusal.SpawnError.TheVariants as spawn_errors
use Rattle.sc_model.specs.declared.event.Output.{Output as ToldOutput}
use Rattle.sc_model.specs.declared.event.Status.{Status}
use Rattle.sc_model.specs.declared.event.Status.TheVariants.{Code, Neither, Signal}
use Rattle.sc_command_workshop.specs.declared.execute_error.ExecuteError.{ExecuteError}
use Rattle.sc_command_workshop.specs.declared.execute_error.ExecuteError.TheVariants.{NoMemory, NoChild, ProcessError, Refused}

-- how a child ended, as answers tell it: with a code, by a signal, or neither
abbrev pub status_of : ExitStatus → Status
status_of s =
    if status_bits s % 128 == 0 then Code (status_bits s / 256 % 256)
    else if status_bits s % 128 == 127 then Neither
    else Signal (status_bits s % 128)

-- what a child wrote and how it ended, as answers tell it
abbrev pub told_output : Output → ToldOutput
told_output o = record { status = status_of o.status; stdout = o.stdout; stderr = o.stderr }

abbrev pub from_new_command : NewCommandError → ExecuteError
from_new_command new_command_errors.NoMemory = NoMemory
from_new_command new_command_errors.NoChild = NoChild

-- the child ended by itself, with the code 0
abbrev pub Succeeded : Output → Type 0
Succeeded output = exit_code output.status ≡ Some (pos 0)

-- ---- a child of a command

-- A child that the command may give wrote this and ended so, where it tells.
abbrev pub GaveOutput : {C : Type 0} → (Result C SpawnError → Type 0) → (C → Option Content) → Output → Type 0
GaveOutput {C} gives content output = (child : C) × gives (Ok child) × IfTold (content child) (λ c. GivesOutput {F = CommandRefusal} c (Ok output))

-- A spawn was refused that may be, or the wait of a child that may be.
abbrev pub MayRefuse : {C : Type 0} → (Result C SpawnError → Type 0) → (C → Option Content) → CommandRefusal → Type 0
MayRefuse gives content Spent = ⊥
MayRefuse gives content SpawnFault = gives (Err spawn_errors.SpawnFault)
MayRefuse {C} gives content WaitFault = (child : C) × gives (Ok child) × IfTold (content child) (λ c. c.ending ≡ None)

-- what a spawned command comes to
abbrev pub CameOf : {C F : Type 0} → (Result C SpawnError → Type 0) → (C → Option Content) → (F → CommandRefusal) → Result Output (CommandError F) → Type 0
CameOf gives content why (Ok output) = GaveOutput gives content output
CameOf gives content why (Err command_errors.NoMemory) = Unit {0}
CameOf gives content why (Err (command_errors.Fault fault)) = MayRefuse gives content (why fault)

-- ---- an execution

-- the output of a child that ended with the code 0, and else that of one that ended otherwise
abbrev pub EndsSo : Result Output ExecuteError → Type 0
EndsSo (Ok output) = Succeeded output
EndsSo (Err (ProcessError output)) = Succeeded output → ⊥
EndsSo (Err error) = Unit {0}

-- The creator's count rises where it, its command or its child refused, and nowhere else.
abbrev pub ExecuteCause : ℕ → ℕ → Result Output ExecuteError → Type 0
ExecuteCause before now (Err NoChild) = Rose before now
ExecuteCause before now (Err (Refused refusal)) = Rose before now
ExecuteCause before now result = now ≡ before

-- what a command comes to, by what its spawn may give
abbrev pub Executed : {C : Type 0} → (Result C SpawnError → Type 0) → (C → Option Content) → Result Output ExecuteError → Type 0
Executed gives content (Ok output) = GaveOutput gives content output
Executed gives content (Err (ProcessError output)) = GaveOutput gives content output
Executed gives content (Err (Refused refusal)) = MayRefuse gives content refusal
Executed gives content (Err NoMemory) = Unit {0}
Executed gives content (Err NoChild) = ⊥

-- A creator that tells its commands gave its first, and keeps the others; where memory ran out it may have kept the
-- first too. It refused exactly where none was left.
abbrev pub TakesFirst : {C : Type 0} → (C → Result Output ExecuteError → Type 0) → Option (List C) → Result Output ExecuteError → Option (List C) → Type 0
TakesFirst by None result after = after ≡ None
TakesFirst by (Some []) (Err NoMemory) after = after ≡ Some []
TakesFirst by (Some []) (Err NoChild) after = after ≡ Some []
TakesFirst by (Some []) result after = ⊥
TakesFirst by (Some (first ∷ rest)) (Err NoMemory) after = (after ≡ Some rest) ⊎ (after ≡ Some (first ∷ rest))
TakesFirst by (Some (first ∷ rest)) result after = by first result × (after ≡ Some rest)

-- what the first command of a creator that tells comes to, where it tells its arguments too
abbrev pub ExecutesFirst : {C D P : Type 0} → (P → List (List ℕ) → Result D SpawnError → Type 0) → (C → P) → (C → Option (List (List ℕ))) → (D → Option Content) → List (List ℕ) → C → Result Output ExecuteError → Type 0
ExecutesFirst gives plan told content words first result = IfTold (told first) (λ ws. Executed (gives (plan first) words) content result)

-- an output is given where its child ended with the code 0, and else told as an error
abbrev pub Judges : Output → Result Output ExecuteError → Type 0
Judges output (Ok given) = (given ≡ output) × Succeeded output
Judges output (Err (ProcessError given)) = (given ≡ output) × (Succeeded output → ⊥)
Judges output (Err error) = ⊥
