-- What a child gives.
use Rattle.std.specs.Prelude.{◌≡◌, ℕ, Bool, false, List, [], Option, Some, None, Result, Ok, Err}
use Rattle.std.specs.declared.process.ExitStatus.{ExitStatus}
use Rattle.sc_command.specs.declared.output.Output.{Output}
use Rattle.sc_command.specs.declared.refusal.CommandError.{CommandError}
use Rattle.sc_command.specs.declared.refusal.CommandError.TheVariants.{NoMemory, Fault}

-- which streams of a child can be taken
pub record Streams : Type 0 where
  pub stdin : Bool
  pub stdout : Bool
  pub stderr : Bool

abbrev pub stdin_taken : Streams → Streams
stdin_taken s = record { stdin = false; stdout = s.stdout; stderr = s.stderr }

abbrev pub stdout_taken : Streams → Streams
stdout_taken s = record { stdin = s.stdin; stdout = false; stderr = s.stderr }

abbrev pub stderr_taken : Streams → Streams
stderr_taken s = record { stdin = s.stdin; stdout = s.stdout; stderr = false }

-- what a child still gives: its outputs, and how it ends; none where its wait is refused
pub record Content : Type 0 where
  pub stdout : List ℕ
  pub stderr : List ℕ
  pub ending : Option ExitStatus

abbrev pub without_stdout : Content → Content
without_stdout c = record { stdout = []; stderr = c.stderr; ending = c.ending }

abbrev pub without_stderr : Content → Content
without_stderr c = record { stdout = c.stdout; stderr = []; ending = c.ending }

-- a fact on a fault that was answered
abbrev pub IfFault : {A F : Type 0} → Result A (CommandError F) → (F → Type 0) → Type 0
IfFault (Ok a) P = Unit {0}
IfFault (Err NoMemory) P = Unit {0}
IfFault (Err (Fault fault)) P = P fault

-- The output of a child that tells: its content, and refused exactly where the wait is.
abbrev pub GivesOutput : {F : Type 0} → Content → Result Output (CommandError F) → Type 0
GivesOutput c (Ok output) = (Some output.status ≡ c.ending) × (output.stdout ≡ c.stdout) × (output.stderr ≡ c.stderr)
GivesOutput c (Err NoMemory) = Unit {0}
GivesOutput c (Err (Fault fault)) = c.ending ≡ None
