-- A compile by the server at an address, or here.
use Rattle.std.specs.Prelude.{◌≡◌, ℕ, ℤ, Bool, List, Option, Result, Ok, Err}
use Rattle.sc_client.specs.Compiling.{AfterWhich, CompileCause, Compiles, IfWhole, RunsOnly, Streams, compile_of}
use Rattle.sc_client.specs.Conversations.{Conversation}
use Rattle.sc_client.specs.Which.{Finds, paths_of}
use Rattle.sc_client.specs.declared.client_error.ClientError.{ClientError}
use Rattle.sc_client.specs.declared.client_error.ClientError.TheVariants as client_errors
use Rattle.sc_command.specs.declared.output.Output.{Output}
use Rattle.sc_compile.specs.declared.tool.Tool.{Tool}
use Rattle.sc_entry.specs.Causes.{IfTold, Rose}
use Rattle.sc_main_client.specs.Ending.{FailEnds}
use Rattle.sc_main_client.specs.declared.compiling.CompileParts.{CompileParts}
use Rattle.sc_main_outside.specs.declared.make_error.MakeError.{MakeError}
use Rattle.sc_main_outside.specs.declared.make_error.MakeError.TheVariants as make_errors
use Rattle.sc_main_outside.specs.declared.surroundings.Surroundings.{Surroundings}
use Rattle.sc_main_report.specs.declared.ended.Ended.{Ended}
use Rattle.sc_main_report.specs.declared.ended.Ended.TheVariants.{Status}

-- A compile that was done with these parts, as the client's call says of it, and what it left of the creator. runs: a command was run,
-- by what was found, the folder, whether its streams are collected, and the creator before and behind; s: both streams; the counts of
-- refusals of `out` and `err`, each followed by what it is behind.
abbrev pub DoesCompile : {P T : Type 0} → (table : P → Option (List Tool)) → (runs : List ℕ → List ℕ → Bool → T → T → Result Output ClientError → Type 0) → (faults : T → ℕ)
    → (exe : List ℕ) → (words : List (List ℕ)) → Streams → (out now_out err now_err : ℕ) → CompileParts P T → T → Conversation → Conversation → Result ℤ ClientError → Type 0
DoesCompile table runs faults exe words s out now_out err now_err parts creator begun left came =
    IfWhole came (Compiles (Finds (table parts.probe) exe (paths_of exe parts.around.folders parts.around.cwd))
    (AfterWhich (λ found. compile_of found parts.around.cwd words parts.around.variables) parts.around.ignores_server_errors parts.around.outlets (creator ≡ parts.creator)
    (λ found collected gave. runs found parts.around.cwd collected parts.creator creator gave) s begun left) came)
    × RunsOnly (λ found. compile_of found parts.around.cwd words parts.around.variables) parts.around.ignores_server_errors (creator ≡ parts.creator) begun left
    × CompileCause out now_out err now_err (faults parts.creator) (faults creator) left.faults_before left.faults came

-- What a compile is done with was made: what is around it is what is told. Else a part wasn't, which what is outside counted.
abbrev pub Makes : {P T : Type 0} → Option Surroundings → (before now : ℕ) → Result (CompileParts P T) MakeError → Type 0
Makes around before now (Ok parts) = IfTold around (λ a. parts.around ≡ a)
Makes around before now (Err make_errors.NoMemory) = Unit {0}
Makes around before now (Err make_errors.MakeFault) = Rose before now

-- the same of a client's refusal
abbrev pub MakesParts : {P T : Type 0} → Option Surroundings → (before now : ℕ) → Result (CompileParts P T) ClientError → Type 0
MakesParts around before now (Ok parts) = IfTold around (λ a. parts.around ≡ a)
MakesParts around before now (Err client_errors.NoMemory) = Unit {0}
MakesParts around before now (Err client_errors.LinkFault) = Rose before now
MakesParts around before now (Err error) = ⊥

-- with the parts that were made, over a connection that began so, and what that left of the creator and of the connection
pub record CompilesWith {P T : Type 0} (does : CompileParts P T → T → Conversation → Conversation → Result ℤ ClientError → Type 0) (parts : CompileParts P T) (begun : Conversation) (came : Result ℤ ClientError) : Type 0 where
  pub creator : T
  pub left : Conversation
  pub done : does parts creator begun left came

abbrev pub AfterParts : {P T : Type 0} → (CompileParts P T → T → Conversation → Conversation → Result ℤ ClientError → Type 0) → (same : Type 0) → Conversation → Result (CompileParts P T) ClientError → Result ℤ ClientError → Type 0
AfterParts does same begun (Ok parts) came = CompilesWith does parts begun came
AfterParts does same begun (Err error) came = (came ≡ Err error) × same

pub record CompilesBy {P T : Type 0} (makes : Result (CompileParts P T) ClientError → Type 0) (does : CompileParts P T → T → Conversation → Conversation → Result ℤ ClientError → Type 0) (same : Type 0) (begun : Conversation) (came : Result ℤ ClientError) : Type 0 where
  pub parts : Result (CompileParts P T) ClientError
  pub made : makes parts
  pub after : AfterParts does same begun parts came

abbrev pub AfterConnect : (Conversation → Result ℤ ClientError → Type 0) → (same : Type 0) → Result Conversation ClientError → Result ℤ ClientError → Type 0
AfterConnect compiles same (Ok begun) came = compiles begun came
AfterConnect compiles same (Err error) came = (came ≡ Err error) × same

-- A connection was made first: where none is, nothing is looked for, run or written.
pub record CompilesOver (connects : Result Conversation ClientError → Type 0) (compiles : Conversation → Result ℤ ClientError → Type 0) (same : Type 0) (came : Result ℤ ClientError) : Type 0 where
  pub begun : Result Conversation ClientError
  pub connected : connects begun
  pub after : AfterConnect compiles same begun came

-- what came of it: its status, or why it has none
abbrev pub CompileEnds : (wrote : List ℕ → Type 0) → (write_rose same : Type 0) → Result ℤ ClientError → Ended → Type 0
CompileEnds wrote write_rose same (Ok status) e = (e ≡ Status status) × same
CompileEnds wrote write_rose same (Err error) e = FailEnds error wrote write_rose same e
