-- What a client does for one compile, by what came of it.
use Rattle.std.specs.Prelude.{◌≡◌, ◌⊎◌, ℕ, ℤ, Bool, List, [], ◌++◌, Option, Result, Ok, Err}
use Rattle.std.specs.Process.{exit_code, exit_signal}
use Rattle.sc_command.specs.declared.output.Output.{Output}
use Rattle.sc_compile.specs.declared.tool.Tool.{Tool}
use Rattle.sc_entry.specs.Causes.{Rose, Told}
use Rattle.sc_entry.specs.Streams.{WritesAll}
use Rattle.sc_model.specs.declared.message.CompileFinished.{CompileFinished}
use Rattle.sc_model.specs.declared.message.Request.{Request}
use Rattle.sc_model.specs.declared.message.Request.TheVariants as requests
use Rattle.sc_model.specs.declared.message.Variable.{Variable}
use Rattle.sc_client.specs.Conversations.{Conversation}
use Rattle.sc_client.specs.Deciding.{Decision, Shows, Runs, Fails, next_of}
use Rattle.sc_client.specs.Finished.{end_status, shown_err, shown_out}
use Rattle.sc_client.specs.Local.{collects, local_line, local_status}
use Rattle.sc_client.specs.Notes.{note_lines, without_notes}
use Rattle.sc_client.specs.Talking.{Talks, notes_of}
use Rattle.sc_client.specs.Which.{Finds, paths_of}
use Rattle.sc_client.specs.declared.client_error.ClientError.{ClientError}
use Rattle.sc_client.specs.declared.client_error.ClientError.TheVariants.{NoMemory, ReadFault, WriteFault, LinkFault, TimedOut, NoChild, Command, OutputFault}
use Rattle.sc_client.specs.declared.deciding.Next.{Next}
use Rattle.sc_client.specs.declared.deciding.Next.TheVariants as nexts
use Rattle.sc_client.specs.declared.outlet.Outlets.{Outlets}
use Rattle.sc_client.specs.declared.talking.Talk.{Talk}

-- what stands on a client's two streams before and after, where they tell it
pub record Streams : Type 0 where
  pub out : Option (List ℕ)
  pub now_out : Option (List ℕ)
  pub err : Option (List ℕ)
  pub now_err : Option (List ℕ)

-- both streams got this, and no more
abbrev pub Prints : Streams → List ℕ → List ℕ → Type 0
Prints s out err = Told (WritesAll out) s.out s.now_out × Told (WritesAll err) s.err s.now_err

-- a compile's request: what was found, the folder, all the words and the variables
abbrev pub compile_of : List ℕ → List ℕ → List (List ℕ) → List Variable → Request
compile_of found cwd words variables = requests.Compile (record { exe = found; cwd = cwd; args = words; env_vars = variables })

-- what the server's compile printed, without the notifications that were written before
abbrev pub without_noted : List (List ℕ) → CompileFinished → CompileFinished
without_noted notes f = record f { stderr = without_notes notes f.stderr }

-- a command that was run here: its status, and what it wrote where that was collected
abbrev pub EndsHere : List (List ℕ) → Streams → Result Output ClientError → Result ℤ ClientError → Type 0
EndsHere notes s (Ok output) result =
    (result ≡ Ok (local_status (exit_code output.status)))
    × Prints s (output.stdout ++ local_line (exit_code output.status) (exit_signal output.status)) (note_lines notes ++ without_notes notes output.stderr)
EndsHere notes s (Err error) result = (result ≡ Err error) × Prints s [] (note_lines notes)

-- the same, of the streams once its notifications were written
abbrev pub ShowsHere : List (List ℕ) → Streams → Result Output ClientError → Result ℤ ClientError → Type 0
ShowsHere notes s (Ok output) result =
    (result ≡ Ok (local_status (exit_code output.status)))
    × Prints s (output.stdout ++ local_line (exit_code output.status) (exit_signal output.status)) (without_notes notes output.stderr)
ShowsHere notes s (Err error) result = (result ≡ Err error) × Prints s [] []

-- a write is refused only where one of the client's own streams counted it
abbrev pub OutputCause : {A : Type 0} → ℕ → ℕ → ℕ → ℕ → Result A ClientError → Type 0
OutputCause out now_out err now_err (Ok a) = (now_out ≡ out) × (now_err ≡ err)
OutputCause out now_out err now_err (Err NoMemory) = (now_out ≡ out) × (now_err ≡ err)
OutputCause out now_out err now_err (Err OutputFault) = Rose out now_out ⊎ Rose err now_err
OutputCause out now_out err now_err (Err error) = ⊥

-- why a command that was run here has no status
abbrev pub HereCause : ℕ → ℕ → ℕ → ℕ → ℕ → ℕ → Result ℤ ClientError → Type 0
HereCause out now_out err now_err creator now_creator (Ok status) = now_creator ≡ creator
HereCause out now_out err now_err creator now_creator (Err NoMemory) = now_creator ≡ creator
HereCause out now_out err now_err creator now_creator (Err OutputFault) = Rose out now_out ⊎ Rose err now_err
HereCause out now_out err now_err creator now_creator (Err NoChild) = Rose creator now_creator
HereCause out now_out err now_err creator now_creator (Err (Command refusal)) = Rose creator now_creator
HereCause out now_out err now_err creator now_creator (Err error) = ⊥

-- why a command that was run gave no status, by what came of it
abbrev pub ShowCause : ℕ → ℕ → ℕ → ℕ → Result Output ClientError → Result ℤ ClientError → Type 0
ShowCause out now_out err now_err (Ok output) result = OutputCause out now_out err now_err result
ShowCause out now_out err now_err (Err error) result = result ≡ Err error

-- A decision that was carried out. quiet: no command was run; runs: the command that was run came to this.
abbrev pub Ends : Outlets → Type 0 → (Bool → Result Output ClientError → Type 0) → List (List ℕ) → Streams → Decision → Result ℤ ClientError → Type 0
Ends outlets quiet runs noted s (Shows notes f) result =
    quiet × (result ≡ Ok (end_status f.retcode f.signal)) × Prints s (shown_out outlets.out f) (note_lines notes ++ shown_err outlets.err (without_noted notes f))
Ends outlets quiet runs noted s (Runs notes) result = (came : Result Output ClientError) × runs (collects notes) came × EndsHere notes s came result
Ends outlets quiet runs noted s (Fails error) result = quiet × (result ≡ Err error) × Prints s [] (note_lines noted)

-- the same, of the streams once its notifications were written, by the code's value of a decision
abbrev pub Carries : Outlets → Type 0 → (Bool → Result Output ClientError → Type 0) → Streams → Next → Result ℤ ClientError → Type 0
Carries outlets quiet runs s (nexts.Finish notes f) result =
    quiet × (result ≡ Ok (end_status f.retcode f.signal)) × Prints s (shown_out outlets.out f) (shown_err outlets.err (without_noted notes f))
Carries outlets quiet runs s (nexts.Compile notes) result = (came : Result Output ClientError) × runs (collects notes) came × ShowsHere notes s came result
Carries outlets quiet runs s (nexts.Fail error) result = quiet × (result ≡ Err error) × Prints s [] []

-- a command is run only by the decision to
abbrev pub IsQuiet : Type 0 → Next → Type 0
IsQuiet quiet (nexts.Finish notes f) = quiet
IsQuiet quiet (nexts.Compile notes) = Unit {0}
IsQuiet quiet (nexts.Fail error) = quiet

-- why a decision that was carried out gave no status
abbrev pub CarryCause : ℕ → ℕ → ℕ → ℕ → ℕ → ℕ → Next → Result ℤ ClientError → Type 0
CarryCause out now_out err now_err creator now_creator (nexts.Finish notes f) result = OutputCause out now_out err now_err result
CarryCause out now_out err now_err creator now_creator (nexts.Compile notes) result = HereCause out now_out err now_err creator now_creator result
CarryCause out now_out err now_err creator now_creator (nexts.Fail error) result = result ≡ Err error

-- what was found is asked for, and what then came decides
abbrev pub AfterWhich : (List ℕ → Request) → Bool → Outlets → Type 0 → (List ℕ → Bool → Result Output ClientError → Type 0) → Streams → Conversation → Conversation → Result (List ℕ) ClientError → Result ℤ ClientError → Type 0
AfterWhich request ignore outlets quiet runs s old new (Ok found) result =
    (talk : Talk) × Talks (request found) old talk new × Ends outlets quiet (runs found) (notes_of talk) s (next_of ignore talk) result
AfterWhich request ignore outlets quiet runs s old new (Err error) result = quiet × (result ≡ Err error) × Prints s [] [] × (new ≡ old)

-- a fact of a call that neither ran out of memory nor was refused by one of the client's own streams
abbrev pub IfWhole : {A : Type 0} → Result A ClientError → Type 0 → Type 0
IfWhole (Err NoMemory) P = Unit {0}
IfWhole (Err OutputFault) P = Unit {0}
IfWhole result P = P

-- Where the program is, and what came of it.
abbrev pub Compiles : (Result (List ℕ) ClientError → Type 0) → (Result (List ℕ) ClientError → Result ℤ ClientError → Type 0) → Result ℤ ClientError → Type 0
Compiles finds after result = (which : Result (List ℕ) ClientError) × finds which × after which result

-- A command is run only where what came of the request says so, whatever the answer.
abbrev pub RunsOnly : (List ℕ → Request) → Bool → Type 0 → Conversation → Conversation → Type 0
RunsOnly request ignore quiet old new =
    quiet ⊎ ((found : List ℕ) × ((talk : Talk) × Talks (request found) old talk new × ((notes : List (List ℕ)) × (next_of ignore talk ≡ Runs notes))))

-- Why a compile has no status. out, err: their counts; link: that when the connection was made; each is followed by what it is now.
abbrev pub CompileCause : ℕ → ℕ → ℕ → ℕ → ℕ → ℕ → ℕ → ℕ → Result ℤ ClientError → Type 0
CompileCause out now_out err now_err creator now_creator link now_link (Err OutputFault) = Rose out now_out ⊎ Rose err now_err
CompileCause out now_out err now_err creator now_creator link now_link (Err NoChild) = Rose creator now_creator
CompileCause out now_out err now_err creator now_creator link now_link (Err (Command refusal)) = Rose creator now_creator
CompileCause out now_out err now_err creator now_creator link now_link (Err ReadFault) = Rose link now_link
CompileCause out now_out err now_err creator now_creator link now_link (Err WriteFault) = Rose link now_link
CompileCause out now_out err now_err creator now_creator link now_link (Err LinkFault) = ⊥
CompileCause out now_out err now_err creator now_creator link now_link (Err (TimedOut refused)) = ⊥
CompileCause out now_out err now_err creator now_creator link now_link result = Unit {0}
