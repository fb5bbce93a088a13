-- What a client does for one compile, step by step.
use Rattle.std.proofs.Common.{◌≡◌, ◌⊎◌, inl, inr, ℕ, Bool, true, false, List, [], ◌++◌, Option, Some, None, Result, Ok, Err, sym, ap, subst, refl, ◌∙◌, append_assoc}
use Rattle.std.specs.Prelude.{ℤ}
use Rattle.std.specs.Process.{exit_code, exit_signal}
use Rattle.std.proofs.lemmas.List.{append-nil}
use Rattle.sc_command.specs.declared.output.Output.{Output}
use Rattle.sc_entry.specs.Causes.{Rose, Told}
use Rattle.sc_entry.specs.Streams.{WritesAll}
use Rattle.sc_model.specs.declared.message.CompileResponse.TheVariants as firsts
use Rattle.sc_model.specs.declared.message.Request.{Request}
use Rattle.sc_model.specs.declared.message.Response.{Response}
use Rattle.sc_model.specs.declared.message.Response.TheVariants as replies
use Rattle.sc_client.specs.Compiling.{AfterWhich, Carries, CarryCause, CompileCause, Compiles, Ends, EndsHere, HereCause, IfWhole, IsQuiet, OutputCause, Prints, RunsOnly, ShowsHere, Streams, without_noted}
use Rattle.sc_client.specs.Conversations.{CausedBy, Conversation}
use Rattle.sc_client.specs.Deciding.{Decides, Decision, Fails, Runs, Shows, after_first, after_start, next_of, unless_ignored}
use Rattle.sc_client.specs.Finished.{shown_err, shown_out}
use Rattle.sc_client.specs.Local.{local_line}
use Rattle.sc_client.specs.Notes.{note_lines, without_notes}
use Rattle.sc_client.specs.Refusals.{of_request}
use Rattle.sc_client.specs.Talking.{TalkedBy, Talks, notes_of}
use Rattle.sc_client.specs.declared.client_error.ClientError.{ClientError}
use Rattle.sc_client.specs.declared.client_error.ClientError.TheVariants as errors
use Rattle.sc_client.specs.declared.deciding.Next.{Next}
use Rattle.sc_client.specs.declared.deciding.Next.TheVariants as nexts
use Rattle.sc_client.specs.declared.outlet.Outlets.{Outlets}
use Rattle.sc_client.specs.declared.request_error.RequestError.{RequestError}
use Rattle.sc_client.specs.declared.request_error.RequestError.TheVariants as refusals
use Rattle.sc_client.specs.declared.talking.Talk.{Talk}
use Rattle.sc_client.specs.declared.talking.Talk.TheVariants as talks

-- ---- what is written

written_after : (front bytes : List ℕ) (o p q : Option (List ℕ)) → Told (WritesAll front) o p → Told (WritesAll bytes) p q → Told (WritesAll (front ++ bytes)) o q
written_after front bytes None None None a b = tt
written_after front bytes None None (Some z) a b = absurd b
written_after front bytes None (Some y) q a b = absurd a
written_after front bytes (Some x) None q a b = absurd a
written_after front bytes (Some x) (Some y) None a b = absurd b
written_after front bytes (Some x) (Some y) (Some z) a b = b ∙ ap (λ (bs : List ℕ). bs ++ bytes) a ∙ append_assoc x front bytes

abbrev streams : Option (List ℕ) → Option (List ℕ) → Option (List ℕ) → Option (List ℕ) → Streams
streams o p e f = record { out = o; now_out = p; err = e; now_err = f }

prints_after : (front shown bytes : List ℕ) (o p e m f : Option (List ℕ)) → Told (WritesAll front) e m → Prints (streams o p m f) shown bytes → Prints (streams o p e f) shown (front ++ bytes)
prints_after front shown bytes o p e m f told did = (did.0, written_after front bytes e m f told did.1)

nothing_after : (front : List ℕ) (o p e m f : Option (List ℕ)) → Told (WritesAll front) e m → Prints (streams o p m f) [] [] → Prints (streams o p e f) [] front
nothing_after front o p e m f told did = (did.0, subst (λ (bs : List ℕ). Told (WritesAll bs) e f) (append-nil front) (written_after front [] e m f told did.1))

here_ends : (notes : List (List ℕ)) (o p e m f : Option (List ℕ)) (came : Result Output ClientError) (result : Result ℤ ClientError) → Told (WritesAll (note_lines notes)) e m → ShowsHere notes (streams o p m f) came result
    → EndsHere notes (streams o p e f) came result
here_ends notes o p e m f (Ok output) result told did =
    (did.0, prints_after (note_lines notes) (output.stdout ++ local_line (exit_code output.status) (exit_signal output.status)) (without_notes notes output.stderr) o p e m f told did.1)
here_ends notes o p e m f (Err error) result told did = (did.0, nothing_after (note_lines notes) o p e m f told did.1)

-- ---- the notifications of a decision are those that came

abbrev NotesOf : Decision → List (List ℕ) → Type 0
NotesOf (Shows notes f) noted = notes ≡ noted
NotesOf (Runs notes) noted = notes ≡ noted
NotesOf (Fails error) noted = Unit {0}

first_same : (reply : Response) → NotesOf (after_first reply) []
first_same (replies.Compile firsts.CompileStarted) = tt
first_same (replies.Compile firsts.UnhandledCompile) = refl
first_same (replies.Compile (firsts.UnsupportedCompiler r)) = tt
first_same replies.ZeroStats = tt
first_same (replies.Stats r) = tt
first_same (replies.DistStatus r) = tt
first_same (replies.ShuttingDown r) = tt
first_same (replies.CompileFinished r) = tt
first_same (replies.StorageHandshake r) = tt
first_same (replies.StorageGetPath r) = tt
first_same (replies.StorageGetRaw r) = tt
first_same (replies.StoragePutRaw r) = tt
first_same (replies.StorageGetPreprocessorEntry r) = tt
first_same (replies.StoragePutPreprocessorEntry r) = tt
first_same replies.RecordStats = tt
first_same (replies.ArtifactNotification r) = tt

unless_same : (ignore : Bool) (notes : List (List ℕ)) (refused : RequestError) → NotesOf (unless_ignored ignore notes refused) notes
unless_same true notes refused = refl
unless_same false notes refused = tt

start_same : (ignore : Bool) (notes : List (List ℕ)) (last : Result Response RequestError) → NotesOf (after_start ignore notes last) notes
start_same ignore notes (Ok (replies.Compile firsts.CompileStarted)) = tt
start_same ignore notes (Ok (replies.Compile firsts.UnhandledCompile)) = tt
start_same ignore notes (Ok (replies.Compile (firsts.UnsupportedCompiler r))) = tt
start_same ignore notes (Ok replies.ZeroStats) = tt
start_same ignore notes (Ok (replies.Stats r)) = tt
start_same ignore notes (Ok (replies.DistStatus r)) = tt
start_same ignore notes (Ok (replies.ShuttingDown r)) = tt
start_same ignore notes (Ok (replies.CompileFinished r)) = refl
start_same ignore notes (Ok (replies.StorageHandshake r)) = tt
start_same ignore notes (Ok (replies.StorageGetPath r)) = tt
start_same ignore notes (Ok (replies.StorageGetRaw r)) = tt
start_same ignore notes (Ok (replies.StoragePutRaw r)) = tt
start_same ignore notes (Ok (replies.StorageGetPreprocessorEntry r)) = tt
start_same ignore notes (Ok (replies.StoragePutPreprocessorEntry r)) = tt
start_same ignore notes (Ok replies.RecordStats) = tt
start_same ignore notes (Ok (replies.ArtifactNotification r)) = tt
start_same ignore notes (Err refusals.NoMemory) = tt
start_same ignore notes (Err refusals.EndOfStream) = refl
start_same ignore notes (Err refusals.BadFrame) = unless_same ignore notes refusals.BadFrame
start_same ignore notes (Err refusals.ReadFault) = unless_same ignore notes refusals.ReadFault
start_same ignore notes (Err refusals.WriteFault) = unless_same ignore notes refusals.WriteFault

notes_same : (ignore : Bool) (talk : Talk) → NotesOf (next_of ignore talk) (notes_of talk)
notes_same ignore (talks.Refused refused) = tt
notes_same ignore (talks.Answered reply) = first_same reply
notes_same ignore (talks.Started notes last) = start_same ignore notes last

-- ---- a decision that was carried out

carried : (outlets : Outlets) (quiet : Type 0) (runs : Bool → Result Output ClientError → Type 0) (noted : List (List ℕ)) (o p e m f : Option (List ℕ)) (due : Decision) (next : Next) (result : Result ℤ ClientError)
    → Decides due next → NotesOf due noted → Told (WritesAll (note_lines noted)) e m → Carries outlets quiet runs (streams o p m f) next result → Ends outlets quiet runs noted (streams o p e f) due result
carried outlets quiet runs noted o p e m f due (nexts.Finish notes c) result is same told did =
    let eq : notes ≡ noted = subst (λ (d : Decision). NotesOf d noted) is same in
    let before : Told (WritesAll (note_lines notes)) e m = subst (λ (ns : List (List ℕ)). Told (WritesAll (note_lines ns)) e m) (sym eq) told in
    subst (λ (d : Decision). Ends outlets quiet runs noted (streams o p e f) d result) (sym is)
    (did.0, did.1, prints_after (note_lines notes) (shown_out outlets.out c) (shown_err outlets.err (without_noted notes c)) o p e m f before did.2)
carried outlets quiet runs noted o p e m f due (nexts.Compile notes) result is same told did =
    let eq : notes ≡ noted = subst (λ (d : Decision). NotesOf d noted) is same in
    let before : Told (WritesAll (note_lines notes)) e m = subst (λ (ns : List (List ℕ)). Told (WritesAll (note_lines ns)) e m) (sym eq) told in
    subst (λ (d : Decision). Ends outlets quiet runs noted (streams o p e f) d result) (sym is) (did.0, did.1, here_ends notes o p e m f did.0 result before did.2)
carried outlets quiet runs noted o p e m f due (nexts.Fail error) result is same told did =
    subst (λ (d : Decision). Ends outlets quiet runs noted (streams o p e f) d result) (sym is) (did.0, did.1, nothing_after (note_lines noted) o p e m f told did.2)

if_whole : {A : Type 0} {P Q : Type 0} (r : Result A ClientError) → (P → Q) → IfWhole r P → IfWhole r Q
if_whole (Ok a) f p = f p
if_whole (Err errors.NoMemory) f p = tt
if_whole (Err errors.BadFrame) f p = f p
if_whole (Err errors.EndOfStream) f p = f p
if_whole (Err errors.ReadFault) f p = f p
if_whole (Err errors.WriteFault) f p = f p
if_whole (Err errors.LinkFault) f p = f p
if_whole (Err (errors.TimedOut r)) f p = f p
if_whole (Err (errors.Unexpected r)) f p = f p
if_whole (Err (errors.NotFound r)) f p = f p
if_whole (Err (errors.NotSupported r)) f p = f p
if_whole (Err errors.NoChild) f p = f p
if_whole (Err (errors.Command r)) f p = f p
if_whole (Err errors.OutputFault) f p = tt

-- a compile by what was found, what then came, and what was made of it
pub compiled : (finds : Result (List ℕ) ClientError → Type 0) (request : List ℕ → Request) (ignore : Bool) (outlets : Outlets) (quiet : Type 0) (runs : List ℕ → Bool → Result Output ClientError → Type 0) (o p e m f : Option (List ℕ)) (old new : Conversation)
    (found : List ℕ) (asked : Request) (talk : Talk) (next : Next) (result : Result ℤ ClientError)
    → finds (Ok found) → asked ≡ request found → Talks asked old talk new → Told (WritesAll (note_lines (notes_of talk))) e m → Decides (next_of ignore talk) next
    → IfWhole result (Carries outlets quiet (runs found) (record { out = o; now_out = p; err = m; now_err = f }) next result)
    → IfWhole result (Compiles finds (AfterWhich request ignore outlets quiet runs (record { out = o; now_out = p; err = e; now_err = f }) old new) result)
compiled finds request ignore outlets quiet runs o p e m f old new found asked talk next result is_found is_asked said told decides did =
    if_whole result
    (λ (carries : Carries outlets quiet (runs found) (streams o p m f) next result).
    (Ok found, is_found, (talk, subst (λ (a : Request). Talks a old talk new) is_asked said, carried outlets quiet (runs found) (notes_of talk) o p e m f (next_of ignore talk) next result decides (notes_same ignore talk) told carries)))
    did

-- a command is run only by the decision to
pub runs_only : (request : List ℕ → Request) (ignore : Bool) (quiet : Type 0) (old new : Conversation) (found : List ℕ) (asked : Request) (talk : Talk) (next : Next) → asked ≡ request found → Talks asked old talk new → Decides (next_of ignore talk) next
    → IsQuiet quiet next → RunsOnly request ignore quiet old new
runs_only request ignore quiet old new found asked talk (nexts.Finish notes f) is_asked said decides is_quiet = inl is_quiet
runs_only request ignore quiet old new found asked talk (nexts.Compile notes) is_asked said decides is_quiet =
    inr (found, (talk, subst (λ (a : Request). Talks a old talk new) is_asked said, (notes, decides)))
runs_only request ignore quiet old new found asked talk (nexts.Fail error) is_asked said decides is_quiet = inl is_quiet

-- ---- why there is no status

abbrev FailCause : ℕ → ℕ → ClientError → Type 0
FailCause link now errors.ReadFault = Rose link now
FailCause link now errors.WriteFault = Rose link now
FailCause link now errors.LinkFault = ⊥
FailCause link now (errors.TimedOut refused) = ⊥
FailCause link now errors.OutputFault = ⊥
FailCause link now errors.NoChild = ⊥
FailCause link now (errors.Command refused) = ⊥
FailCause link now error = Unit {0}

abbrev DueCause : ℕ → ℕ → Decision → Type 0
DueCause link now (Shows notes f) = Unit {0}
DueCause link now (Runs notes) = Unit {0}
DueCause link now (Fails error) = FailCause link now error

refused_cause : (refused : RequestError) (new : Conversation) → CausedBy (Err refused) new → FailCause new.faults_before new.faults (of_request refused)
refused_cause refusals.NoMemory new c = tt
refused_cause refusals.BadFrame new c = tt
refused_cause refusals.EndOfStream new c = tt
refused_cause refusals.ReadFault new c = c
refused_cause refusals.WriteFault new c = c

unless_cause : (ignore : Bool) (notes : List (List ℕ)) (refused : RequestError) (new : Conversation) → CausedBy (Err refused) new → DueCause new.faults_before new.faults (unless_ignored ignore notes refused)
unless_cause true notes refused new c = tt
unless_cause false notes refused new c = refused_cause refused new c

first_cause : (link now : ℕ) (reply : Response) → DueCause link now (after_first reply)
first_cause link now (replies.Compile firsts.CompileStarted) = tt
first_cause link now (replies.Compile firsts.UnhandledCompile) = tt
first_cause link now (replies.Compile (firsts.UnsupportedCompiler r)) = tt
first_cause link now replies.ZeroStats = tt
first_cause link now (replies.Stats r) = tt
first_cause link now (replies.DistStatus r) = tt
first_cause link now (replies.ShuttingDown r) = tt
first_cause link now (replies.CompileFinished r) = tt
first_cause link now (replies.StorageHandshake r) = tt
first_cause link now (replies.StorageGetPath r) = tt
first_cause link now (replies.StorageGetRaw r) = tt
first_cause link now (replies.StoragePutRaw r) = tt
first_cause link now (replies.StorageGetPreprocessorEntry r) = tt
first_cause link now (replies.StoragePutPreprocessorEntry r) = tt
first_cause link now replies.RecordStats = tt
first_cause link now (replies.ArtifactNotification r) = tt

start_cause : (ignore : Bool) (notes : List (List ℕ)) (last : Result Response RequestError) (new : Conversation) → CausedBy last new → DueCause new.faults_before new.faults (after_start ignore notes last)
start_cause ignore notes (Ok (replies.Compile firsts.CompileStarted)) new c = tt
start_cause ignore notes (Ok (replies.Compile firsts.UnhandledCompile)) new c = tt
start_cause ignore notes (Ok (replies.Compile (firsts.UnsupportedCompiler r))) new c = tt
start_cause ignore notes (Ok replies.ZeroStats) new c = tt
start_cause ignore notes (Ok (replies.Stats r)) new c = tt
start_cause ignore notes (Ok (replies.DistStatus r)) new c = tt
start_cause ignore notes (Ok (replies.ShuttingDown r)) new c = tt
start_cause ignore notes (Ok (replies.CompileFinished r)) new c = tt
start_cause ignore notes (Ok (replies.StorageHandshake r)) new c = tt
start_cause ignore notes (Ok (replies.StorageGetPath r)) new c = tt
start_cause ignore notes (Ok (replies.StorageGetRaw r)) new c = tt
start_cause ignore notes (Ok (replies.StoragePutRaw r)) new c = tt
start_cause ignore notes (Ok (replies.StorageGetPreprocessorEntry r)) new c = tt
start_cause ignore notes (Ok (replies.StoragePutPreprocessorEntry r)) new c = tt
start_cause ignore notes (Ok replies.RecordStats) new c = tt
start_cause ignore notes (Ok (replies.ArtifactNotification r)) new c = tt
start_cause ignore notes (Err refusals.NoMemory) new c = tt
start_cause ignore notes (Err refusals.EndOfStream) new c = tt
start_cause ignore notes (Err refusals.BadFrame) new c = unless_cause ignore notes refusals.BadFrame new c
start_cause ignore notes (Err refusals.ReadFault) new c = unless_cause ignore notes refusals.ReadFault new c
start_cause ignore notes (Err refusals.WriteFault) new c = unless_cause ignore notes refusals.WriteFault new c

due_cause : (ignore : Bool) (talk : Talk) (new : Conversation) → TalkedBy talk new → DueCause new.faults_before new.faults (next_of ignore talk)
due_cause ignore (talks.Refused refused) new c = refused_cause refused new c
due_cause ignore (talks.Answered reply) new c = first_cause new.faults_before new.faults reply
due_cause ignore (talks.Started notes last) new c = start_cause ignore notes last new c

finish_cause : (o p e f c d link now : ℕ) (r : Result ℤ ClientError) → OutputCause o p e f r → CompileCause o p e f c d link now r
finish_cause o p e f c d link now (Ok status) h = tt
finish_cause o p e f c d link now (Err errors.NoMemory) h = tt
finish_cause o p e f c d link now (Err errors.BadFrame) h = absurd h
finish_cause o p e f c d link now (Err errors.EndOfStream) h = absurd h
finish_cause o p e f c d link now (Err errors.ReadFault) h = absurd h
finish_cause o p e f c d link now (Err errors.WriteFault) h = absurd h
finish_cause o p e f c d link now (Err errors.LinkFault) h = absurd h
finish_cause o p e f c d link now (Err (errors.TimedOut r)) h = absurd h
finish_cause o p e f c d link now (Err (errors.Unexpected r)) h = absurd h
finish_cause o p e f c d link now (Err (errors.NotFound r)) h = absurd h
finish_cause o p e f c d link now (Err (errors.NotSupported r)) h = absurd h
finish_cause o p e f c d link now (Err errors.NoChild) h = absurd h
finish_cause o p e f c d link now (Err (errors.Command r)) h = absurd h
finish_cause o p e f c d link now (Err errors.OutputFault) h = h

here_cause : (o p e f c d link now : ℕ) (r : Result ℤ ClientError) → HereCause o p e f c d r → CompileCause o p e f c d link now r
here_cause o p e f c d link now (Ok status) h = tt
here_cause o p e f c d link now (Err errors.NoMemory) h = tt
here_cause o p e f c d link now (Err errors.BadFrame) h = absurd h
here_cause o p e f c d link now (Err errors.EndOfStream) h = absurd h
here_cause o p e f c d link now (Err errors.ReadFault) h = absurd h
here_cause o p e f c d link now (Err errors.WriteFault) h = absurd h
here_cause o p e f c d link now (Err errors.LinkFault) h = absurd h
here_cause o p e f c d link now (Err (errors.TimedOut r)) h = absurd h
here_cause o p e f c d link now (Err (errors.Unexpected r)) h = absurd h
here_cause o p e f c d link now (Err (errors.NotFound r)) h = absurd h
here_cause o p e f c d link now (Err (errors.NotSupported r)) h = absurd h
here_cause o p e f c d link now (Err errors.NoChild) h = h
here_cause o p e f c d link now (Err (errors.Command r)) h = h
here_cause o p e f c d link now (Err errors.OutputFault) h = h

fail_cause : (o p e f c d link now : ℕ) (error : ClientError) → FailCause link now error → CompileCause o p e f c d link now (Err error)
fail_cause o p e f c d link now errors.NoMemory h = tt
fail_cause o p e f c d link now errors.BadFrame h = tt
fail_cause o p e f c d link now errors.EndOfStream h = tt
fail_cause o p e f c d link now errors.ReadFault h = h
fail_cause o p e f c d link now errors.WriteFault h = h
fail_cause o p e f c d link now errors.LinkFault h = absurd h
fail_cause o p e f c d link now (errors.TimedOut r) h = absurd h
fail_cause o p e f c d link now (errors.Unexpected r) h = tt
fail_cause o p e f c d link now (errors.NotFound r) h = tt
fail_cause o p e f c d link now (errors.NotSupported r) h = tt
fail_cause o p e f c d link now errors.NoChild h = absurd h
fail_cause o p e f c d link now (errors.Command r) h = absurd h
fail_cause o p e f c d link now errors.OutputFault h = absurd h

carry_cause : (o p e f c d link now : ℕ) (due : Decision) (next : Next) (r : Result ℤ ClientError) → Decides due next → DueCause link now due → CarryCause o p e f c d next r → CompileCause o p e f c d link now r
carry_cause o p e f c d link now due (nexts.Finish notes g) r is why h = finish_cause o p e f c d link now r h
carry_cause o p e f c d link now due (nexts.Compile notes) r is why h = here_cause o p e f c d link now r h
carry_cause o p e f c d link now due (nexts.Fail error) r is why h =
    subst (λ (s : Result ℤ ClientError). CompileCause o p e f c d link now s) (sym h) (fail_cause o p e f c d link now error (subst (λ (x : Decision). DueCause link now x) is why))

-- why a compile has no status
pub caused : (o p e m f c d : ℕ) (ignore : Bool) (talk : Talk) (new : Conversation) (next : Next) (r : Result ℤ ClientError) → m ≡ e → TalkedBy talk new → Decides (next_of ignore talk) next → CarryCause o p m f c d next r
    → CompileCause o p e f c d new.faults_before new.faults r
caused o p e m f c d ignore talk new next r same heard decides h =
    carry_cause o p e f c d new.faults_before new.faults (next_of ignore talk) next r decides (due_cause ignore talk new heard) (subst (λ (n : ℕ). CarryCause o p n f c d next r) same h)
