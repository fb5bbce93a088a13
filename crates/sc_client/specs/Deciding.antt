-- What a client does once it knows what came of a compile.
use Rattle.std.specs.Prelude.{◌≡◌, ℕ, Bool, if◌then◌else◌, List, [], Result, Ok, Err}
use Rattle.sc_model.specs.declared.message.CompileFinished.{CompileFinished}
use Rattle.sc_model.specs.declared.message.CompileResponse.TheVariants.{UnhandledCompile, UnsupportedCompiler}
use Rattle.sc_model.specs.declared.message.Response.{Response}
use Rattle.sc_model.specs.declared.message.Response.TheVariants.{Compile as Compiles, CompileFinished as Finished}
use Rattle.sc_client.specs.Refusals.{of_request}
use Rattle.sc_client.specs.declared.client_error.ClientError.{ClientError}
use Rattle.sc_client.specs.declared.client_error.ClientError.TheVariants as client_errors
use Rattle.sc_client.specs.declared.deciding.Next.{Next}
use Rattle.sc_client.specs.declared.deciding.Next.TheVariants.{Finish, Compile, Fail}
use Rattle.sc_client.specs.declared.request_error.RequestError.{RequestError}
use Rattle.sc_client.specs.declared.request_error.RequestError.TheVariants.{NoMemory, BadFrame, EndOfStream, ReadFault, WriteFault}
use Rattle.sc_client.specs.declared.talking.Talk.{Talk}
use Rattle.sc_client.specs.declared.talking.Talk.TheVariants.{Refused, Answered, Started}

-- a decision: to show what a server's compile printed, to compile here, each behind some notifications, or to answer an error
pub data Decision : Type 0 where
  Shows : (notes : List (List ℕ)) (finished : CompileFinished) → Decision
  Runs : (notes : List (List ℕ)) → Decision
  Fails : (error : ClientError) → Decision

-- the code's value of a decision
abbrev pub Decides : Decision → Next → Type 0
Decides due (Finish notes finished) = due ≡ Shows notes finished
Decides due (Compile notes) = due ≡ Runs notes
Decides due (Fail error) = due ≡ Fails error

-- By a first reply other than that the compile was started. Where the server doesn't handle it, it is compiled here.
abbrev pub after_first : Response → Decision
after_first (Compiles UnhandledCompile) = Runs []
after_first (Compiles (UnsupportedCompiler why)) = Fails (client_errors.NotSupported why)
after_first reply = Fails (client_errors.Unexpected reply)

abbrev pub unless_ignored : Bool → List (List ℕ) → RequestError → Decision
unless_ignored ignore notes refused = if ignore then Runs notes else Fails (of_request refused)

-- By what refused a reading once the compile was started: where the stream ended it is compiled here, and at any other refusal where
-- they are ignored. Want of memory isn't.
abbrev pub at_refusal : Bool → List (List ℕ) → RequestError → Decision
at_refusal ignore notes NoMemory = Fails client_errors.NoMemory
at_refusal ignore notes EndOfStream = Runs notes
at_refusal ignore notes BadFrame = unless_ignored ignore notes BadFrame
at_refusal ignore notes ReadFault = unless_ignored ignore notes ReadFault
at_refusal ignore notes WriteFault = unless_ignored ignore notes WriteFault

-- By what came last once the compile was started.
abbrev pub after_start : Bool → List (List ℕ) → Result Response RequestError → Decision
after_start ignore notes (Ok (Finished finished)) = Shows notes finished
after_start ignore notes (Ok reply) = Fails (client_errors.Unexpected reply)
after_start ignore notes (Err refused) = at_refusal ignore notes refused

-- By all that came.
abbrev pub next_of : Bool → Talk → Decision
next_of ignore (Refused refused) = Fails (of_request refused)
next_of ignore (Answered reply) = after_first reply
next_of ignore (Started notes last) = after_start ignore notes last
