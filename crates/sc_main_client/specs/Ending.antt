-- How a client's command ends.
use Rattle.std.specs.Prelude.{◌≡◌, ℕ, List, ◌++◌, codes, pos}
use Rattle.sc_main_report.specs.declared.ended.Ended.{Ended}
use Rattle.sc_main_report.specs.declared.ended.Ended.TheVariants as ended
use Rattle.sc_client.specs.Refusals.{client_text}
use Rattle.sc_client.specs.declared.client_error.ClientError.{ClientError}
use Rattle.sc_client.specs.declared.client_error.ClientError.TheVariants.{NoMemory, BadFrame, EndOfStream, ReadFault, WriteFault, LinkFault, TimedOut, Unexpected, NotFound, NotSupported, NoChild, Command, OutputFault}

-- the end of a command whose client's call answered this
abbrev pub ended_of : ClientError → Ended
ended_of NoMemory = ended.NoMemory
ended_of BadFrame = ended.LinkFault
ended_of EndOfStream = ended.LinkFault
ended_of ReadFault = ended.LinkFault
ended_of WriteFault = ended.LinkFault
ended_of LinkFault = ended.LinkFault
ended_of (TimedOut refused) = ended.LinkFault
ended_of (Unexpected reply) = ended.Unexpected
ended_of (NotFound name) = ended.Status (pos 1)
ended_of (NotSupported why) = ended.Status (pos 1)
ended_of NoChild = ended.LinkFault
ended_of (Command refusal) = ended.LinkFault
ended_of OutputFault = ended.WriteFault

-- A text was written whole, which is all that was left to do: the end is that status. Else memory ran out or the write was refused.
abbrev pub TextEndsAt : Ended → (wrote : Type 0) → (write_rose : Type 0) → Ended → Type 0
TextEndsAt done wrote write_rose (ended.Status n) = (ended.Status n ≡ done) × wrote
TextEndsAt done wrote write_rose ended.NoMemory = Unit {0}
TextEndsAt done wrote write_rose ended.WriteFault = write_rose
TextEndsAt done wrote write_rose _ = ⊥

abbrev pub TextEnds : (wrote : Type 0) → (write_rose : Type 0) → Ended → Type 0
TextEnds wrote write_rose (ended.Status n) = (n ≡ pos 0) × wrote
TextEnds wrote write_rose ended.NoMemory = Unit {0}
TextEnds wrote write_rose ended.WriteFault = write_rose
TextEnds wrote write_rose _ = ⊥

-- the line on a compile that has no compiler
abbrev pub failure_line : ClientError → List ℕ
failure_line error = codes "sccache: error: " ++ client_text error ++ codes "\n"

-- a compile without a status: that it has no compiler is told on standard error, and nothing else is
abbrev pub FailEnds : ClientError → (wrote : List ℕ → Type 0) → (write_rose same : Type 0) → Ended → Type 0
FailEnds (NotFound name) wrote write_rose same e = TextEndsAt (ended.Status (pos 1)) (wrote (failure_line (NotFound name))) write_rose e
FailEnds (NotSupported why) wrote write_rose same e = TextEndsAt (ended.Status (pos 1)) (wrote (failure_line (NotSupported why))) write_rose e
FailEnds error wrote write_rose same e = (e ≡ ended_of error) × same
