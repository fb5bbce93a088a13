-- What a connection to a server has said and heard, and how one call of it goes on.
use Rattle.std.specs.Prelude.{◌≡◌, ℕ, Bool, true, false, nat_lt, List, ◌++◌, length, Option, Some, None, Result, Ok, Err}
use Rattle.sc_entry.specs.Causes.{IfTold, Rose, Told}
use Rattle.sc_entry.specs.Streams.{WritesAll, WritesFront}
use Rattle.sc_model.specs.declared.message.Request.{Request}
use Rattle.sc_model.specs.declared.message.Response.{Response}
use Rattle.sc_wire.specs.Frames.{Ahead, Fault, Message, Unfinished, ahead, frame}
use Rattle.sc_wire.specs.Requests.{spell_request}
use Rattle.sc_wire.specs.Responses.{response}
use Rattle.sc_client.specs.Finished.{WritesSome}
use Rattle.sc_client.specs.Refusals.{error_of}
use Rattle.sc_client.specs.declared.request_error.Refusal.{Refusal}
use Rattle.sc_client.specs.declared.request_error.Refusal.TheVariants as refusals
use Rattle.sc_client.specs.declared.request_error.RequestError.{RequestError}
use Rattle.sc_client.specs.declared.request_error.RequestError.TheVariants.{NoMemory, BadFrame, EndOfStream, ReadFault, WriteFault}

pub record Conversation : Type 0 where
  -- the bytes that came and no reply has taken, then those that are still to come, where the link tells them
  pub ahead : Option (List ℕ)
  -- the bytes that the link took, where it tells them
  pub written : Option (List ℕ)
  -- how often the link had refused when the connection was made, and has by now
  pub faults_before : ℕ
  pub faults : ℕ
  -- why its link is touched no more
  pub refusal : Option Refusal

-- what is held, then what is still to come
abbrev pub held : List ℕ → Option (List ℕ) → Option (List ℕ)
held rest None = None
held rest (Some left) = Some (rest ++ left)

-- a connection just made over a link, by what that tells and its count
abbrev pub beginning : Option (List ℕ) → Option (List ℕ) → ℕ → Conversation
beginning left taken count = record { ahead = left; written = taken; faults_before = count; faults = count; refusal = None }

-- ---- replies

-- the reply at the front of some bytes, of a payload of at most 16,777,216 bytes
abbrev pub reply_front : List ℕ → Ahead Response
reply_front bytes = ahead response 16777216 bytes

-- a reply stands at the front, and leaves with its frame
abbrev pub Takes : Response → List ℕ → List ℕ → Type 0
Takes reply before after = reply_front before ≡ Message reply after

-- the end comes before a whole reply
abbrev pub IsCutOff : List ℕ → Type 0
IsCutOff bytes = reply_front bytes ≡ Unfinished

-- a length over the limit, or a whole payload that spells no reply
abbrev pub IsBroken : List ℕ → Type 0
IsBroken bytes = reply_front bytes ≡ Fault

-- What a call answers is what stands at the front of what was ahead. Where it gives no reply nothing leaves, but for want of memory.
abbrev pub HearsBy : Option (List ℕ) → Result Response RequestError → Option (List ℕ) → Type 0
HearsBy before (Ok reply) after = Told (Takes reply) before after
HearsBy before (Err EndOfStream) after = IfTold before IsCutOff × (after ≡ before)
HearsBy before (Err BadFrame) after = IfTold before IsBroken × (after ≡ before)
HearsBy before (Err ReadFault) after = after ≡ before
HearsBy before (Err WriteFault) after = after ≡ before
HearsBy before (Err NoMemory) after = Told (λ old new. Unit {0}) before after

-- A link's count over a call: it rises where a read or a write was refused, and nowhere else.
abbrev pub CountedBy : Result Response RequestError → ℕ → ℕ → Type 0
CountedBy (Ok reply) before now = now ≡ before
CountedBy (Err NoMemory) before now = now ≡ before
CountedBy (Err BadFrame) before now = now ≡ before
CountedBy (Err EndOfStream) before now = now ≡ before
CountedBy (Err ReadFault) before now = Rose before now
CountedBy (Err WriteFault) before now = Rose before now

-- Why the link is touched no more after a call: it was refused a read or a write. After want of memory nothing is said.
abbrev pub KeptBy : Result Response RequestError → Option Refusal → Type 0
KeptBy (Ok reply) now = now ≡ None
KeptBy (Err NoMemory) now = Unit {0}
KeptBy (Err BadFrame) now = now ≡ None
KeptBy (Err EndOfStream) now = now ≡ None
KeptBy (Err ReadFault) now = now ≡ Some refusals.ReadFault
KeptBy (Err WriteFault) now = now ≡ Some refusals.WriteFault

-- what is kept of an answer
abbrev pub kept_of : Result Response RequestError → Option Refusal
kept_of (Ok reply) = None
kept_of (Err NoMemory) = Some refusals.NoMemory
kept_of (Err BadFrame) = None
kept_of (Err EndOfStream) = None
kept_of (Err ReadFault) = Some refusals.ReadFault
kept_of (Err WriteFault) = Some refusals.WriteFault

-- ---- one call

-- a refusal that is kept is answered again, and nothing changes
abbrev pub Repeats : Refusal → Conversation → Result Response RequestError → Conversation → Type 0
Repeats kept old result new = (result ≡ Err (error_of kept)) × (new ≡ old)

-- nothing is written by a call that only reads
abbrev pub IsReading : Result Response RequestError → Type 0
IsReading (Ok reply) = Unit {0}
IsReading (Err NoMemory) = Unit {0}
IsReading (Err BadFrame) = Unit {0}
IsReading (Err EndOfStream) = Unit {0}
IsReading (Err ReadFault) = Unit {0}
IsReading (Err WriteFault) = ⊥

-- the first reply of what was held and came
pub record Hears (old : Conversation) (result : Result Response RequestError) (new : Conversation) : Type 0 where
  pub heard : HearsBy old.ahead result new.ahead
  pub reading : IsReading result
  pub written : new.written ≡ old.written
  pub counted : CountedBy result old.faults new.faults
  pub before : new.faults_before ≡ old.faults_before
  pub kept : KeptBy result new.refusal

abbrev pub ReadsUnder : Option Refusal → Conversation → Result Response RequestError → Conversation → Type 0
ReadsUnder (Some kept) old result new = Repeats kept old result new
ReadsUnder None old result new = Hears old result new

-- One reply is read.
abbrev pub Reads : Conversation → Result Response RequestError → Conversation → Type 0
Reads old result new = ReadsUnder old.refusal old result new

-- What a call wrote: its whole frame wherever it went on to read, and a front of it where the write was refused.
abbrev pub SendsBy : List ℕ → Result Response RequestError → Option (List ℕ) → Option (List ℕ) → Type 0
SendsBy bytes (Ok reply) before now = Told (WritesAll bytes) before now
SendsBy bytes (Err NoMemory) before now = Told (WritesSome bytes) before now
SendsBy bytes (Err BadFrame) before now = Told (WritesAll bytes) before now
SendsBy bytes (Err EndOfStream) before now = Told (WritesAll bytes) before now
SendsBy bytes (Err ReadFault) before now = Told (WritesAll bytes) before now
SendsBy bytes (Err WriteFault) before now = Told (WritesFront bytes) before now

-- a frame behind what was written, and the first reply of what was held and came
pub record Exchanges (bytes : List ℕ) (old : Conversation) (result : Result Response RequestError) (new : Conversation) : Type 0 where
  pub sent : SendsBy bytes result old.written new.written
  pub heard : HearsBy old.ahead result new.ahead
  pub counted : CountedBy result old.faults new.faults
  pub before : new.faults_before ≡ old.faults_before
  pub kept : KeptBy result new.refusal

-- what a request comes to that is too long for a frame: nothing is written
abbrev pub IsUnsent : Result Response RequestError → Type 0
IsUnsent (Ok reply) = ⊥
IsUnsent (Err NoMemory) = Unit {0}
IsUnsent (Err BadFrame) = Unit {0}
IsUnsent (Err EndOfStream) = ⊥
IsUnsent (Err ReadFault) = ⊥
IsUnsent (Err WriteFault) = ⊥

-- by whether the payload has more bytes than a frame's length can say
abbrev pub AsksWithin : Bool → List ℕ → Conversation → Result Response RequestError → Conversation → Type 0
AsksWithin true payload old result new = IsUnsent result × (new ≡ old)
AsksWithin false payload old result new = Exchanges (frame payload) old result new

abbrev pub AsksUnder : Option Refusal → List ℕ → Conversation → Result Response RequestError → Conversation → Type 0
AsksUnder (Some kept) payload old result new = Repeats kept old result new
AsksUnder None payload old result new = AsksWithin (nat_lt 4294967295 (length payload)) payload old result new

-- One request is sent, and its reply read.
abbrev pub Asks : Request → Conversation → Result Response RequestError → Conversation → Type 0
Asks request old result new = AsksUnder old.refusal (spell_request request) old result new

-- A read or a write is refused only where the link's count rose since the connection was made.
abbrev pub CausedBy : Result Response RequestError → Conversation → Type 0
CausedBy (Ok reply) new = Unit {0}
CausedBy (Err NoMemory) new = Unit {0}
CausedBy (Err BadFrame) new = Unit {0}
CausedBy (Err EndOfStream) new = Unit {0}
CausedBy (Err ReadFault) new = Rose new.faults_before new.faults
CausedBy (Err WriteFault) new = Rose new.faults_before new.faults

-- the count rose for a refusal that is kept
abbrev pub IsCounted : Option Refusal → ℕ → ℕ → Type 0
IsCounted None before now = Unit {0}
IsCounted (Some refusals.NoMemory) before now = Unit {0}
IsCounted (Some refusals.ReadFault) before now = Rose before now
IsCounted (Some refusals.WriteFault) before now = Rose before now
