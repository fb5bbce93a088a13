-- What a client and a server say of one compile.
use Rattle.std.specs.Prelude.{◌≡◌, ℕ, List, [], ◌∷◌, Result, Ok, Err}
use Rattle.sc_model.specs.declared.message.CompileResponse.TheVariants.{CompileStarted}
use Rattle.sc_model.specs.declared.message.Request.{Request}
use Rattle.sc_model.specs.declared.message.Response.{Response}
use Rattle.sc_model.specs.declared.message.Response.TheVariants.{ArtifactNotification, Compile}
use Rattle.sc_client.specs.Conversations.{Asks, CausedBy, Conversation, Reads}
use Rattle.sc_client.specs.declared.request_error.RequestError.{RequestError}
use Rattle.sc_client.specs.declared.talking.Heard.{Heard}
use Rattle.sc_client.specs.declared.talking.Heard.TheVariants.{Note, Last}
use Rattle.sc_client.specs.declared.talking.Talk.{Talk}
use Rattle.sc_client.specs.declared.talking.Talk.TheVariants.{Refused, Answered, Started}

-- what came is no notification
abbrev pub IsLast : Result Response RequestError → Type 0
IsLast (Ok (ArtifactNotification note)) = ⊥
IsLast came = Unit {0}

-- a reply is not that the compile was started
abbrev pub IsOther : Response → Type 0
IsOther (Compile CompileStarted) = ⊥
IsOther reply = Unit {0}

-- one reading after the start
abbrev pub HearsOne : Conversation → Heard → Conversation → Type 0
HearsOne old (Note note) new = Reads old (Ok (ArtifactNotification note)) new
HearsOne old (Last came) new = Reads old came new × IsLast came

-- so many notifications came, one after the other
abbrev pub HearsNotes : Conversation → List (List ℕ) → Conversation → Type 0
HearsNotes old [] new = new ≡ old
HearsNotes old (note ∷ notes) new = (between : Conversation) × Reads old (Ok (ArtifactNotification note)) between × HearsNotes between notes new

-- what came from the start on
abbrev pub Listens : Conversation → Talk → Conversation → Type 0
Listens old (Refused refusal) new = ⊥
Listens old (Answered reply) new = ⊥
Listens old (Started notes last) new = (between : Conversation) × HearsNotes old notes between × Reads between last new × IsLast last

-- A compile was asked for, and this came.
abbrev pub Talks : Request → Conversation → Talk → Conversation → Type 0
Talks request old (Refused refusal) new = Asks request old (Err refusal) new
Talks request old (Answered reply) new = Asks request old (Ok reply) new × IsOther reply
Talks request old (Started notes last) new = (started : Conversation) × Asks request old (Ok (Compile CompileStarted)) started × Listens started (Started notes last) new

-- the notifications that came
abbrev pub notes_of : Talk → List (List ℕ)
notes_of (Refused refusal) = []
notes_of (Answered reply) = []
notes_of (Started notes last) = notes

-- A reading was refused only where the link's count rose since the connection was made.
abbrev pub HeardBy : Heard → Conversation → Type 0
HeardBy (Note note) new = Unit {0}
HeardBy (Last came) new = CausedBy came new

-- the same of all that came
abbrev pub TalkedBy : Talk → Conversation → Type 0
TalkedBy (Refused refusal) new = CausedBy (Err refusal) new
TalkedBy (Answered reply) new = Unit {0}
TalkedBy (Started notes last) new = CausedBy last new
