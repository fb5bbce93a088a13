-- A link was served: what was read of it, what was written to it, and how that ended.
use Rattle.std.specs.Prelude.{◌≡◌, ◌⊎◌, ℕ, ◌<◌, ◌≤◌, ◌-◌, true, List, [], ◌++◌, Option, Some, None, IsSome, is_some, length, take}
use Rattle.sc_daemon.specs.Daemons.{Kept}
use Rattle.sc_daemon.specs.Lines.{IsDone, Line}
use Rattle.sc_daemon.specs.Sessions.{Session}
use Rattle.sc_daemon.specs.Standings.{standing_of}
use Rattle.sc_daemon.specs.declared.standing.Standing.TheVariants.{Ended}
use Rattle.sc_daemon_job.specs.Setups.{setup}
use Rattle.sc_daemon_owned.specs.Facts.{config_of}
use Rattle.sc_entry.specs.Causes.{IfTold, Rose, Told}
use Rattle.sc_entry.specs.Streams.{WritesAll, WritesFront}
use Rattle.sc_main.specs.Deeds.{Deed, Heard, Leads, ReadsOpen, TellsAll, Ticks, due_by, heard_by, is_refused, moments_of, read_by}
use Rattle.sc_main.specs.declared.link_end.LinkEnd.{LinkEnd}
use Rattle.sc_main.specs.declared.link_end.LinkEnd.TheVariants as ends
use Rattle.sc_model.specs.Trace.{if_too_long}
use Rattle.sc_model.specs.declared.message.Request.{Request}
use Rattle.sc_wire.specs.Streams.{request_reader}
use Rattle.sc_wire_conn.specs.Ends.{end_of}

-- what is known of a link: the bytes ahead, those that were written, and how often it refused
pub record Wire : Type 0 where
  pub ahead : Option (List ℕ)
  pub written : Option (List ℕ)
  pub faults : ℕ

abbrev pub wire : Option (List ℕ) → Option (List ℕ) → ℕ → Wire
wire ahead written faults = record { ahead = ahead; written = written; faults = faults }

-- all tokens are free, and there is one
abbrev pub HasTokens : Kept → Type 0
HasTokens d = (0 < d.state.config.tokens) × (d.free ≡ d.state.config.tokens)

-- no request is left, but behind a reply that was too long
abbrev pub IsAnswered : Line → Type 0
IsAnswered l = (l.waiting ≡ []) ⊎ (standing_of l.phase ≡ Ended)

-- Of the requests that these bytes spell, so many are over as the connection says, and the others wait in order.
pub record Stands (limit : ℕ) (bytes : List ℕ) (l : Line) : Type 0 where
  pub limited : l.limit ≡ limit
  pub got : l.got ≡ length bytes
  pub rest : l.rest ≡ (request_reader limit).rest bytes
  pub over : List Request
  pub count : length over ≡ l.at
  pub requests : over ++ l.waiting ≡ (request_reader limit).requests bytes
  pub emptied : l.out ≡ []

-- The end is that of these bytes, or of a reply that was too long. It isn't open, and where no more bytes come, these were all.
abbrev pub IsOver : LinkEnd → ℕ → List ℕ → Line → Option (List ℕ) → Type 0
IsOver (ends.Over end) limit bytes l ahead =
    (end_of end ≡ if_too_long l.long ((request_reader limit).ends bytes l.closed)) × IsDone l × (l.closed ≡ true → IfTold ahead (λ left. left ≡ []))
IsOver _ limit bytes l ahead = Unit {0}

-- it was left for the server's sake alone: a poll was ready
abbrev pub IsStopped : LinkEnd → Heard → Line → Type 0
IsStopped ends.Stopped h l = IsSome h.wait.cause × (IsDone l → ⊥)
IsStopped _ h l = Unit {0}

-- what was refused of a link that is left so
abbrev pub refused_in : LinkEnd → Option LinkEnd
refused_in (ends.Over end) = None
refused_in ends.Stopped = None
refused_in end = Some end

-- a fact, unless memory ran out for the link
abbrev pub IfKept : LinkEnd → Type 0 → Type 0
IfKept ends.NoMemory P = Unit {0}
IfKept _ P = P

-- a front of the bytes was written, or all
abbrev pub WritesSome : List ℕ → List ℕ → List ℕ → Type 0
WritesSome bytes before after = after ≡ before ++ take (length after - length before) bytes

-- All that was due was written; but a refused write ends what is written.
abbrev pub Writes : LinkEnd → List ℕ → List ℕ → List ℕ → Type 0
Writes ends.WriteFault bytes before after = WritesFront bytes before after
Writes ends.NoMemory bytes before after = WritesSome bytes before after
Writes _ bytes before after = WritesAll bytes before after

-- a link's count of faults: it rises where a read or a write was refused; it may where memory ran out besides
abbrev pub LinkCause : LinkEnd → ℕ → ℕ → Type 0
LinkCause ends.ReadFault before now = Rose before now
LinkCause ends.WriteFault before now = Rose before now
LinkCause ends.NoMemory before now = Unit {0}
LinkCause _ before now = now ≡ before

-- What was done for a link: k and k2 are what is known of it before and after, c and c2 the clock's moments, h and h2 what the
-- server waits by.
pub record ServesLink (end : LinkEnd) (k k2 : Wire) (c c2 : Option (List ℕ)) (h h2 : Heard) (old new : Session) : Type 0 where
  pub deeds : List Deed
  pub leads : Leads deeds old new
  pub ticks : Ticks (moments_of deeds) c c2
  pub heard : h2 ≡ heard_by deeds h
  pub told : IfKept end (TellsAll deeds)
  pub marked : is_refused deeds ≡ is_some (refused_in end)
  pub reading : ReadsOpen deeds h
  -- the requests and the end are those of the bytes that were read
  pub reads : Told (λ before after. before ≡ read_by deeds ++ after) k.ahead k2.ahead
  pub stands : IfKept end (Stands old.daemon.state.config.limit (read_by deeds) new.line)
  pub over : IsOver end old.daemon.state.config.limit (read_by deeds) new.line k2.ahead
  pub stopped : IsStopped end h2 new.line
  -- what was written is what was sent, in order
  pub writes : Told (Writes end (due_by (setup (config_of old.daemon.state.config)) deeds)) k.written k2.written
  pub cause : LinkCause end k.faults k2.faults
  pub later : k.faults ≤ k2.faults
  -- nothing is left behind
  pub answered : HasTokens old.daemon → IsAnswered new.line
  pub tokens : HasTokens old.daemon → HasTokens new.daemon
  pub background : new.daemon.background ≡ []
