-- What is done to serve a link, the newest first, and what is read off it by filters and sums.
use Rattle.std.specs.Prelude.{◌≡◌, ℕ, ◌-◌, Bool, true, false, List, [], ◌∷◌, ◌++◌, Option, None, if◌then◌else◌, option_map}
use Rattle.std.specs.Option.{option_or}
use Rattle.sc_clock.specs.Moments.{moments_after, next_moment}
use Rattle.sc_daemon.specs.Daemons.{BacksEvent, ServesEvent, passed}
use Rattle.sc_daemon.specs.Lines.{IsDone, Line, new_line}
use Rattle.sc_daemon.specs.Sessions.{Session}
use Rattle.sc_daemon.specs.Turns.{TakesMore}
use Rattle.sc_entry.specs.Causes.{IfTold}
use Rattle.sc_model.specs.Script.{Setup}
use Rattle.sc_model.specs.Trace.{frame_bytes, sent_by}
use Rattle.sc_model.specs.declared.event.Event.{Event}
use Rattle.sc_model.specs.declared.event.What.{What}
use Rattle.sc_model.specs.declared.event.What.TheVariants.{Began}
use Rattle.sc_model.specs.declared.message.Request.TheVariants as requests
use Rattle.sc_server_activity.specs.Waits.{cause_of, has_passed, has_request, has_shutdown}
use Rattle.sc_server_activity.specs.declared.messages.Messages.{Messages}
use Rattle.sc_server_activity.specs.declared.server_message.ServerMessage.{ServerMessage}
use Rattle.sc_server_activity.specs.declared.server_message.ServerMessage.TheVariants as tidings
use Rattle.sc_server_activity.specs.declared.shutdown_or_inactive.ShutdownOrInactive.{ShutdownOrInactive}

-- one thing that is done
pub data Deed : Type 0 where
  -- the session's moment was raised to the clock's
  Raised : (now : ℕ) → Deed
  -- a piece was read, and its requests were taken
  Took : (piece : List ℕ) → Deed
  -- a piece was read, and there was no memory to take it: the connection made way for one that nothing came over
  Lost : (piece : List ℕ) → Deed
  -- the link's end was read
  Shut : Deed
  -- at a moment of the clock, the action of the first request was done, where one was due, and these messages were kept
  Did : (now : ℕ) (event : Event) (kept : List ServerMessage) → Deed
  -- at a moment of the clock, the first handed write went on, where there was one
  Wrote : (now : ℕ) (event : Event) → Deed
  -- a read or a write was refused, or a message or a piece was not kept
  Refused : Deed
  -- at a moment of the clock, the messages were polled
  Polled : (now : ℕ) → Deed

-- ---- what a deed does to the session

-- a session whose moment is at least the clock's
abbrev pub raised : ℕ → Session → Session
raised now s = record s { daemon = passed s.daemon (now - s.daemon.state.world.moment) }

-- a session whose connection nothing came over
abbrev pub renewed : Session → Session
renewed s = record s { line = new_line s.daemon.state.config.limit }

-- the action of the first request, at a moment; what it sent was taken out
pub record Acts (now : ℕ) (e : Event) (old new : Session) : Type 0 where
  pub line : Line
  pub serves : ServesEvent 0 e (raised now old).daemon new.daemon old.line line
  pub emptied : new.line ≡ record line { out = [] }
  pub before : old.lost ≡ false
  pub after : new.lost ≡ false

-- the next event of the first handed write, at a moment
pub record Backs (now : ℕ) (e : Event) (old new : Session) : Type 0 where
  pub backs : BacksEvent 0 e (raised now old).daemon new.daemon
  pub line : new.line ≡ old.line
  pub before : old.lost ≡ false
  pub after : new.lost ≡ false

abbrev pub Does : Deed → Session → Session → Type 0
Does (Raised now) old new = new ≡ raised now old
Does (Took piece) old new = (new ≡ record old { line = new.line }) × (IsDone old.line → ⊥) × TakesMore piece old.line new.line
Does (Lost piece) old new = new ≡ renewed old
Does Shut old new = new ≡ record old { line = record old.line { closed = true } }
Does (Did now e kept) old new = Acts now e old new
Does (Wrote now e) old new = Backs now e old new
Does Refused old new = new ≡ old
Does (Polled now) old new = new ≡ old

-- deeds, one after the other
abbrev pub Leads : List Deed → Session → Session → Type 0
Leads [] old new = new ≡ old
Leads (x ∷ t) old new = (s : Session) × Leads t old s × Does x s new

-- ---- what they read and write

-- the bytes that were read
abbrev pub read_by : List Deed → List ℕ
read_by [] = []
read_by (Took piece ∷ t) = read_by t ++ piece
read_by (Lost piece ∷ t) = read_by t ++ piece
read_by (_ ∷ t) = read_by t

-- whether something was refused
abbrev pub is_refused : List Deed → Bool
is_refused [] = false
is_refused (Refused ∷ t) = true
is_refused (_ ∷ t) = is_refused t

-- the frames that the requests' events sent, in order, up to a refusal
abbrev pub due_by : Setup → List Deed → List ℕ
due_by s [] = []
due_by s (Did now e kept ∷ t) = if is_refused t then due_by s t else due_by s t ++ frame_bytes s (sent_by e.what)
due_by s (_ ∷ t) = due_by s t

-- ---- what they tell the server

-- what a server waits by, and whether the messages were polled behind all that was read
pub record Heard : Type 0 where
  pub messages : Messages
  pub wait : ShutdownOrInactive
  pub is_polled : Bool

-- what an event tells: that a request came, and behind it that one to shut down came
abbrev pub told_by : What → List ServerMessage
told_by (Began requests.Shutdown tells) = tidings.Request ∷ tidings.Shutdown ∷ []
told_by (Began r tells) = tidings.Request ∷ []
told_by x = []

-- more messages stand
abbrev pub with_kept : List ServerMessage → Messages → Messages
with_kept kept m = record m { standing = m.standing ++ kept }

-- the moment of the poll that took the last Request, once this one was done
abbrev pub active_after : ℕ → Heard → ℕ
active_after now h = if has_request h.messages.standing then now else h.wait.active_at

-- the messages were taken, and why the server is to stop is kept
abbrev pub polled : ℕ → Heard → Heard
polled now h = record {
  messages = record h.messages { standing = [] };
  wait = record h.wait {
    active_at = active_after now h;
    cause = option_or h.wait.cause (cause_of (has_shutdown h.messages.standing) h.messages.is_closed (has_passed h.wait.idle_time (active_after now h) now));
  };
  is_polled = true;
}

abbrev pub hears : Deed → Heard → Heard
hears (Took piece) h = record h { is_polled = false }
hears (Lost piece) h = record h { is_polled = false }
hears (Did now e kept) h = record h { messages = with_kept kept h.messages }
hears (Polled now) h = polled now h
hears _ h = h

abbrev pub heard_by : List Deed → Heard → Heard
heard_by [] h = h
heard_by (x ∷ t) h = hears x (heard_by t h)

-- each request that began was told
abbrev pub TellsAll : List Deed → Type 0
TellsAll [] = Unit {0}
TellsAll (Did now e kept ∷ t) = (kept ≡ told_by e.what) × TellsAll t
TellsAll (_ ∷ t) = TellsAll t

-- Each piece was read where the messages had been polled behind the one before, while no poll had found that the server is to stop, and
-- nothing had been refused.
abbrev pub ReadsOpen : List Deed → Heard → Type 0
ReadsOpen [] h = Unit {0}
ReadsOpen (Took piece ∷ t) h = ((heard_by t h).is_polled ≡ true) × ((heard_by t h).wait.cause ≡ None) × (is_refused t ≡ false) × ReadsOpen t h
ReadsOpen (Lost piece ∷ t) h = ((heard_by t h).is_polled ≡ true) × ((heard_by t h).wait.cause ≡ None) × (is_refused t ≡ false) × ReadsOpen t h
ReadsOpen (_ ∷ t) h = ReadsOpen t h

-- ---- the moments that they are done at

abbrev pub moments_of : List Deed → List ℕ
moments_of [] = []
moments_of (Raised now ∷ t) = now ∷ moments_of t
moments_of (Did now e kept ∷ t) = now ∷ moments_of t
moments_of (Wrote now e ∷ t) = now ∷ moments_of t
moments_of (Polled now ∷ t) = now ∷ moments_of t
moments_of (_ ∷ t) = moments_of t

-- a clock that tells these moments told one more
abbrev pub Ticks_once : ℕ → Option (List ℕ) → Option (List ℕ) → Type 0
Ticks_once now old new = IfTold old (λ left. now ≡ next_moment left) × (new ≡ option_map moments_after old)

-- the clock told these moments, the newest first
abbrev pub Ticks : List ℕ → Option (List ℕ) → Option (List ℕ) → Type 0
Ticks [] old new = new ≡ old
Ticks (now ∷ t) old new = (left : Option (List ℕ)) × Ticks t old left × Ticks_once now left new
