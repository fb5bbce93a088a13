-- How far the serving of a link is.
use Rattle.std.specs.Prelude.{◌≡◌, ℕ, ◌+◌, ◌<◌, ◌≤◌, true, List, [], ◌++◌, Option, Some, None, IsSome, is_some}
use Rattle.sc_daemon.specs.Daemons.{Kept}
use Rattle.sc_daemon.specs.Drives.{line_end}
use Rattle.sc_daemon.specs.Lines.{IsDone, Line}
use Rattle.sc_daemon.specs.Sessions.{Session}
use Rattle.sc_daemon_job.specs.Setups.{setup}
use Rattle.sc_daemon_owned.specs.Facts.{config_of}
use Rattle.sc_entry.specs.Causes.{IfTold, Rose, Told}
use Rattle.sc_entry.specs.Streams.{WritesAll, WritesFront}
use Rattle.sc_main.specs.Deeds.{Deed, Heard, Leads, ReadsOpen, TellsAll, Ticks, due_by, heard_by, is_refused, moments_of, read_by}
use Rattle.sc_main.specs.Serving.{HasTokens, IfKept, LinkCause, Stands, Wire, Writes, refused_in}
use Rattle.sc_main.specs.declared.link_end.LinkEnd.{LinkEnd}
use Rattle.sc_main.specs.declared.link_end.LinkEnd.TheVariants as ends
use Rattle.sc_model.specs.declared.phase.Phase.{Phase}
use Rattle.sc_model.specs.declared.phase.Phase.TheVariants.{AtRun}
use Rattle.sc_server_activity.specs.declared.shutdown_or_inactive.ShutdownOrInactive.{ShutdownOrInactive}
use Rattle.sc_wire_conn.specs.Ends.{end_of}

-- all that stands at one moment
pub record Scene : Type 0 where
  pub session : Session
  pub heard : Heard
  pub moments : Option (List ℕ)
  pub link : Wire

abbrev pub scene : Session → Heard → Option (List ℕ) → Wire → Scene
scene session heard moments link = record { session = session; heard = heard; moments = moments; link = link }

-- the same facts as of an end, where nothing was refused so far
abbrev pub IfKeptSoFar : Option LinkEnd → Type 0 → Type 0
IfKeptSoFar None P = P
IfKeptSoFar (Some end) P = IfKept end P

abbrev pub WritesSoFar : Option LinkEnd → List ℕ → List ℕ → List ℕ → Type 0
WritesSoFar None bytes before after = WritesAll bytes before after
WritesSoFar (Some end) bytes before after = Writes end bytes before after

abbrev pub CauseSoFar : Option LinkEnd → ℕ → ℕ → Type 0
CauseSoFar None before now = now ≡ before
CauseSoFar (Some end) before now = LinkCause end before now

-- only what a refusal is ends a link as refused
abbrev pub IsRefusal : Option LinkEnd → Type 0
IsRefusal None = Unit {0}
IsRefusal (Some end) = refused_in end ≡ Some end

-- the token that a request holds
abbrev pub held_token : Phase → ℕ
held_token (AtRun work) = 1
held_token p = 0

-- all tokens but that of the first request are free, and there is one
abbrev pub KeepsTokens : Kept → Line → Type 0
KeepsTokens d l = (0 < d.state.config.tokens) × (d.free + held_token l.phase ≡ d.state.config.tokens)

-- What was done of a link since the first scene.
pub record SoFar (refused : Option LinkEnd) (first now : Scene) : Type 0 where
  pub deeds : List Deed
  pub leads : Leads deeds first.session now.session
  pub ticks : Ticks (moments_of deeds) first.moments now.moments
  pub heard : now.heard ≡ heard_by deeds first.heard
  pub told : IfKeptSoFar refused (TellsAll deeds)
  pub reading : ReadsOpen deeds first.heard
  pub marked : is_refused deeds ≡ is_some refused
  pub real : IsRefusal refused
  pub reads : Told (λ before after. before ≡ read_by deeds ++ after) first.link.ahead now.link.ahead
  pub stands : IfKeptSoFar refused (Stands first.session.daemon.state.config.limit (read_by deeds) now.session.line)
  pub writes : Told (WritesSoFar refused (due_by (setup (config_of first.session.daemon.state.config)) deeds)) first.link.written now.link.written
  pub cause : CauseSoFar refused first.link.faults now.link.faults
  pub later : first.link.faults ≤ now.link.faults
  pub config : now.session.daemon.state.config ≡ first.session.daemon.state.config
  pub emptied : now.session.line.out ≡ []
  pub ended : now.session.line.closed ≡ true → IfTold now.link.ahead (λ left. left ≡ [])
  pub unheld : now.session.line.waiting ≡ [] → held_token now.session.line.phase ≡ 0
  pub tokens : HasTokens first.session.daemon → KeepsTokens now.session.daemon now.session.line

-- how a connection stands that is left with this end
abbrev pub LeftSo : LinkEnd → Line → ShutdownOrInactive → Type 0
LeftSo (ends.Over end) l wait = IsDone l × (end_of end ≡ line_end l)
LeftSo ends.Stopped l wait = (IsDone l → ⊥) × IsSome wait.cause
LeftSo _ l wait = Unit {0}

-- and the link was left
pub record Leaves (end : LinkEnd) (first now : Scene) : Type 0 where
  pub so_far : SoFar (refused_in end) first now
  pub left : LeftSo end now.session.line now.heard.wait

-- What was due was written by one write, but behind a refusal; that may be refused too.
abbrev pub Sends : Option LinkEnd → Option LinkEnd → List ℕ → Wire → Wire → Type 0
Sends (Some end) after bytes old new = (after ≡ Some end) × (new ≡ old)
Sends None None bytes old new = Told (WritesAll bytes) old.written new.written × (new.ahead ≡ old.ahead) × (new.faults ≡ old.faults)
Sends None (Some ends.WriteFault) bytes old new = Told (WritesFront bytes) old.written new.written × (new.ahead ≡ old.ahead) × Rose old.faults new.faults × (old.faults ≤ new.faults)
Sends None (Some ends.NoMemory) bytes old new = Told (WritesFront bytes) old.written new.written × (new.ahead ≡ old.ahead) × (new.faults ≡ old.faults)
Sends None (Some _) bytes old new = ⊥

-- a connection is left with its end where nothing more is read of it, with another where a poll was ready, and with no other
abbrev pub EndsNow : Option LinkEnd → Line → ShutdownOrInactive → Type 0
EndsNow (Some end) l wait = LeftSo end l wait × (refused_in end ≡ None)
EndsNow None l wait = (IsDone l → ⊥) × (wait.cause ≡ None)
