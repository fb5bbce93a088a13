-- Requests that write, and the entry of a disk level that one holds between opening and committing it.
use Rattle.std.specs.Prelude.{◌≡◌, ℕ, ◌<◌, Bool, true, false, List, length, Option, Some, None, []}
use Rattle.sc_daemon_action.specs.Serves.{IsWriter, Serves, Stands}
use Rattle.sc_daemon_action.specs.declared.acted.Action.{Action}
use Rattle.sc_disk.specs.Store.{AddEntry}
use Rattle.sc_daemon_hold.specs.Holding.{Hand, IsHeld, Rooms, hand_at}
use Rattle.sc_daemon_job.specs.Setups.{Config, setup}
use Rattle.sc_model.specs.Dues.{kind_at}
use Rattle.sc_model.specs.Follows.{Fits}
use Rattle.sc_model.specs.DueAt.{due_at}
use Rattle.sc_model.specs.Phases.{after}
use Rattle.sc_model.specs.There.{AreHanded, AreLevels, handed_in}
use Rattle.sc_model.specs.declared.event.What.{What}
use Rattle.sc_model.specs.declared.event.What.TheVariants.{Passed}
use Rattle.sc_model.specs.declared.level.LevelKind.TheVariants.{Disk}
use Rattle.sc_model.specs.declared.message.Request.{Request}
use Rattle.sc_model.specs.declared.phase.Ending.{Ending}
use Rattle.sc_model.specs.declared.phase.Phase.{Phase}
use Rattle.sc_model.specs.declared.phase.Phase.TheVariants.{AtCommit, AtFill, AtWrite}

-- a write that goes on: at its next level, or with the entry that it opened
abbrev pub writes : Phase → Bool
writes (AtWrite b ls f ending) = true
writes (AtFill b l ls f ending) = true
writes (AtCommit b l ls f ending) = true
writes p = false

-- a write at this disk level, with these levels behind it
abbrev pub IsWriting : Config → ℕ → List ℕ → Request → Option Ending → Type 0
IsWriting k l ls r ending = (l < length k.levels) × (kind_at k.levels l ≡ Disk) × AreLevels (length k.levels) ls × IsWriter r ending

-- What can be gone on with, with the entry that is held for it: d are the levels as disk stores, where nobody else moves them.
abbrev pub ServesWith : Config → Option Rooms → Phase → Option AddEntry → Request → Type 0
ServesWith k d (AtFill b l ls f ending) entry r = IsWriting k l ls r ending × IsHeld d l entry b [] None
ServesWith k d (AtCommit b l ls f ending) entry r = IsWriting k l ls r ending × IsHeld d l entry b b.bytes (Some b.run)
ServesWith k d p entry r = Serves k p r × (entry ≡ None)

-- What a connection may stand at: also where a reply was too long.
abbrev pub StandsWith : Config → Option Rooms → Phase → Option AddEntry → Request → Type 0
StandsWith k d (AtFill b l ls f ending) entry r = IsWriting k l ls r ending × IsHeld d l entry b [] None
StandsWith k d (AtCommit b l ls f ending) entry r = IsWriting k l ls r ending × IsHeld d l entry b b.bytes (Some b.run)
StandsWith k d p entry r = Stands k p r × (entry ≡ None)

-- the entry that is held at a phase
abbrev pub hand_of : Option AddEntry → Phase → Option Hand
hand_of None p = None
hand_of (Some e) (AtFill b l ls f ending) = hand_at (Some e) l (length b.bytes)
hand_of (Some e) (AtCommit b l ls f ending) = hand_at (Some e) l (length b.bytes)
hand_of (Some e) p = None

-- an event of a request: no time passes
abbrev pub IsOwn : What → Type 0
IsOwn (Passed n) = ⊥
IsOwn _ = Unit {0}

-- The event is the one that is due, the phase after it is the machine's, and it can be stood at with the entry that is held
-- then; d are the levels after it.
pub record ActsWith (k : Config) (d : Option Rooms) (r : Request) (p : Phase) (m : ℕ) (a : Action) : Type 0 where
  pub fits : Fits (setup k) r (due_at (setup k) r p) a.what
  pub then : a.phase ≡ after (setup k) r p m a.what
  pub stands : StandsWith k d a.phase a.entry r
  pub own : IsOwn a.what
  pub there : AreHanded (length k.levels) (handed_in a.what)
