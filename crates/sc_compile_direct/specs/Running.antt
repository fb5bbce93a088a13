-- One action of a job that is under way.
use Rattle.std.specs.Prelude.{◌≡◌, ℕ, Bool, true, false, [], ◌∷◌, ◌++◌, Option, Some, None}
use Rattle.sc_daemon_action.specs.Hands.{StandsWith}
use Rattle.sc_daemon_hold.specs.Holding.{Rooms}
use Rattle.sc_daemon_job.specs.Askers.{Asker}
use Rattle.sc_daemon_job.specs.Setups.{Config, setup}
use Rattle.sc_model.specs.Follows.{Fits}
use Rattle.sc_model.specs.Conns.{need_at, outcome_after, reserved_after}
use Rattle.sc_model.specs.DueAt.{due_at}
use Rattle.sc_model.specs.Phases.{after}
use Rattle.sc_model.specs.Rows.{Direct}
use Rattle.sc_model.specs.declared.event.What.{What}
use Rattle.sc_model.specs.declared.message.Request.{Request}
use Rattle.sc_model.specs.declared.phase.Ending.{Ending}
use Rattle.sc_model.specs.declared.phase.Phase.{Phase}
use Rattle.sc_model.specs.declared.phase.Phase.TheVariants.{AtFinish}
use Rattle.sc_compile_direct.specs.declared.running.Running.{Running}

-- nothing is left but to tell how it ended
abbrev pub is_over : Phase → Bool
is_over (AtFinish notes last) = true
is_over _ = false

-- the event is the one that is due, the phase after it is the machine's, and it can be gone on with there; d are the levels after it
pub record Steps (k : Config) (d : Option Rooms) (r : Request) (m : ℕ) (old new : Running) (x : What) : Type 0 where
  pub events : new.events ≡ old.events ++ record { moment = m; what = x } ∷ []
  pub fits : Fits (setup k) r (due_at (setup k) r old.phase) x
  pub then : new.phase ≡ after (setup k) r old.phase m x
  pub stands : StandsWith k d new.phase new.entry r
  pub last : new.last ≡ m
  pub outcome : new.outcome ≡ outcome_after old.outcome m x
  pub reserved : new.reserved ≡ reserved_after old.reserved m x

-- what its next action takes from it
abbrev pub asker_at : Config → Request → Running → Asker
asker_at k r running = record { need = need_at (setup k) r running.phase; request = r; origin = Direct; last = running.last; outcome = running.outcome; reserved = running.reserved }

-- and the hold moves by it
abbrev pub StepsBy : {H : Type 0} → (H → Config) → (H → Option Rooms) → (H → ℕ) → (H → Asker → What → H → Type 0) → Request → H → H → Running → Running → Type 0
StepsBy config rooms moment moves r a b old new =
    (x : What) × Steps (config a) (rooms b) r (moment b) old new x × moves a (asker_at (config a) r old) x b × (config b ≡ config a)

-- how it is to be told to end, where nothing else is left
abbrev pub ending_of : Phase → Option Ending
ending_of (AtFinish notes last) = Some (record { notes = notes; last = last })
ending_of _ = None
