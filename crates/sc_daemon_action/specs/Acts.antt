-- One action of a request.
use Rattle.std.specs.Prelude.{◌≡◌, ℕ, length}
use Rattle.sc_daemon_action.specs.Serves.{Stands}
use Rattle.sc_daemon_action.specs.declared.acted.Acted.{Acted}
use Rattle.sc_daemon_job.specs.Setups.{Config, setup}
use Rattle.sc_model.specs.Follows.{Fits}
use Rattle.sc_model.specs.DueAt.{due_at}
use Rattle.sc_model.specs.Phases.{after}
use Rattle.sc_model.specs.There.{AreHanded, handed_in}
use Rattle.sc_model.specs.declared.event.What.{What}
use Rattle.sc_model.specs.declared.event.What.TheVariants.{Committed, Filled, Passed, Reserved}
use Rattle.sc_model.specs.declared.message.Request.{Request}
use Rattle.sc_model.specs.declared.phase.Phase.{Phase}

-- an event that reserves nothing: no time passes, and no entry is opened, filled or closed
abbrev pub IsStill : What → Type 0
IsStill (Passed n) = ⊥
IsStill (Reserved l k n w) = ⊥
IsStill (Filled l k b mark w) = ⊥
IsStill (Committed l k b w) = ⊥
IsStill _ = Unit {0}

-- The event is the one that is due, the phase after it is the machine's, and it can be stood at.
pub record Acts (k : Config) (r : Request) (p : Phase) (m : ℕ) (a : Acted) : Type 0 where
  pub fits : Fits (setup k) r (due_at (setup k) r p) a.what
  pub then : a.phase ≡ after (setup k) r p m a.what
  pub stands : Stands k a.phase r
  pub still : IsStill a.what
  pub there : AreHanded (length k.levels) (handed_in a.what)
