-- What the code keeps of a handed write. No promise speaks of it.
use Rattle.std.specs.Prelude.{ℕ, zero, suc, Bool, true, false, List, [], ◌∷◌, Option, Some, None}
use Rattle.sc_model.specs.Dues.{Due, ToCommit, ToFill, kind_at, start_write}
use Rattle.sc_model.specs.Follows.{bytes_in}
use Rattle.sc_model.specs.Job.{mark_of}
use Rattle.sc_model.specs.Script.{Setup}
use Rattle.sc_model.specs.Trace.{Given, no_request}
use Rattle.sc_model.specs.World.{Need, keys_of}
use Rattle.sc_model.specs.declared.event.What.{What}
use Rattle.sc_model.specs.declared.event.What.TheVariants.{Filled, Reserved}
use Rattle.sc_model.specs.declared.event.Written.TheVariants.{Done as WriteDone}
use Rattle.sc_model.specs.declared.level.LevelFacts.{LevelFacts}
use Rattle.sc_model.specs.declared.level.LevelKind.{LevelKind}
use Rattle.sc_model.specs.declared.phase.Bytes.{Bytes}
use Rattle.sc_model.specs.declared.phase.Pending.{Pending}
use Rattle.sc_model.specs.declared.phase.Stage.{Stage}
use Rattle.sc_model.specs.declared.phase.Stage.TheVariants.{Filled as IsFilled, Fresh, Reserved as IsReserved}
use Rattle.sc_model.specs.Conns.{reserved_after}

-- handed writes
abbrev pub given_of : Pending → Given
given_of p = record { number = p.number; handed = p.handed; at = p.at; backfill = p.backfill }

abbrev pub pend : List Given → List Pending
pend [] = []
pend (g ∷ gs) = record { number = g.number; handed = g.handed; at = g.at; backfill = g.backfill; stage = Fresh; since = 0 } ∷ pend gs

abbrev pub stage_after : Stage → What → Stage
stage_after st (Reserved l k n WriteDone) = IsReserved
stage_after st (Filled l k b mark WriteDone) = IsFilled
stage_after st _ = st

-- what the fills of its open entry came to, where it was filled
abbrev pub stage_fills : Stage → Bool → Option Bool
stage_fills Fresh mark = None
stage_fills IsReserved mark = None
stage_fills IsFilled mark = Some mark

abbrev pub due_stage : Stage → LevelKind → ℕ → Bytes → Due
due_stage Fresh kind l b = start_write kind l b
due_stage IsReserved kind l b = ToFill l b
due_stage IsFilled kind l b = ToCommit l b

abbrev pub due_pending : List LevelFacts → Pending → Due
due_pending fs p = due_stage p.stage (kind_at fs p.handed.level) p.handed.level (bytes_in p.handed)

-- what it needs of the parts: whether its open entry is marked
abbrev pub need_back : Setup → Pending → Need
need_back s p = record { keys = keys_of s no_request; key = []; wanted = []; outputs = []; hit = []; mark = mark_of (stage_fills p.stage p.handed.marked) }

abbrev pub pending_at : ℕ → List Pending → Option Pending
pending_at i [] = None
pending_at zero (p ∷ ps) = Some p
pending_at (suc i) (p ∷ ps) = pending_at i ps

-- the ith is done, or goes on
abbrev pub step_pending : Bool → Pending → ℕ → What → List Pending → List Pending
step_pending true p m x ps = ps
step_pending false p m x ps = record p { stage = stage_after p.stage x; since = reserved_after p.since m x } ∷ ps

abbrev pub pending_after : Bool → ℕ → ℕ → What → List Pending → List Pending
pending_after b i m x [] = []
pending_after b zero m x (p ∷ ps) = step_pending b p m x ps
pending_after b (suc i) m x (p ∷ ps) = p ∷ pending_after b i m x ps
