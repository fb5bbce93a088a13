-- A whole hit spells an entry.
use Rattle.std.proofs.Common.{◌≡◌, ℕ, Bool, List, Option, Some, None, refl}
use Rattle.sc_entry.specs.Entries.{objects}
use Rattle.sc_entry.specs.declared.object.Object.{Object}
use Rattle.sc_model.specs.Asking.{Spells}
use Rattle.sc_model.specs.Levels.{Level}
use Rattle.sc_model.specs.declared.event.Answer.TheVariants.{Hit as AnswersHit}
use Rattle.sc_model.specs.declared.event.Mode.TheVariants.{Whole}
use Rattle.sc_model.specs.declared.level.LevelKind.{LevelKind}
use Rattle.sc_model.specs.declared.level.LevelKind.TheVariants.{Disk, Remote}
use Rattle.sc_store.specs.Asking.{CauseBy}

spelled : (o : Option (List Object)) → Spells o → (held : List Object) × (o ≡ Some held)
spelled (Some held) h = (held, refl)
spelled None h = absurd h

pub spelled_at : (kind : LevelKind) (bytes key : List ℕ) (mark : Bool) (v w : Level) → CauseBy kind Whole (AnswersHit bytes mark) key v w → (held : List Object) × (objects bytes ≡ Some held)
spelled_at Disk bytes key mark v w cause = spelled (objects bytes) cause.1
spelled_at Remote bytes key mark v w cause = spelled (objects bytes) cause.1
