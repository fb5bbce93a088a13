-- The check of levels, by the checks of each.
use Rattle.std.specs.Prelude.{◌≡◌, ℕ, zero, suc, length, slice_index_or, slice_set}
use Rattle.sc_entry.specs.declared.cache_mode.CacheMode.{CacheMode}
use Rattle.sc_entry.specs.declared.cache_mode.CacheMode.TheVariants.{ReadOnly, ReadWrite}
use Rattle.sc_model.specs.Plan.{level_facts}
use Rattle.sc_model.specs.Levels.{Later}
use Rattle.sc_model.specs.declared.level.LevelPolicy.{LevelPolicy}
use Rattle.sc_model.specs.declared.level.LevelPolicy.TheVariants.{Background, Off, Required}
use Rattle.sc_model.specs.declared.level.Policy.{Policy}
use Rattle.sc_model.specs.declared.level.Policy.TheVariants.{Levels, Single}
use Rattle.sc_store.specs.Checking.{ChecksAt, facts_after}
use Rattle.sc_store.specs.Held.{Held, level_in}
use Rattle.sc_store_alone.specs.declared.step.Step.{Step}
use Rattle.sc_store_alone.specs.declared.step.Step.TheVariants.{Ends, Goes}
use Rattle.sc_store.specs.declared.checked.Checked.{Checked}
use Rattle.sc_store.specs.declared.checked.Checked.TheVariants.{Mode, Refused}

-- the policy of a level: a missing one is Background, and a store that stands alone has to be written
abbrev pub policy_at : Policy → ℕ → LevelPolicy
policy_at Single l = Required
policy_at (Levels ps) l = slice_index_or ps l Background

-- The check of one level, and of no other.
pub record CheckedAt (l : ℕ) (answer : Checked) (old new : Held) : Type 0 where
  pub titles : new.titles ≡ old.titles
  pub facts : new.facts ≡ slice_set old.facts l (facts_after (level_facts old.facts l) answer)
  pub policy : new.policy ≡ old.policy
  pub told : new.told ≡ old.told
  pub rooms : new.rooms ≡ old.rooms
  pub marks : new.marks ≡ old.marks
  pub alone : new.levels ≡ slice_set old.levels l (level_in new.levels l)
  pub later : Later (level_in old.levels l) (level_in new.levels l)
  pub checked : ChecksAt l answer old new

-- a level that can be written makes all writable
abbrev pub either : CacheMode → CacheMode → CacheMode
either ReadWrite found = ReadWrite
either ReadOnly found = found

-- How a check goes on after a level's. A level that need not be written may come back, so that its refusal leaves the levels
-- writable.
abbrev pub step_of : LevelPolicy → CacheMode → Checked → Step
step_of policy mode (Mode found) = Goes (either mode found)
step_of Required mode (Refused cause) = Ends cause
step_of policy mode (Refused cause) = Goes ReadWrite

-- One level's turn: a level that is off isn't checked.
abbrev pub TakesTurn : LevelPolicy → ℕ → CacheMode → Step → Held → Held → Type 0
TakesTurn Off l mode step old new = (step ≡ Goes mode) × (new ≡ old)
TakesTurn policy l mode step old new = (found : Checked) × CheckedAt l found old new × (step ≡ step_of policy mode found)

-- with the mode that was found so far, or not at all
abbrev pub GoesOn : Step → Checked → Held → Held → (CacheMode → Type 0) → Type 0
GoesOn (Goes mode) answer between new rest = rest mode
GoesOn (Ends cause) answer between new rest = (answer ≡ Refused cause) × (new ≡ between)

-- So many levels from this one on are checked in order, after this mode was found.
abbrev pub ChecksFrom : ℕ → ℕ → CacheMode → Checked → Held → Held → Type 0
ChecksFrom zero l mode answer old new = (answer ≡ Mode mode) × (new ≡ old)
ChecksFrom (suc left) l mode answer old new =
    (step : Step) × (between : Held) × TakesTurn (policy_at old.policy l) l mode step old between × GoesOn step answer between new (λ m. ChecksFrom left (suc l) m answer between new)

-- no levels can be written; levels can where one can
abbrev pub first_mode : ℕ → CacheMode
first_mode zero = ReadWrite
first_mode (suc n) = ReadOnly

-- The check of all levels.
abbrev pub ChecksAll : Checked → Held → Held → Type 0
ChecksAll answer old new = ChecksFrom (length old.levels) 0 (first_mode (length old.levels)) answer old new

-- what no check changes
pub record Stays (old new : Held) : Type 0 where
  pub titles : new.titles ≡ old.titles
  pub policy : new.policy ≡ old.policy
  pub told : new.told ≡ old.told
  pub rooms : new.rooms ≡ old.rooms
  pub marks : new.marks ≡ old.marks
  pub count : length new.levels ≡ length old.levels
