-- Lookups and puts of the preprocessor's entries over levels, by those at each.
use Rattle.std.specs.Prelude.{◌≡◌, ℕ, zero, suc, Bool, true, false, List, [], ◌∷◌, length, Some}
use Rattle.sc_store_disk.specs.Moving.{SameEntries}
use Rattle.sc_model.specs.Plan.{level_facts, pre_plan}
use Rattle.sc_model.specs.Levels.{Later}
use Rattle.sc_model.specs.WriteCauses.{early_cause}
use Rattle.sc_model.specs.declared.event.Answer.{Answer}
use Rattle.sc_model.specs.declared.event.Answer.TheVariants.{Miss}
use Rattle.sc_model.specs.declared.event.Mode.TheVariants.{Pre}
use Rattle.sc_model.specs.declared.event.Written.{Written}
use Rattle.sc_model.specs.declared.event.Written.TheVariants.{Done, Refused}
use Rattle.sc_model.specs.declared.level.Cause.{Cause}
use Rattle.sc_model.specs.declared.level.Cause.TheVariants.{ReadOnly as ForReading}
use Rattle.sc_model.specs.declared.level.Store.TheVariants.{Wrapper}
use Rattle.sc_model.specs.declared.level.LevelKind.TheVariants.{Disk, Remote}
use Rattle.sc_store_alone.specs.Lookups.{AskedAt}
use Rattle.sc_store.specs.Asking.{AloneAt, PreCauseAt, PutsPre}
use Rattle.sc_store.specs.Held.{Held, disk_in, level_in, marks_in}

abbrev pub is_miss : Answer → Bool
is_miss Miss = true
is_miss answer = false

-- after a miss the next level is asked; any other answer is that of all
abbrev pub GoesOn : Bool → Answer → Answer → Held → Held → Type 0 → Type 0
GoesOn true first answer between new rest = rest
GoesOn false first answer between new rest = (answer ≡ first) × (new ≡ between)

-- So many levels from this one on are asked in order, until one finds the entry or refuses.
abbrev pub AsksFrom : ℕ → ℕ → List ℕ → Answer → Held → Held → Type 0
AsksFrom zero l key answer old new = (answer ≡ Miss) × (new ≡ old)
AsksFrom (suc left) l key answer old new =
    (first : Answer) × (between : Held) × AskedAt l key Pre first old between × GoesOn (is_miss first) first answer between new (AsksFrom left (suc l) key answer between new)

abbrev pub AsksEach : List ℕ → Answer → Held → Held → Type 0
AsksEach key answer old new = AsksFrom (length old.levels) 0 key answer old new

-- An entry was put at one level, and at no other. A remote level keeps none; a disk level that refuses for the key isn't opened.
pub record PutsPreAt (l : ℕ) (key bytes : List ℕ) (how : Written) (old new : Held) : Type 0 where
  pub alone : AloneAt l old new
  pub later : Later (level_in old.levels l) (level_in new.levels l)
  pub entries : SameEntries (disk_in old l) (disk_in new l)
  pub marks : marks_in new.marks l ≡ marks_in old.marks l
  pub put : PutsPre old.policy key bytes how (disk_in old l) (disk_in new l)
  pub cause : PreCauseAt old.policy key bytes how (disk_in old l) (disk_in new l)
  pub early : (level_facts old.facts l).kind ≡ Disk → (c : Cause) → early_cause old.policy (level_facts old.facts l) key ≡ Some c → (how ≡ Refused c) × (new ≡ old)
  pub remote : (level_facts old.facts l).kind ≡ Remote → (level_facts old.facts l).wrapped ≡ false → (how ≡ Done) × (new ≡ old)
  pub only_read : (level_facts old.facts l).wrapped ≡ true → (how ≡ Refused (ForReading Wrapper)) × (new ≡ old)

-- It is put at each of these levels in order, whatever that comes to.
abbrev pub PutsPreEach : List ℕ → List ℕ → List ℕ → Held → Held → Type 0
PutsPreEach [] key bytes old new = new ≡ old
PutsPreEach (l ∷ ls) key bytes old new = (how : Written) × (between : Held) × PutsPreAt l key bytes how old between × PutsPreEach ls key bytes between new

-- It is put at the levels that may be written and take writes.
abbrev pub PutsPreOver : List ℕ → List ℕ → Held → Held → Type 0
PutsPreOver key bytes old new = PutsPreEach (pre_plan old.policy old.facts) key bytes old new
