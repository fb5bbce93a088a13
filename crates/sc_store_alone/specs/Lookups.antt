-- Lookups over levels, by the lookups of each.
use Rattle.std.specs.Prelude.{◌≡◌, ℕ, zero, suc, true, false, List, [], length, Option, Some, None, slice_set}
use Rattle.sc_entry.specs.Entries.{objects}
use Rattle.sc_entry.specs.Keys.{is_store_key}
use Rattle.sc_entry.specs.declared.cache.Cache.{Cache}
use Rattle.sc_entry.specs.declared.cache.Cache.TheVariants.{Hit as HitIs, Miss as MissIs}
use Rattle.sc_entry.specs.declared.object.Object.{Object}
use Rattle.sc_model.specs.Machine.{counted_at}
use Rattle.sc_model.specs.Plan.{backfills, level_facts}
use Rattle.sc_model.specs.Rows.{asked_row}
use Rattle.sc_model.specs.Levels.{Later}
use Rattle.sc_model.specs.declared.event.Answer.{Answer}
use Rattle.sc_model.specs.declared.event.Answer.TheVariants.{Hit as AnswersHit}
use Rattle.sc_model.specs.declared.event.Mode.{Mode}
use Rattle.sc_model.specs.declared.level.Handed.{Handed}
use Rattle.sc_store_alone.specs.Moving.{Counted}
use Rattle.sc_store_alone.specs.Puts.{WritesHanded}
use Rattle.sc_store_alone.specs.declared.hit.Hit.{Hit}
use Rattle.sc_store.specs.Asking.{AsksAt, CauseBy, MarksAsked, TellsMark, reads_key}
use Rattle.sc_store.specs.Held.{Held, level_in, marks_in}

-- One level was asked, and no other.
pub record AskedAt (l : ℕ) (key : List ℕ) (mode : Mode) (answer : Answer) (old new : Held) : Type 0 where
  pub titles : new.titles ≡ old.titles
  pub facts : new.facts ≡ old.facts
  pub policy : new.policy ≡ old.policy
  pub told : new.told ≡ old.told
  pub rooms : new.rooms ≡ old.rooms
  pub alone : new.levels ≡ slice_set old.levels l (level_in new.levels l)
  pub later : Later (level_in old.levels l) (level_in new.levels l)
  pub asked : AsksAt l key mode answer old new
  pub cause : CauseBy (level_facts old.facts l).kind mode answer key (level_in old.levels l) (level_in new.levels l)
  pub bad_key : reads_key mode ≡ true → is_store_key key ≡ false → new ≡ old
  pub mark : reads_key mode ≡ true → TellsMark (level_facts old.facts l).kind (marks_in old.marks l) key answer
  pub marks : MarksAsked (level_facts old.facts l).kind mode key answer (marks_in old.marks l) (marks_in new.marks l)
  pub marks_alone : new.marks ≡ slice_set old.marks l (marks_in new.marks l)

-- What it answered was counted there. All of a call is at one moment, so that nothing takes time.
pub record LooksAt (l : ℕ) (key : List ℕ) (mode : Mode) (answer : Answer) (old new : Counted) : Type 0 where
  pub asked : AskedAt l key mode answer old.held new.held
  pub counters : new.counters ≡ counted_at (Some l) (asked_row l mode answer 0) old.counters

-- what a level's answer found: a refusal is passed over as a miss
abbrev pub hit_in : ℕ → Answer → Option Hit
hit_in l (AnswersHit bytes mark) = Some (record { level = l; bytes = bytes; mark = mark })
hit_in l answer = None

abbrev pub FoundOr : Option Hit → Option Hit → Counted → Counted → Type 0 → Type 0
FoundOr (Some hit) found between new rest = (found ≡ Some hit) × (new ≡ between)
FoundOr None found between new rest = rest

-- So many levels from this one on are asked in order, until one hits.
abbrev pub FindsFrom : ℕ → ℕ → List ℕ → Mode → Option Hit → Counted → Counted → Type 0
FindsFrom zero l key mode found old new = (found ≡ None) × (new ≡ old)
FindsFrom (suc left) l key mode found old new =
    (answer : Answer) × (between : Counted) × LooksAt l key mode answer old between × FoundOr (hit_in l answer) found between new (FindsFrom left (suc l) key mode found between new)

abbrev pub Finds : List ℕ → Mode → Option Hit → Counted → Counted → Type 0
Finds key mode found old new = FindsFrom (length old.held.levels) 0 key mode found old new

-- the writes that a hit hands on: its bytes go to the levels before it
abbrev pub handed_for : Held → List ℕ → Mode → Option Hit → List Handed
handed_for held key mode None = []
handed_for held key mode (Some hit) = backfills held.policy held.facts hit.level key mode (AnswersHit hit.bytes hit.mark)

-- A lookup over all levels, and the writes that it hands on, made at once.
abbrev pub LooksUp : List ℕ → Mode → Option Hit → Counted → Counted → Type 0
LooksUp key mode found old new =
    (between : Counted) × Finds key mode found old between × WritesHanded true (handed_for between.held key mode found) between new

-- bytes that spell an entry
abbrev pub AreSpelled : List ℕ → Type 0
AreSpelled bytes = (held : List Object) × (objects bytes ≡ Some held)

-- as the entry that they spell
abbrev pub IsEntry : List ℕ → Cache → Type 0
IsEntry bytes cache = (held : List Object) × (objects bytes ≡ Some held) × (cache ≡ HitIs held)

-- a hit's bytes spell an entry
abbrev pub IsSpelled : Option Hit → Type 0
IsSpelled None = Unit {0}
IsSpelled (Some hit) = AreSpelled hit.bytes

-- its bytes
abbrev pub bytes_of : Option Hit → Option (List ℕ)
bytes_of None = None
bytes_of (Some hit) = Some hit.bytes

-- a hit as the entry that its bytes spell
abbrev pub IsCache : Option Hit → Cache → Type 0
IsCache None cache = cache ≡ MissIs
IsCache (Some hit) cache = IsEntry hit.bytes cache
