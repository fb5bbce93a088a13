-- Puts over levels, by the puts at each.
use Rattle.std.specs.Prelude.{◌≡◌, ◌⊎◌, ◌+◌, ℕ, zero, suc, Bool, true, false, IsTrue, bytes_eq, List, [], ◌∷◌, length, Option, Some, None, slice_set}
use Rattle.sc_store_disk.specs.DiskStores.{DiskStore, entry_path}
use Rattle.sc_store_disk.specs.Marks.{Marks, SameMarks, is_marked}
use Rattle.sc_store_disk.specs.Moving.{SameEntries}
use Rattle.sc_entry.specs.Causes.{Rose}
use Rattle.sc_entry.specs.Keys.{make_key_path}
use Rattle.sc_model.specs.Machine.{counted_at}
use Rattle.sc_model.specs.Plan.{handed_by, level_facts, note, plan, put_answer}
use Rattle.sc_model.specs.Rows.{by_backfill, written_level_row}
use Rattle.sc_model.specs.Levels.{KeepsMarks, Later, Level, SetsMark, find_file, put_file}
use Rattle.sc_model.specs.WriteCauses.{Causes, causes, early_cause}
use Rattle.sc_model.specs.Writing.{Evicts_unless, IsRefused}
use Rattle.sc_model.specs.declared.event.Written.{Written}
use Rattle.sc_model.specs.declared.event.Written.TheVariants.{Done, Refused}
use Rattle.sc_model.specs.declared.level.Cause.{Cause}
use Rattle.sc_model.specs.declared.level.Cause.TheVariants.{FileTooLarge, Io, Reserved as NoRoom}
use Rattle.sc_model.specs.declared.level.Handed.{Handed}
use Rattle.sc_model.specs.declared.level.LevelKind.{LevelKind}
use Rattle.sc_model.specs.declared.level.LevelKind.TheVariants.{Disk, Remote}
use Rattle.sc_model.specs.declared.level.Policy.{Policy}
use Rattle.sc_model.specs.declared.level.Put.{Put}
use Rattle.sc_model.specs.declared.phase.Refusal.{Refusal}
use Rattle.sc_model.specs.declared.phase.Refusal.TheVariants.{At, NoneYet}
use Rattle.sc_disk_pair.specs.Parts.{in_part}
use Rattle.sc_disk_pair.specs.declared.part.Part.TheVariants.{Main}
use Rattle.sc_store_alone.specs.Moving.{Counted}
use Rattle.sc_store.specs.Asking.{AloneAt, MarksWrote, PutCause, PutsAt}
use Rattle.sc_store.specs.Held.{Held, disk_in, level_in, marks_in}

-- A put at a remote level. One that is refused for its mode or key calls nothing.
pub record RemotePutAt (l : ℕ) (key bytes : List ℕ) (mark : Bool) (how : Written) (old new : Held) : Type 0 where
  pub titles : new.titles ≡ old.titles
  pub facts : new.facts ≡ old.facts
  pub policy : new.policy ≡ old.policy
  pub told : new.told ≡ old.told
  pub rooms : new.rooms ≡ old.rooms
  pub alone : new.levels ≡ slice_set old.levels l (level_in new.levels l)
  pub later : Later (level_in old.levels l) (level_in new.levels l)
  pub wrote : PutsAt l key bytes mark how old new
  pub cause : PutCause (early_cause old.policy (level_facts old.facts l) key) how (level_in old.levels l) (level_in new.levels l)
  pub early : (c : Cause) → early_cause old.policy (level_facts old.facts l) key ≡ Some c → new ≡ old
  pub marks : MarksWrote key mark how (marks_in old.marks l) (marks_in new.marks l)
  pub marks_alone : new.marks ≡ slice_set old.marks l (marks_in new.marks l)

-- files are evicted, where the size is no cause of a refusal
abbrev pub EvictsUnless : Option Cause → ℕ → ℕ → Level → Level → Type 0
EvictsUnless expected capacity more v w = (gone : ℕ) × Evicts_unless expected capacity more gone v w

-- A put at a disk level that tells what it holds: files are evicted until the entry fits, and it stands under its key, with this
-- mark. A refusal by the device may come behind evictions. Where a file goes its mark goes.
abbrev pub PutsEntryBy : ℕ → Causes → ℕ → List ℕ → List ℕ → Bool → Written → Level → Level → Type 0
PutsEntryBy capacity expected r key bytes mark Done v w =
    (expected.all ≡ None)
    × ((u : Level) × EvictsUnless expected.all capacity (r + length bytes) v u × (w.main ≡ put_file u.main (make_key_path key) bytes) × (w.pre ≡ u.pre))
    × IsTrue (w.opened) × SetsMark (make_key_path key) mark v w
PutsEntryBy capacity expected r key bytes mark (Refused Io) v w = (expected.early ≡ None) × Rose v.faults w.faults × EvictsUnless expected.all capacity (r + length bytes) v w × KeepsMarks v w
PutsEntryBy capacity expected r key bytes mark (Refused c) v w = IsRefused Disk expected c v w × KeepsMarks v w

abbrev pub PutsEntry : ℕ → Causes → ℕ → List ℕ → List ℕ → Bool → Written → Level → Level → Type 0
PutsEntry capacity expected r key bytes mark how v w = PutsEntryBy capacity expected r key bytes mark how v w × (w.written ≡ v.written)

-- A device that doesn't tell what it holds may say that the file is larger than what was put.
abbrev pub MayOutgrow : Bool → Cause → Type 0
MayOutgrow told FileTooLarge = told ≡ false
MayOutgrow told NoRoom = told ≡ false
MayOutgrow told c = ⊥

-- Why a put at a disk level ended so, whether or not it tells what it holds.
abbrev pub EntryCause : Bool → Causes → Written → Level → Level → Type 0
EntryCause told expected Done v w = expected.all ≡ None
EntryCause told expected (Refused Io) v w = (expected.early ≡ None) × Rose v.faults w.faults
EntryCause told expected (Refused c) v w = (expected.all ≡ Some c) ⊎ ((expected.all ≡ None) × MayOutgrow told c)

-- A put at a disk store. What was open before is open after it, and nothing else.
pub record PutsDisk (policy : Policy) (key bytes : List ℕ) (mark : Bool) (how : Written) (old new : DiskStore) : Type 0 where
  pub later : Later old.level new.level
  pub entries : SameEntries old new
  pub wrote : old.told ≡ true → PutsEntry old.facts.capacity (causes policy old.facts old.reserved key (length bytes)) old.reserved key bytes mark how old.level new.level
  pub cause : EntryCause old.told (causes policy old.facts old.reserved key (length bytes)) how old.level new.level

-- A put at a disk store that is done gives its key the mark that it says. All other files that the store holds keep theirs.
pub record GivesMark (path : List ℕ) (mark : Bool) (old new : Marks) (now : DiskStore) : Type 0 where
  pub marked : is_marked new path ≡ mark
  pub kept : now.told ≡ true → (key bytes : List ℕ) → bytes_eq path (in_part Main key) ≡ false → find_file now.level.main key ≡ Some bytes → is_marked new (in_part Main key) ≡ is_marked old (in_part Main key)
  pub fewer : (q : List ℕ) → bytes_eq path q ≡ false → is_marked old q ≡ false → is_marked new q ≡ false

-- A refused one changes none.
abbrev pub PutMarks : List ℕ → Bool → Written → Marks → Marks → DiskStore → Type 0
PutMarks path mark Done old new now = GivesMark path mark old new now
PutMarks path mark (Refused c) old new now = SameMarks old new

abbrev pub DiskPutAt : ℕ → List ℕ → List ℕ → Bool → Written → Held → Held → Type 0
DiskPutAt l key bytes mark how old new =
    AloneAt l old new × PutsDisk old.policy key bytes mark how (disk_in old l) (disk_in new l) × PutMarks (entry_path key) mark how (marks_in old.marks l) (marks_in new.marks l) (disk_in new l)

-- A put at one level, and at no other.
abbrev pub PutAt : LevelKind → ℕ → List ℕ → List ℕ → Bool → Written → Held → Held → Type 0
PutAt Remote l key bytes mark how old new = RemotePutAt l key bytes mark how old new
PutAt Disk l key bytes mark how old new = DiskPutAt l key bytes mark how old new

-- What it came to was counted there.
pub record WritesAt (backfill : Bool) (l : ℕ) (key bytes : List ℕ) (mark : Bool) (how : Written) (old new : Counted) : Type 0 where
  pub wrote : PutAt (level_facts old.held.facts l).kind l key bytes mark how old.held new.held
  pub counters : new.counters ≡ counted_at (Some l) (written_level_row (by_backfill backfill 0) 0 how) old.counters

-- the first refusal, after a put at one more level
abbrev pub refusal_after : Written → ℕ → Refusal → Refusal
refusal_after Done l refusal = refusal
refusal_after (Refused c) l refusal = note refusal l c

-- a refusal of level 0 ends the puts
abbrev pub ends : Refusal → Bool
ends NoneYet = false
ends (At zero c) = true
ends (At (suc l) c) = false

abbrev pub GoesOn : Bool → Refusal → Refusal → Counted → Counted → Type 0 → Type 0
GoesOn true refusal last between new rest = (last ≡ refusal) × (new ≡ between)
GoesOn false refusal last between new rest = rest

-- The entry is put at each of these levels in order; the first refusal is kept.
abbrev pub WritesEach : List ℕ → List ℕ → List ℕ → Bool → Refusal → Refusal → Counted → Counted → Type 0
WritesEach [] key bytes mark refusal last old new = (last ≡ refusal) × (new ≡ old)
WritesEach (l ∷ ls) key bytes mark refusal last old new =
    (how : Written) × (between : Counted) × WritesAt false l key bytes mark how old between
    × GoesOn (ends (refusal_after how l refusal)) (refusal_after how l refusal) last between new (WritesEach ls key bytes mark (refusal_after how l refusal) last between new)

-- Writes that were handed on are made in order, with the mark that each has, whatever they come to.
abbrev pub WritesHanded : Bool → List Handed → Counted → Counted → Type 0
WritesHanded backfill [] old new = new ≡ old
WritesHanded backfill (h ∷ hs) old new =
    (how : Written) × (between : Counted) × WritesAt backfill h.level h.key h.bytes h.marked how old between × WritesHanded backfill hs between new

-- A put over levels: those that have to be written, which make the answer, then those whose writes are handed on. No local run
-- made its bytes.
abbrev pub Puts : List ℕ → List ℕ → Put → Counted → Counted → Type 0
Puts key bytes answer old new =
    (refusal : Refusal) × (between : Counted) × WritesEach (plan old.held.policy old.held.facts) key bytes false NoneYet refusal old between
    × (answer ≡ put_answer old.held.policy old.held.facts refusal)
    × WritesHanded false (handed_by old.held.policy old.held.facts (record { key = key; bytes = bytes; run = false }) refusal) between new
