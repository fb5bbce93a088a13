-- What a store answers to one lookup and to one write, and why.
use Rattle.std.specs.Prelude.{◌≡◌, ℕ, Bool, true, false, IsTrue, List, slice_set, Option, Some, None}
use Rattle.sc_entry.specs.Causes.{Rose}
use Rattle.sc_entry.specs.Entries.{objects}
use Rattle.sc_entry.specs.Keys.{IsStoreKey, normalize_key}
use Rattle.sc_model.specs.Plan.{level_facts}
use Rattle.sc_store_disk.specs.DiskStores.{DiskStore, entry_path}
use Rattle.sc_store_disk.specs.Marks.{Marks, Sets, is_marked}
use Rattle.sc_store_disk.specs.Moving.{AskCause as DiskCause, written_of as reserved_of}
use Rattle.sc_store_disk.specs.Preprocessor.{PreCause}
use Rattle.sc_store_disk.specs.declared.reserving.Reservation.{Reservation}
use Rattle.sc_model.specs.Asking.{Asks, Spells}
use Rattle.sc_model.specs.Levels.{Level, Later}
use Rattle.sc_model.specs.WriteCauses.{causes, early_cause}
use Rattle.sc_model.specs.Writing.{Reserves, Wrote_at}
use Rattle.sc_model.specs.declared.event.Answer.{Answer}
use Rattle.sc_model.specs.declared.event.Answer.TheVariants.{Hit, Miss, Refused, Size as SizeIs}
use Rattle.sc_model.specs.declared.event.Mode.{Mode}
use Rattle.sc_model.specs.declared.event.Mode.TheVariants.{Path, Pre, Raw, Size as Sizes, Whole}
use Rattle.sc_model.specs.declared.event.Written.{Written}
use Rattle.sc_model.specs.declared.event.Written.TheVariants.{Done as WriteDone, Refused as WriteRefused}
use Rattle.sc_model.specs.declared.level.Cause.{Cause}
use Rattle.sc_model.specs.declared.level.Cause.TheVariants.{BadEntry, BadKey, ReadOnly as ForReading, RemoteFault as RemoteRefused}
use Rattle.sc_model.specs.declared.level.LevelKind.{LevelKind}
use Rattle.sc_model.specs.declared.level.Policy.{Policy}
use Rattle.sc_model.specs.declared.level.Store.TheVariants.{Wrapper}
use Rattle.sc_model.specs.declared.level.LevelKind.TheVariants.{Disk, Remote}
use Rattle.sc_store.specs.Held.{Held, HeldLevel, level_in, marks_in, room_in}
use Rattle.sc_store.specs.declared.remote.RemoteRead.{RemoteRead}
use Rattle.sc_store.specs.declared.remote.RemoteRead.TheVariants.{Found, NotFound, Refused as ReadRefused}
use Rattle.sc_store.specs.declared.remote.RemoteWrite.{RemoteWrite}
use Rattle.sc_store.specs.declared.remote.RemoteWrite.TheVariants.{Done, Refused as PutRefused}

-- The lookups that a store of a kind has: a remote store has no paths.
abbrev pub has_mode : LevelKind → Mode → Bool
has_mode Disk mode = true
has_mode Remote Path = false
has_mode Remote mode = true

-- the lookups that read what stands under a key
abbrev pub reads_key : Mode → Bool
reads_key Whole = true
reads_key Raw = true
reads_key mode = false

-- what a read finds, with the mark of its key
abbrev pub raw_answer : RemoteRead → Bool → Answer
raw_answer (Found bytes) mark = Hit bytes mark
raw_answer NotFound mark = Miss
raw_answer (ReadRefused fault) mark = Refused (RemoteRefused fault)

-- what a remote store answers without a read: it keeps no preprocessor entries, and has neither paths nor a size
abbrev pub fixed_answer : Mode → Answer
fixed_answer Sizes = SizeIs None None
fixed_answer mode = Miss

abbrev pub written_of : RemoteWrite → Written
written_of Done = WriteDone
written_of (PutRefused fault) = WriteRefused (RemoteRefused fault)

-- Why a lookup at a remote level was answered so, whether or not the level tells what it holds.
abbrev pub AskCause : Mode → Answer → List ℕ → Level → Level → Type 0
AskCause Whole (Hit bytes mark) key before now = IsStoreKey key × Spells (objects bytes)
AskCause Whole (Refused BadEntry) key before now = IsStoreKey key
AskCause Whole Miss key before now = IsStoreKey key
AskCause Whole (Refused BadKey) key before now = IsStoreKey key → ⊥
AskCause Whole (Refused (RemoteRefused fault)) key before now = IsStoreKey key × Rose before.faults now.faults
AskCause Whole answer key before now = ⊥
AskCause Raw (Hit bytes mark) key before now = IsStoreKey key
AskCause Raw Miss key before now = IsStoreKey key
AskCause Raw (Refused BadKey) key before now = IsStoreKey key → ⊥
AskCause Raw (Refused (RemoteRefused fault)) key before now = IsStoreKey key × Rose before.faults now.faults
AskCause Raw answer key before now = ⊥
AskCause mode answer key before now = answer ≡ fixed_answer mode

-- Why a write at a remote level ended so, by the cause that is found before its device is called: the mode of a single
-- store, then the key.
abbrev pub PutCause : Option Cause → Written → Level → Level → Type 0
PutCause early WriteDone before now = early ≡ None
PutCause early (WriteRefused (RemoteRefused fault)) before now = (early ≡ None) × Rose before.faults now.faults
PutCause early (WriteRefused cause) before now = early ≡ Some cause

-- The same at a level of any kind.
abbrev pub CauseBy : LevelKind → Mode → Answer → List ℕ → Level → Level → Type 0
CauseBy Disk mode answer key before now = DiskCause mode answer key before now
CauseBy Remote mode answer key before now = AskCause mode answer key before now

-- the path that the mark of a key stands at: that of its bytes
abbrev pub mark_path : LevelKind → List ℕ → List ℕ
mark_path Disk key = entry_path key
mark_path Remote key = normalize_key key

-- A hit tells the mark of its key.
abbrev pub TellsMark : LevelKind → Marks → List ℕ → Answer → Type 0
TellsMark kind marks key (Hit bytes mark) = mark ≡ is_marked marks (mark_path kind key)
TellsMark kind marks key answer = Unit {0}

-- A lookup that misses at a remote level takes its key's mark, for what stood there is lost. No other changes marks.
abbrev pub MarksAsked : LevelKind → Mode → List ℕ → Answer → Marks → Marks → Type 0
MarksAsked Remote Whole key Miss old new = Sets (normalize_key key) false old new
MarksAsked Remote Raw key Miss old new = Sets (normalize_key key) false old new
MarksAsked kind mode key answer old new = new ≡ old

-- the same by the path of the key
abbrev pub ForgetsLost : Answer → List ℕ → Marks → Marks → Type 0
ForgetsLost Miss path old new = Sets path false old new
ForgetsLost answer path old new = new ≡ old

-- a refused write takes the mark that was to be left
abbrev pub EndsWrite : RemoteWrite → List ℕ → Marks → Marks → Type 0
EndsWrite Done path old new = new ≡ old
EndsWrite (PutRefused fault) path old new = Sets path false old new

-- A done write at a remote level gives its key the mark that it says. Where the remote refused it, what stands there may be
-- either, and has no mark.
abbrev pub MarksWrote : List ℕ → Bool → Written → Marks → Marks → Type 0
MarksWrote key from_run WriteDone old new = Sets (normalize_key key) from_run old new
MarksWrote key from_run (WriteRefused (RemoteRefused fault)) old new = Sets (normalize_key key) false old new
MarksWrote key from_run (WriteRefused cause) old new = new ≡ old

-- No file got a mark.
pub record Fewer (old new : Marks) : Type 0 where
  pub entries : new.entries ≡ old.entries
  pub files : (path : List ℕ) → is_marked old path ≡ false → is_marked new path ≡ false

-- A lookup at one level that tells what it holds.
abbrev pub AsksLevel : List ℕ → Mode → Answer → HeldLevel → HeldLevel → Type 0
AsksLevel key mode answer before now =
    before.told ≡ true → IsTrue (has_mode before.facts.kind mode) → Asks objects before.facts before.room.reserved key mode answer before.level now.level

-- A write at one level that tells what it holds.
abbrev pub PutsLevel : Policy → List ℕ → List ℕ → Bool → Written → HeldLevel → HeldLevel → Type 0
PutsLevel policy key bytes mark how before now = before.told ≡ true → (r : ℕ) → Wrote_at policy before.facts r key bytes Whole mark how before.level now.level

-- A put of a preprocessor entry at a level that tells what it holds. A remote level keeps none.
abbrev pub PutsPre : Policy → List ℕ → List ℕ → Written → DiskStore → DiskStore → Type 0
PutsPre policy key bytes how old new = old.told ≡ true → Wrote_at policy old.facts old.reserved key bytes Pre false how old.level new.level

-- Why it was put or not, whether or not the level tells what it holds.
abbrev pub PreCauseBy : LevelKind → Option Cause → List ℕ → Written → DiskStore → DiskStore → Type 0
PreCauseBy Disk early bytes how old new = PreCause early bytes how old new
PreCauseBy Remote early bytes how old new = how ≡ WriteDone

-- a level that is only read takes none
abbrev pub PreCauseOf : Bool → LevelKind → Option Cause → List ℕ → Written → DiskStore → DiskStore → Type 0
PreCauseOf true kind early bytes how old new = how ≡ WriteRefused (ForReading Wrapper)
PreCauseOf false kind early bytes how old new = PreCauseBy kind early bytes how old new

abbrev pub PreCauseAt : Policy → List ℕ → List ℕ → Written → DiskStore → DiskStore → Type 0
PreCauseAt policy key bytes how old new = PreCauseOf old.facts.wrapped old.facts.kind (early_cause policy old.facts key) bytes how old new

-- A reservation at a disk level that tells what it holds.
abbrev pub ReservesDisk : Policy → List ℕ → ℕ → Reservation → DiskStore → DiskStore → Type 0
ReservesDisk policy key size how old new =
    old.told ≡ true → Reserves old.facts.capacity (causes policy old.facts old.reserved key size) old.reserved size (reserved_of how) old.level new.level

-- A lookup at a level of levels that all tell what they hold: that level alone moved.
abbrev pub AsksAt : ℕ → List ℕ → Mode → Answer → Held → Held → Type 0
AsksAt l key mode answer old new =
    old.told ≡ true → IsTrue (has_mode (level_facts old.facts l).kind mode) →
    (v : Level) × Asks objects (level_facts old.facts l) (room_in old.rooms l).reserved key mode answer (level_in old.levels l) v × (new.levels ≡ slice_set old.levels l v)

-- A write there.
abbrev pub PutsAt : ℕ → List ℕ → List ℕ → Bool → Written → Held → Held → Type 0
PutsAt l key bytes mark how old new =
    old.told ≡ true → (r : ℕ) →
    (v : Level) × Later (level_in old.levels l) v × Wrote_at old.policy (level_facts old.facts l) r key bytes Whole mark how (level_in old.levels l) v × (new.levels ≡ slice_set old.levels l v)

-- One level moved, what is open there too, and no other.
pub record AloneAt (l : ℕ) (old new : Held) : Type 0 where
  pub titles : new.titles ≡ old.titles
  pub facts : new.facts ≡ old.facts
  pub policy : new.policy ≡ old.policy
  pub told : new.told ≡ old.told
  pub levels : new.levels ≡ slice_set old.levels l (level_in new.levels l)
  pub rooms : new.rooms ≡ slice_set old.rooms l (room_in new.rooms l)
  pub marks : new.marks ≡ slice_set old.marks l (marks_in new.marks l)
