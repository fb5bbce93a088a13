-- What the calls of a disk store do.
use Rattle.std.specs.Prelude.{◌≡◌, ◌≢◌, ℕ, ◌+◌, Bool, true, false, List, [], Some, None}
use Rattle.sc_disk.specs.Store.{AddEntry, IsOpen, Store}
use Rattle.sc_entry.specs.Causes.{Rose}
use Rattle.sc_entry.specs.Entries.{objects}
use Rattle.sc_entry.specs.Keys.{IsStoreKey}
use Rattle.sc_disk_pair.specs.declared.part.Part.{Part}
use Rattle.sc_disk_pair.specs.declared.part.Part.TheVariants.{Main, Pre}
use Rattle.sc_model.specs.Asking.{Asks, Spells}
use Rattle.sc_model.specs.Evicting.{Evicts}
use Rattle.sc_model.specs.Levels.{Files, KeepsMarks, Later, Level, find_file}
use Rattle.sc_model.specs.WriteCauses.{Causes, room_cause}
use Rattle.sc_model.specs.declared.event.Answer.{Answer}
use Rattle.sc_model.specs.declared.event.Answer.TheVariants.{Found, Hit, Miss, Refused, Size as SizeIs}
use Rattle.sc_model.specs.declared.event.Mode.{Mode}
use Rattle.sc_model.specs.declared.event.Mode.TheVariants.{Path, Pre as PreMode, Raw, Size as Sizes, Whole}
use Rattle.sc_model.specs.declared.event.Written.{Written}
use Rattle.sc_model.specs.declared.event.Written.TheVariants.{Done as WriteDone, Refused as WriteRefused}
use Rattle.sc_model.specs.declared.level.Cause.TheVariants.{BadEntry, BadKey, Io}
use Rattle.sc_model.specs.declared.level.LevelKind.TheVariants.{Disk}
use Rattle.sc_store_disk.specs.DiskStores.{DiskStore, entry_at}
use Rattle.sc_store_disk.specs.declared.reserving.Reservation.{Reservation}
use Rattle.sc_store_disk.specs.declared.reserving.Reservation.TheVariants.{Open as IsOpened, Refused as IsRefused}

-- nothing that is held changed
pub record Steady (old new : DiskStore) : Type 0 where
  pub facts : new.facts ≡ old.facts
  pub told : new.told ≡ old.told
  pub later : Later old.level new.level
  pub main : new.level.main ≡ old.level.main
  pub pre : new.level.pre ≡ old.level.pre
  pub marks : new.level.marks ≡ old.level.marks
  pub written : new.level.written ≡ old.level.written
  pub reserved : new.reserved ≡ old.reserved
  pub entries : new.entries ≡ old.entries

-- the files of a part of a level
abbrev pub part_files : Part → Level → Files
part_files Main v = v.main
part_files Pre v = v.pre

-- what a read at a path of a part of an opened store answers
abbrev pub ReadsAt : Part → List ℕ → Answer → Bool → Level → Level → Type 0
ReadsAt part path (Hit bytes mark) told v w = (mark ≡ false) × (told ≡ true → find_file (part_files part w) path ≡ Some bytes)
ReadsAt part path Miss told v w = find_file (part_files part w) path ≡ None
ReadsAt part path (Refused Io) told v w = Rose v.faults w.faults
ReadsAt part path answer told v w = ⊥

-- whether a file stands at a path of the main part of an opened store
abbrev pub HasFile : List ℕ → Bool → Bool → Level → Type 0
HasFile path true told w = told ≡ true → (bytes : List ℕ) × (find_file w.main path ≡ Some bytes)
HasFile path false told w = find_file w.main path ≡ None

-- an opened store, unless the answer is a refusal
abbrev pub OpensFor : Answer → Bool → Type 0
OpensFor (Refused c) opened = Unit {0}
OpensFor answer opened = opened ≡ true

-- the lookups that read what stands under a key
abbrev pub reads_key : Mode → Bool
reads_key Whole = true
reads_key Raw = true
reads_key mode = false

-- a refusal as a miss
abbrev pub hit_or_miss : Answer → Answer
hit_or_miss (Refused c) = Miss
hit_or_miss answer = answer

-- A lookup at a disk store whose disks tell what they hold.
abbrev pub AsksDisk : List ℕ → Mode → Answer → DiskStore → DiskStore → Type 0
AsksDisk key mode answer old new = old.told ≡ true → Asks objects old.facts old.reserved key mode answer old.level new.level

-- Why a lookup was answered so, by the counts of faults, whether or not the disks tell what they hold. A preprocessor entry has no
-- mark.
abbrev pub AskCauseBy : Mode → Answer → List ℕ → ℕ → ℕ → Type 0
AskCauseBy Whole (Hit bytes mark) key before now = IsStoreKey key × Spells (objects bytes)
AskCauseBy Whole Miss key before now = IsStoreKey key
AskCauseBy Whole (Refused BadKey) key before now = IsStoreKey key → ⊥
AskCauseBy Whole (Refused BadEntry) key before now = IsStoreKey key
AskCauseBy Whole (Refused Io) key before now = IsStoreKey key × Rose before now
AskCauseBy Raw (Hit bytes mark) key before now = IsStoreKey key
AskCauseBy Raw Miss key before now = IsStoreKey key
AskCauseBy Raw (Refused BadKey) key before now = IsStoreKey key → ⊥
AskCauseBy Raw (Refused Io) key before now = IsStoreKey key × Rose before now
AskCauseBy Path (Found path) key before now = IsStoreKey key
AskCauseBy Path Miss key before now = Unit {0}
AskCauseBy PreMode (Hit bytes mark) key before now = IsStoreKey key × (mark ≡ false)
AskCauseBy PreMode Miss key before now = Unit {0}
AskCauseBy PreMode (Refused Io) key before now = IsStoreKey key × Rose before now
AskCauseBy Sizes (SizeIs size counters) key before now = Unit {0}
AskCauseBy mode answer key before now = ⊥

abbrev pub AskCause : Mode → Answer → List ℕ → Level → Level → Type 0
AskCause mode answer key before now = AskCauseBy mode answer key before.faults now.faults

-- how a reservation ended
abbrev pub written_of : Reservation → Written
written_of (IsOpened e) = WriteDone
written_of (IsRefused c) = WriteRefused c

-- what a call that may evict leaves alone
pub record Stays (old new : DiskStore) : Type 0 where
  pub facts : new.facts ≡ old.facts
  pub told : new.told ≡ old.told
  pub later : Later old.level new.level

-- a reservation that was not made for want of memory: files went while they, the reservations and the wanted bytes took more
-- than the capacity
abbrev pub EvictsFiles : ℕ → DiskStore → DiskStore → Type 0
EvictsFiles size old new = old.told ≡ true → (ps : List (Bool × List ℕ)) × Evicts old.facts.capacity (old.reserved + size) ps old.level new.level

-- and with them their marks
abbrev pub EvictsFor : ℕ → DiskStore → DiskStore → Type 0
EvictsFor size old new = old.told ≡ true → ((ps : List (Bool × List ℕ)) × Evicts old.facts.capacity (old.reserved + size) ps old.level new.level) × KeepsMarks old.level new.level

-- the same open entries, with the same bytes, and as much is reserved
pub record SameEntries (old new : DiskStore) : Type 0 where
  pub reserved : new.reserved ≡ old.reserved
  pub entries : (number : ℕ) → entry_at new.entries number ≡ entry_at old.entries number

-- An entry was opened, under a number that was free. It is empty, and its size is reserved.
pub record Opens (path : List ℕ) (size : ℕ) (e : AddEntry) (old new : DiskStore) : Type 0 where
  pub key : e.key ≡ path
  pub divided : e.divided ≡ true
  pub free : entry_at old.entries e.number ≡ None
  pub opened : entry_at new.entries e.number ≡ Some (record { path = path; size = size; bytes = []; fills = None })
  pub others : (number : ℕ) → number ≢ e.number → entry_at new.entries number ≡ entry_at old.entries number
  pub reserved : new.reserved ≡ old.reserved + size

abbrev pub OpensBy : List ℕ → ℕ → Reservation → DiskStore → DiskStore → Type 0
OpensBy path size (IsOpened e) old new = Opens path size e old new
OpensBy path size (IsRefused c) old new = SameEntries old new

-- the entry that was opened is open in the store
abbrev pub HasOpened : Reservation → Store → Type 0
HasOpened (IsOpened e) s = IsOpen s e
HasOpened (IsRefused c) s = Unit {0}

-- Why an entry was opened or not, whether or not the disks tell what they hold.
abbrev pub ReserveCauseBy : Causes → Reservation → ℕ → ℕ → Type 0
ReserveCauseBy expected (IsOpened e) before now = expected.all ≡ None
ReserveCauseBy expected (IsRefused Io) before now = (expected.early ≡ None) × Rose before now
ReserveCauseBy expected (IsRefused c) before now = expected.all ≡ Some c

abbrev pub ReserveCause : Causes → Reservation → Level → Level → Type 0
ReserveCause expected how before now = ReserveCauseBy expected how before.faults now.faults

-- the causes of a reservation whose mode and key are good
abbrev pub room_causes : ℕ → ℕ → ℕ → Causes
room_causes capacity reserved size = record { early = None; all = room_cause Disk capacity reserved size }
