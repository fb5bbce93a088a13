-- What fills and commits of a disk store's entries do.
use Rattle.std.specs.Prelude.{◌≡◌, ◌≢◌, ◌⊎◌, ℕ, ◌+◌, ◌<◌, ◌≤◌, max, Bool, true, List, ◌++◌, length, Option, Some, None}
use Rattle.std.specs.Option.{option_map_or}
use Rattle.sc_disk.specs.Store.{AddEntry, IsOpen, Store}
use Rattle.sc_entry.specs.Causes.{Rose}
use Rattle.sc_model.specs.Asking.{DiskCalls, same_maps}
use Rattle.sc_model.specs.Evicting.{Evicts}
use Rattle.sc_model.specs.Levels.{IsFault, KeepsMarks, Level, SetsMark, put_file}
use Rattle.sc_model.specs.Writing.{Commits_calls, Fills, SameStore}
use Rattle.sc_model.specs.declared.event.Written.{Written}
use Rattle.sc_model.specs.declared.event.Written.TheVariants.{Done as WriteDone, Refused as WriteRefused}
use Rattle.sc_model.specs.declared.level.Cause.TheVariants.{FileTooLarge, Io, Reserved as NoRoom}
use Rattle.sc_model.specs.declared.level.LevelKind.TheVariants.{Disk}
use Rattle.sc_disk_pair.specs.Parts.{in_part}
use Rattle.sc_disk_pair.specs.declared.part.Part.{Part}
use Rattle.sc_disk_pair.specs.declared.part.Part.TheVariants.{Main, Pre}
use Rattle.sc_store_disk.specs.DiskStores.{DiskStore, OpenEntry, entry_at}
use Rattle.sc_store_disk.specs.Marks.{mark_of}
use Rattle.sc_store_disk.specs.declared.filling.Filling.{Filling}
use Rattle.sc_store_disk.specs.declared.filling.Filling.TheVariants.{Filled as StillOpen, Refused as NotFilled}

-- the store has an open entry of this number and path
abbrev pub IsOpenAt : AddEntry → DiskStore → Type 0
IsOpenAt e s = (e.divided ≡ true) × ((o : OpenEntry) × (entry_at s.entries e.number ≡ Some o) × (o.path ≡ e.key))

-- all other open entries stay as they were
abbrev pub OthersStay : ℕ → DiskStore → DiskStore → Type 0
OthersStay number old new = (m : ℕ) → m ≢ number → entry_at new.entries m ≡ entry_at old.entries m

-- An entry was filled with bytes behind those that it had; what its fills came to was made another by this.
pub record FillsEntry (number : ℕ) (more : List ℕ) (fills : Option Bool → Option Bool) (old new : DiskStore) : Type 0 where
  pub level : Fills WriteDone old.level new.level
  pub reserved : new.reserved ≡ old.reserved
  pub entry : (o : OpenEntry) → entry_at old.entries number ≡ Some o → (b : List ℕ) × (entry_at new.entries number ≡ Some (record { path = o.path; size = o.size; bytes = b; fills = fills o.fills })) × (old.told ≡ true → b ≡ o.bytes ++ more)
  pub others : OthersStay number old new

-- what the open entry of a number has declared
abbrev pub size_at : DiskStore → ℕ → ℕ
size_at s number = option_map_or (λ o. o.size) (entry_at s.entries number) 0

-- An entry was closed, and its reservation released.
pub record ClosesEntry (number : ℕ) (old new : DiskStore) : Type 0 where
  pub closed : entry_at new.entries number ≡ None
  pub others : OthersStay number old new
  pub reserved : new.reserved + size_at old number ≡ old.reserved

-- a fill, which closes the entry where it is refused
abbrev pub FillsBy : AddEntry → List ℕ → (Option Bool → Option Bool) → Filling → DiskStore → DiskStore → Type 0
FillsBy e more fills (StillOpen same) old new = (same ≡ e) × FillsEntry e.number more fills old new
FillsBy e more fills (NotFilled c) old new = Fills (WriteRefused c) old.level new.level × ClosesEntry e.number old new

-- no file came or went, and no mark
pub record SameFiles (v w : Level) : Type 0 where
  pub maps : same_maps v w
  pub marks : KeepsMarks v w

-- an entry that was filled is open in the store
abbrev pub KeepsOpen : Filling → Store → Type 0
KeepsOpen (StillOpen e) s = IsOpen s e
KeepsOpen (NotFilled c) s = Unit {0}

-- a file of a level's main part and its mark, once an entry was committed
abbrev pub CommitsAt : List ℕ → List ℕ → Bool → Written → Level → Level → Type 0
CommitsAt path bytes mark WriteDone v w = (w.main ≡ put_file v.main path bytes) × (w.pre ≡ v.pre) × SetsMark path mark v w
CommitsAt path bytes mark (WriteRefused c) v w = IsFault Disk v w c × same_maps v w × KeepsMarks v w

pub record CommitsFile (path bytes : List ℕ) (mark : Bool) (how : Written) (v w : Level) : Type 0 where
  pub file : CommitsAt path bytes mark how v w
  pub calls : DiskCalls (Commits_calls how) v w
  pub store : SameStore v w

-- An entry that was filled with no more than it declared, at a store whose disks tell: its file stands in the main part,
-- and nothing was evicted; or its disk refused.
abbrev pub CommitsEntry : ℕ → Written → DiskStore → DiskStore → Type 0
CommitsEntry number how old new = old.told ≡ true → (o : OpenEntry) (path : List ℕ) → entry_at old.entries number ≡ Some o → length o.bytes ≤ o.size → o.path ≡ in_part Main path → CommitsFile path o.bytes (mark_of o.fills) how old.level new.level

-- What a commit makes room for: what the other entries have reserved, and the bytes of its own or those that it declared,
-- whichever are more.
abbrev pub room_for : OpenEntry → DiskStore → ℕ
room_for o new = new.reserved + max (length o.bytes) o.size

-- a file of a part of a level was put in its place
abbrev pub PutsFile : Part → List ℕ → List ℕ → Level → Level → Type 0
PutsFile Main path bytes v w = (w.main ≡ put_file v.main path bytes) × (w.pre ≡ v.pre)
PutsFile Pre path bytes v w = (w.main ≡ v.main) × (w.pre ≡ put_file v.pre path bytes)

-- Files were evicted for an entry whose bytes fit beside what the others have reserved, or none were.
abbrev pub MakesRoom : OpenEntry → DiskStore → DiskStore → Type 0
MakesRoom o old new =
    same_maps old.level new.level ⊎ ((length o.bytes + new.reserved ≤ old.facts.capacity) × ((ps : List (Bool × List ℕ)) × Evicts old.facts.capacity (room_for o new) ps old.level new.level))

-- An entry of any size: where its bytes fit, files are evicted until they do, and its file stands in its part.
abbrev pub Grows : Part → List ℕ → OpenEntry → Written → DiskStore → DiskStore → Type 0
Grows part path o WriteDone old new =
    (length o.bytes + new.reserved ≤ old.facts.capacity)
    × ((u : Level) × ((ps : List (Bool × List ℕ)) × Evicts old.facts.capacity (room_for o new) ps old.level u) × PutsFile part path o.bytes u new.level)
Grows part path o (WriteRefused Io) old new = Rose old.level.faults new.level.faults × MakesRoom o old new
Grows part path o (WriteRefused FileTooLarge) old new = (old.facts.capacity < length o.bytes) × same_maps old.level new.level
Grows part path o (WriteRefused NoRoom) old new = (length o.bytes ≤ old.facts.capacity) × (old.facts.capacity < length o.bytes + new.reserved) × same_maps old.level new.level
Grows part path o (WriteRefused c) old new = ⊥

-- The same at a store whose disks tell.
abbrev pub GrowsEntry : ℕ → Written → DiskStore → DiskStore → Type 0
GrowsEntry number how old new = old.told ≡ true → (o : OpenEntry) (part : Part) (path : List ℕ) → entry_at old.entries number ≡ Some o → o.path ≡ in_part part path → Grows part path o how old new

-- An entry was not committed for want of memory.
abbrev pub GrowsNothing : ℕ → DiskStore → DiskStore → Type 0
GrowsNothing number old new = old.told ≡ true → (o : OpenEntry) → entry_at old.entries number ≡ Some o → MakesRoom o old new

-- the bytes that an entry was filled with, where the disks tell them
abbrev pub IsMeasured : ℕ → ℕ → DiskStore → Type 0
IsMeasured number size s = s.told ≡ true → (o : OpenEntry) → entry_at s.entries number ≡ Some o → size ≡ length o.bytes

-- Why an entry wasn't committed, whether or not the disks tell what they hold: its bytes are more than the capacity, or they
-- fit alone but not beside what other entries have reserved, or the count of faults rose.
abbrev pub CommitCause : ℕ → Written → DiskStore → DiskStore → Type 0
CommitCause number WriteDone old new = Unit {0}
CommitCause number (WriteRefused FileTooLarge) old new = (size : ℕ) × IsMeasured number size old × (old.facts.capacity < size)
CommitCause number (WriteRefused NoRoom) old new = (size : ℕ) × IsMeasured number size old × (size ≤ old.facts.capacity) × (old.facts.capacity < size + new.reserved)
CommitCause number (WriteRefused Io) old new = Rose old.level.faults new.level.faults
CommitCause number (WriteRefused c) old new = ⊥

-- An entry that was filled with no more than it declared was not committed for want of memory: no file came or went.
abbrev pub CommitsNothing : ℕ → DiskStore → DiskStore → Type 0
CommitsNothing number old new = old.told ≡ true → (o : OpenEntry) → entry_at old.entries number ≡ Some o → length o.bytes ≤ o.size → SameFiles old.level new.level
