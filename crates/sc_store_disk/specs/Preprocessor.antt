-- What a put of a preprocessor entry does at a disk store. Its size isn't declared: it is measured once it was written.
use Rattle.std.specs.Prelude.{◌≡◌, ℕ, ◌+◌, ◌<◌, ◌≤◌, Bool, true, List, length, Option, Some, None}
use Rattle.sc_entry.specs.Causes.{Rose}
use Rattle.sc_entry.specs.Keys.{normalize_key}
use Rattle.sc_model.specs.WriteCauses.{causes}
use Rattle.sc_model.specs.Writing.{Puts_pre_by, Puts_pre_disk}
use Rattle.sc_model.specs.declared.event.Written.{Written}
use Rattle.sc_model.specs.declared.event.Written.TheVariants.{Done as WriteDone, Refused as WriteRefused}
use Rattle.sc_model.specs.declared.level.Cause.{Cause}
use Rattle.sc_model.specs.declared.level.Cause.TheVariants.{FileTooLarge, Io, Reserved as NoRoom}
use Rattle.sc_model.specs.declared.level.Policy.{Policy}
use Rattle.sc_store_disk.specs.DiskStores.{DiskStore}
use Rattle.sc_store_disk.specs.Moving.{room_causes}

-- Bytes were put under a key's path at an opened store whose disks tell what they hold. So many main files went for them.
abbrev pub StoresPre : List ℕ → List ℕ → Written → DiskStore → DiskStore → Type 0
StoresPre path bytes how old new =
    old.told ≡ true → (key : List ℕ) → path ≡ normalize_key key → (gone : ℕ) × Puts_pre_by gone old.facts.capacity (room_causes old.facts.capacity old.reserved (length bytes)) old.reserved key bytes how old.level new.level

-- The same under a key, at a store that may be to be opened.
abbrev pub StoresKey : Policy → List ℕ → List ℕ → Written → DiskStore → DiskStore → Type 0
StoresKey policy key bytes how old new = old.told ≡ true → (gone : ℕ) × Puts_pre_by gone old.facts.capacity (causes policy old.facts old.reserved key (length bytes)) old.reserved key bytes how old.level new.level

-- And with the files their marks went.
abbrev pub PutsPre : Policy → List ℕ → List ℕ → Written → DiskStore → DiskStore → Type 0
PutsPre policy key bytes how old new = old.told ≡ true → Puts_pre_disk old.facts.capacity (causes policy old.facts old.reserved key (length bytes)) old.reserved key bytes how old.level new.level

-- a size that a disk measured of bytes: how many they are, where it tells what it holds
abbrev pub IsLength : Bool → List ℕ → ℕ → Type 0
IsLength told bytes size = told ≡ true → size ≡ length bytes

-- Why a preprocessor entry was put or not, whether or not the disks tell what they hold: `early` is the cause that is found
-- before the store is opened.
abbrev pub PreCauseBy : Option Cause → List ℕ → Written → Bool → ℕ → ℕ → ℕ → ℕ → Type 0
PreCauseBy early bytes WriteDone told capacity reserved before now = early ≡ None
PreCauseBy early bytes (WriteRefused Io) told capacity reserved before now = (early ≡ None) × Rose before now
PreCauseBy early bytes (WriteRefused FileTooLarge) told capacity reserved before now = (early ≡ None) × ((size : ℕ) × IsLength told bytes size × (capacity < size))
PreCauseBy early bytes (WriteRefused NoRoom) told capacity reserved before now =
    (early ≡ None) × ((size : ℕ) × IsLength told bytes size × (size ≤ capacity) × (capacity < size + reserved))
PreCauseBy early bytes (WriteRefused c) told capacity reserved before now = early ≡ Some c

abbrev pub PreCause : Option Cause → List ℕ → Written → DiskStore → DiskStore → Type 0
PreCause early bytes how old new = PreCauseBy early bytes how old.told old.facts.capacity old.reserved old.level.faults new.level.faults
