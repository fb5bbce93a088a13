-- Why a store of files refuses.
use Rattle.std.specs.Prelude.{◌≡◌, ℕ, ◌+◌, ◌<◌, ◌≤◌, Bool, true, false, List, codes, Option, Some, None}
use Rattle.sc_entry.specs.Causes.{Rose}
use Rattle.sc_disk.specs.declared.disk.DiskError.{DiskError}
use Rattle.sc_disk.specs.declared.disk.DiskError.TheVariants as disk_errors
use Rattle.sc_disk.specs.declared.error.Error.{Error}
use Rattle.sc_disk.specs.declared.error.Error.TheVariants.{BadKey, FileNotInCache, FileTooLarge, Io, NoMemory, Reserved}

-- what a disk's refusal is to the store
abbrev pub error_of : DiskError → Error
error_of disk_errors.NoMemory = NoMemory
error_of disk_errors.Fault = Io

abbrev pub error_text : Error → List ℕ
error_text NoMemory = codes "out of memory"
error_text FileTooLarge = codes "File too large"
error_text FileNotInCache = codes "File not in cache"
error_text Io = codes "disk fault"
error_text Reserved = codes "space is reserved"
error_text BadKey = codes "bad key"

-- Why no entry is opened, of a key that is good or not and a size, beside what is reserved. Each cause excludes the ones
-- above it: the key, then the capacity, then the reservations; a fault only where the count of faults rose.
abbrev pub AddCause : Bool → ℕ → ℕ → ℕ → ℕ → ℕ → Error → Type 0
AddCause good size held capacity before now BadKey = good ≡ false
AddCause good size held capacity before now FileTooLarge = (good ≡ true) × (capacity < size)
AddCause good size held capacity before now Reserved = (good ≡ true) × (size ≤ capacity) × (capacity < size + held)
AddCause good size held capacity before now FileNotInCache = ⊥
AddCause good size held capacity before now Io = (good ≡ true) × (size + held ≤ capacity) × Rose before now
AddCause good size held capacity before now NoMemory = Unit {0}

-- a disk's refusal alone
abbrev pub DiskRefusal : ℕ → ℕ → Error → Type 0
DiskRefusal before now BadKey = ⊥
DiskRefusal before now FileTooLarge = ⊥
DiskRefusal before now Reserved = ⊥
DiskRefusal before now FileNotInCache = ⊥
DiskRefusal before now Io = Rose before now
DiskRefusal before now NoMemory = Unit {0}

-- Why a key's file isn't removed.
abbrev pub RemoveCause : Bool → ℕ → ℕ → Error → Type 0
RemoveCause good before now BadKey = good ≡ false
RemoveCause good before now FileTooLarge = ⊥
RemoveCause good before now Reserved = ⊥
RemoveCause good before now FileNotInCache = ⊥
RemoveCause good before now Io = (good ≡ true) × Rose before now
RemoveCause good before now NoMemory = Unit {0}

-- Why a key's file isn't read, of a key that is indexed or not.
abbrev pub GetCause : Bool → Bool → ℕ → ℕ → Error → Type 0
GetCause good indexed before now BadKey = good ≡ false
GetCause good indexed before now FileTooLarge = ⊥
GetCause good indexed before now Reserved = ⊥
GetCause good indexed before now FileNotInCache = (good ≡ true) × (indexed ≡ false)
GetCause good indexed before now Io = (good ≡ true) × (indexed ≡ true) × Rose before now
GetCause good indexed before now NoMemory = Unit {0}
