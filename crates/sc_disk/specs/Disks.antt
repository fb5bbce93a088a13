-- What a disk tells: its files at first, and each change since.
use Rattle.std.specs.Prelude.{◌≡◌, ◌⊎◌, ℕ, ◌≤◌, ◌==◌, ◌&&◌, ◌||◌, cond, Bool, true, false, not, is_some, List, [], ◌∷◌, ◌++◌, take, length, map as each, Option, Some, None, Result, Ok, Err}
use Rattle.std.specs.List.{AllByRecursion}
use Rattle.std.specs.Option.{option_map}
use Rattle.std.specs.FinMap as map
use Rattle.std.specs.Ordering.{nat_cmp}
use Rattle.std.specs.Cmp.Lexicographic.{slice_cmp}
use Rattle.sc_entry.specs.Causes.{Rose, IfTold}
use Rattle.sc_entry.specs.declared.calls.Calls.{Calls}
use Rattle.sc_disk.specs.Devices.{CountsOn, MakesOn}
use Rattle.sc_disk.specs.declared.change.Change.{Change}
use Rattle.sc_disk.specs.declared.change.Change.TheVariants.{Made, Added, Touched, Moved, Gone}
use Rattle.sc_disk.specs.declared.disk.DiskError.{DiskError}
use Rattle.sc_disk.specs.declared.disk.DiskError.TheVariants as disk_errors
use Rattle.sc_disk.specs.declared.disk.Listed.{Listed}
pub use Rattle.sc_disk.specs.declared.disk_file.DiskFile.{DiskFile}

-- the file of this moment with these bytes
abbrev pub disk_file : ℕ → List ℕ → DiskFile
disk_file moment bytes = record { moment = moment; bytes = bytes }

-- the files of a disk by their paths
abbrev pub DiskFiles : Type 0
DiskFiles = map.FinMap (slice_cmp nat_cmp) DiskFile

abbrev pub no_disk_files : DiskFiles
no_disk_files = map.empty

abbrev pub disk_file_at : DiskFiles → List ℕ → Option DiskFile
disk_file_at files path = map.get files path

-- the files, with this at the path, if it is anything
abbrev pub with_disk_file : DiskFiles → List ℕ → Option DiskFile → DiskFiles
with_disk_file files path None = files
with_disk_file files path (Some file) = map.insert files path file

-- what a change makes of the files
abbrev pub change : Change → DiskFiles → DiskFiles
change (Made path now) files = map.insert files path (disk_file now [])
change (Added path bytes) files = with_disk_file files path (option_map (λ file. disk_file file.moment (file.bytes ++ bytes)) (disk_file_at files path))
change (Touched path now) files = with_disk_file files path (option_map (λ file. disk_file now file.bytes) (disk_file_at files path))
change (Moved from to) files = with_disk_file (map.remove files from) to (disk_file_at files from)
change (Gone path) files = map.remove files path

-- the files after these changes, of which the newest stands first
abbrev pub replay : DiskFiles → List Change → DiskFiles
replay first [] = first
replay first (x ∷ xs) = change x (replay first xs)

-- bytes by path, outside the disk
abbrev pub OutsideFiles : Type 0
OutsideFiles = map.FinMap (slice_cmp nat_cmp) (List ℕ)

abbrev pub outside_file_at : OutsideFiles → List ℕ → Option (List ℕ)
outside_file_at outside path = map.get outside path

-- What a disk tells: what stands outside, which no call changes, the files at first, and the changes since, of which
-- the newest stands first.
pub record DiskRecord : Type 0 where
  pub outside : OutsideFiles
  pub first : DiskFiles
  pub done : List Change

-- the files that the disk has now
abbrev pub files_now : DiskRecord → DiskFiles
files_now r = replay r.first r.done

-- the record after these changes more
abbrev pub did_all : List Change → DiskRecord → DiskRecord
did_all xs r = record { outside = r.outside; first = r.first; done = xs ++ r.done }

-- A disk: what it tells, if it tells anything, how often it failed, its device's calls, if it tells them, the path that its
-- files stand under, and whether it is divided: then each path begins with the letter of one of its devices and a slash.
pub record DiskState : Type 0 where
  pub told : Option DiskRecord
  pub faults : ℕ
  pub calls : Option Calls
  pub root : List ℕ
  pub divided : Bool
  pub letters : List ℕ

-- the letter that a path begins with, if it is no slash and one follows
abbrev pub device_of : List ℕ → Option ℕ
device_of [] = None
device_of (b ∷ []) = None
device_of (b ∷ c ∷ rest) = cond ((c == 47) && not (b == 47)) (Some b) None

abbrev pub has_letter : ℕ → List ℕ → Bool
has_letter letter [] = false
has_letter letter (l ∷ ls) = (letter == l) || has_letter letter ls

abbrev pub is_device : Option ℕ → List ℕ → Bool
is_device None letters = false
is_device (Some letter) letters = has_letter letter letters

-- the disk has a device for the path
abbrev pub has_place : DiskState → List ℕ → Bool
has_place d path = not d.divided || is_device (device_of path) d.letters

-- it has one for each file of a listing
abbrev pub ArePlaced : List Listed → DiskState → Type 0
ArePlaced all d = AllByRecursion (λ e. has_place d e.path ≡ true) all

-- both paths are of one device
abbrev pub IsOneDevice : List ℕ → List ℕ → DiskState → Type 0
IsOneDevice from to d = d.divided ≡ true → device_of to ≡ device_of from

-- a file stands at the path, where the disk tells
abbrev pub IsHeld : List ℕ → DiskState → Type 0
IsHeld path d = IfTold d.told (λ r. is_some (disk_file_at (files_now r) path) ≡ true)

-- The disk made these changes of its files, the newest first, and no others. Whether it tells stays, and so do its root
-- and its devices. Its count of faults may have risen at calls that were not to fail.
pub record Changes (xs : List Change) (old new : DiskState) : Type 0 where
  pub told : new.told ≡ option_map (did_all xs) old.told
  pub faults : old.faults ≤ new.faults
  pub calls : CountsOn old.calls new.calls old.faults new.faults
  pub root : new.root ≡ old.root
  pub divided : new.divided ≡ old.divided
  pub letters : new.letters ≡ old.letters

-- The same, where its count of faults rose at calls that were to fail alone.
pub record Does (xs : List Change) (old new : DiskState) : Type 0 where
  pub told : new.told ≡ option_map (did_all xs) old.told
  pub faults : old.faults ≤ new.faults
  pub calls : MakesOn old.calls new.calls old.faults new.faults
  pub root : new.root ≡ old.root
  pub divided : new.divided ≡ old.divided
  pub letters : new.letters ≡ old.letters

-- nothing was added at the path's end, or a front of the bytes was
abbrev pub DoesPart : List ℕ → List ℕ → DiskState → DiskState → Type 0
DoesPart path bytes old new = Does [] old new ⊎ ((n : ℕ) × Does (Added path (take n bytes) ∷ []) old new)

abbrev pub ChangesPart : List ℕ → List ℕ → DiskState → DiskState → Type 0
ChangesPart path bytes old new = Changes [] old new ⊎ ((n : ℕ) × Changes (Added path (take n bytes) ∷ []) old new)

-- A fault is answered only where the count rose.
abbrev pub DiskCause : {A : Type 0} → DiskState → DiskState → Result A DiskError → Type 0
DiskCause before now (Ok a) = Unit {0}
DiskCause before now (Err disk_errors.Fault) = Rose before.faults now.faults
DiskCause before now (Err disk_errors.NoMemory) = Unit {0}

-- the path's file has so many bytes, where the disk tells
abbrev pub IsSize : List ℕ → ℕ → DiskState → Type 0
IsSize path n d = IfTold d.told (λ r. option_map (λ file. length file.bytes) (disk_file_at (files_now r) path) ≡ Some n)

-- the path's file has these bytes, where the disk tells
abbrev pub HasBytes : List ℕ → List ℕ → DiskState → Type 0
HasBytes path bytes d = IfTold d.told (λ r. option_map (λ file. file.bytes) (disk_file_at (files_now r) path) ≡ Some bytes)

-- these bytes stand at the outside path, where the disk tells
abbrev pub HasOutside : List ℕ → List ℕ → DiskState → Type 0
HasOutside path bytes d = IfTold d.told (λ r. outside_file_at r.outside path ≡ Some bytes)

-- the bytes of the outside file were added at the path's end
abbrev pub Adopts : List ℕ → List ℕ → DiskState → DiskState → Type 0
Adopts outside path old new = (bytes : List ℕ) × HasOutside outside bytes old × Does (Added path bytes ∷ []) old new

-- nothing was, or a front of them; nothing may stand at the outside path
abbrev pub AdoptsPart : List ℕ → List ℕ → DiskState → DiskState → Type 0
AdoptsPart outside path old new = Changes [] old new ⊎ ((bytes : List ℕ) × HasOutside outside bytes old × ChangesPart path bytes old new)

-- the files with their sizes and moments, their paths ascending by their bytes
abbrev pub listing : DiskFiles → List Listed
listing files = each (λ e. record { path = e.0; size = length e.1.bytes; moment = e.1.moment }) (map.entries files)

-- a listing of the disk, where it tells
abbrev pub IsListing : List Listed → DiskState → Type 0
IsListing all d = IfTold d.told (λ r. all ≡ listing (files_now r))

-- a disk that isn't divided, and tells nothing
abbrev pub untold_disk : List ℕ → ℕ → DiskState
untold_disk root faults = record { told = None; faults = faults; calls = None; root = root; divided = false; letters = [] }
