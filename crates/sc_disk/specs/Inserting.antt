-- What the calls do that store a whole file: an entry is opened, filled and committed, and abandoned where that is refused.
use Rattle.std.specs.Prelude.{◌≡◌, ◌⊎◌, ℕ, ◌+◌, ◌-◌, ◌≤◌, max, Bool, true, List, [], ◌∷◌, ◌++◌, length, drop, None}
use Rattle.slab.specs.Slab.{get}
use Rattle.sc_entry.specs.Causes.{IfTold}
use Rattle.sc_entry.specs.Keys.{is_file_key}
use Rattle.sc_disk.specs.Calls.{Leftover, Prepares, RefusesAdd, RefusesCommit, removed_by}
use Rattle.sc_disk.specs.Disks.{DiskState, Does}
use Rattle.sc_disk.specs.Names.{temporary}
use Rattle.sc_disk.specs.Refusals.{DiskRefusal}
use Rattle.sc_disk.specs.Store.{AddEntry, Closed, Fits, IsTidy, Store, filed, firsts, gone, reserved, temporary_of}
use Rattle.sc_disk.specs.declared.change.Change.{Change}
use Rattle.sc_disk.specs.declared.change.Change.TheVariants.{Added, Made, Moved, Touched}
use Rattle.sc_disk.specs.declared.error.Error.{Error}
use Rattle.sc_disk.specs.declared.error.Error.TheVariants.{NoMemory}

-- the disk of the store changed like this, and all else is as it was
pub record Only (does : DiskState → DiskState → Type 0) (old new : Store) : Type 0 where
  pub index : new.index ≡ old.index
  pub pending : new.pending ≡ old.pending
  pub capacity : new.capacity ≡ old.capacity
  pub disk : does old.disk new.disk

-- these pieces were added at a path's end, of which the newest stands first
abbrev pub added : List ℕ → List (List ℕ) → List Change
added path [] = []
added path (x ∷ xs) = Added path x ∷ added path xs

-- the bytes that they make
abbrev pub content : List (List ℕ) → List ℕ
content [] = []
content (x ∷ xs) = content xs ++ x

-- an open entry was filled by these pieces alone
abbrev pub Fills : AddEntry → List (List ℕ) → Store → Store → Type 0
Fills e pieces old new = Only (Does (added (temporary_of e) pieces)) old new

-- an entry is closed after a refusal, and its temporary is removed, or that failed
pub record GivesUp (refused told : Error) (removes : Bool) (e : AddEntry) (old new : Store) : Type 0 where
  pub answer : (told ≡ refused) ⊎ (told ≡ NoMemory)
  pub removal : Leftover told removes old.disk.faults new.disk.faults
  pub closed : Closed e.number old new
  pub index : new.index ≡ old.index
  pub capacity : new.capacity ≡ old.capacity
  pub disk : Does (removed_by removes (temporary_of e)) old.disk new.disk
  pub tidy : removes ≡ true → IsTidy old → IsTidy new

-- A file of these pieces is stored under a key, by an entry of a free number that declares the size. The first n files go
-- for what is declared, and m more for what is measured beyond it.
pub record Inserts (k : List ℕ) (pieces : List (List ℕ)) (size now number n r m : ℕ) (old new : Store) : Type 0 where
  pub good : is_file_key k ≡ true
  pub free : get old.pending number ≡ None
  pub declared : size + reserved old ≤ old.capacity
  pub evicted : Fits (old.capacity - (reserved old + size)) n old.index
  -- the measured size is that of their bytes, where the disk tells
  pub measured : IfTold old.disk.told (λ _. r ≡ length (content pieces))
  pub fits : r + reserved old ≤ old.capacity
  pub evicted_more : Fits (old.capacity - (reserved old + max r size)) m (drop n old.index)
  -- no more than was declared evicts no more
  pub none : r ≤ size → m ≡ 0
  pub index : new.index ≡ filed k r (drop m (drop n old.index))
  pub disk : Does (Moved (temporary old.disk.divided k number) k ∷ Touched (temporary old.disk.divided k number) now ∷ (gone (firsts m (drop n old.index)) ++ (added (temporary old.disk.divided k number) pieces ++ (Made (temporary old.disk.divided k number) now ∷ gone (firsts n old.index))))) old.disk new.disk

-- Nothing is stored: no entry is opened; or it is, and is given up since it isn't filled; or it is filled, and not committed.
unfoldable pub RefusesInsert : Error → List ℕ → ℕ → ℕ → (AddEntry → DiskState → DiskState → Type 0) → (AddEntry → DiskState → DiskState → Type 0) → Store → Store → Type 0
RefusesInsert told k size now part whole old new =
    ((n : ℕ) × RefusesAdd told k size n old new)
    ⊎ ((e : AddEntry) × (n : ℕ) × (mid : Store) × (full : Store) × Prepares e k size now n old mid × (
    ((refused : Error) × (removes : Bool) × Only (part e) mid full × DiskRefusal mid.disk.faults full.disk.faults refused × GivesUp refused told removes e full new)
    ⊎ ((m : ℕ) × (touches : Bool) × (removes : Bool) × Only (whole e) mid full × RefusesCommit told e now m touches removes full new)))
