-- What the call does that stores what its caller writes.
use Rattle.std.specs.Prelude.{◌≡◌, ◌⊎◌, ℕ, Bool, true, false, List, Result, Ok, Err}
use Rattle.sc_entry.specs.Causes.{Rose}
use Rattle.sc_disk.specs.Calls.{Prepares, RefusesAdd, RefusesCommit, removed_by}
use Rattle.sc_disk.specs.Disks.{Does}
use Rattle.sc_disk.specs.Inserting.{Fills, Inserts}
use Rattle.sc_disk.specs.Store.{AddEntry, Closed, IsTidy, Store, temporary_of}
use Rattle.sc_disk.specs.declared.error.Error.{Error}
use Rattle.sc_disk.specs.declared.error.Error.TheVariants.{NoMemory}
use Rattle.sc_disk.specs.declared.writing.InsertError.{InsertError}
use Rattle.sc_disk.specs.declared.writing.InsertError.TheVariants as insert_errors

module _ {E : Type 0} where
  -- What a writer wrote is stored under a key.
  unfoldable pub StoresWritten : (Result (Unit {0}) E → List (List ℕ) → Type 0) → List ℕ → ℕ → Store → Store → Type 0
  StoresWritten wrote k now old new = (pieces : List (List ℕ)) × wrote (Ok tt) pieces × (number : ℕ) × (n : ℕ) × (r : ℕ) × (m : ℕ) × Inserts k pieces 0 now number n r m old new

  -- a temporary is left only where its removal failed, or for want of memory
  abbrev pub LeftWritten : InsertError E → Bool → ℕ → ℕ → Type 0
  LeftWritten told true before now = Unit {0}
  LeftWritten (insert_errors.Store refused) false before now = refused ≡ NoMemory
  LeftWritten (insert_errors.Writer refused) false before now = Rose before now

  -- A writer refused, and the entry is closed. Its temporary is removed, or that failed.
  pub record LetsGo (refused : E) (told : InsertError E) (removes : Bool) (e : AddEntry) (old new : Store) : Type 0 where
    pub answer : (told ≡ insert_errors.Writer refused) ⊎ (told ≡ insert_errors.Store NoMemory)
    pub removal : LeftWritten told removes old.disk.faults new.disk.faults
    pub closed : Closed e.number old new
    pub index : new.index ≡ old.index
    pub capacity : new.capacity ≡ old.capacity
    pub disk : Does (removed_by removes (temporary_of e)) old.disk new.disk
    pub tidy : removes ≡ true → IsTidy old → IsTidy new

  -- Nothing is stored: no entry is opened; or its writer refuses; or what it wrote isn't committed.
  unfoldable pub RefusesWriting : (Result (Unit {0}) E → List (List ℕ) → Type 0) → InsertError E → List ℕ → ℕ → Store → Store → Type 0
  RefusesWriting wrote told k now old new =
      ((refused : Error) × (told ≡ insert_errors.Store refused) × (n : ℕ) × RefusesAdd refused k 0 n old new)
      ⊎ ((e : AddEntry) × (n : ℕ) × (mid : Store) × (full : Store) × (pieces : List (List ℕ)) × Prepares e k 0 now n old mid × Fills e pieces mid full × (
      ((refused : E) × (removes : Bool) × wrote (Err refused) pieces × LetsGo refused told removes e full new)
      ⊎ ((refused : Error) × (m : ℕ) × (touches : Bool) × (removes : Bool) × (told ≡ insert_errors.Store refused) × wrote (Ok tt) pieces × RefusesCommit refused e now m touches removes full new)))
