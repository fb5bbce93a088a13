-- What each call of a store of files does.
use Rattle.std.specs.Prelude.{◌≡◌, ◌⊎◌, ℕ, ◌+◌, ◌-◌, ◌<◌, ◌≤◌, ◌&&◌, max, Bool, true, false, is_some, bytes_eq, List, [], ◌∷◌, ◌++◌, drop}
use Rattle.std.specs.Map.{lookup, remove_entry}
use Rattle.sc_entry.specs.Causes.{Rose}
use Rattle.sc_entry.specs.Keys.{is_file_key}
use Rattle.sc_lru.specs.Order.{touched}
use Rattle.sc_disk.specs.Disks.{Does, HasBytes, IsSize, has_place}
use Rattle.sc_disk.specs.Refusals.{AddCause, GetCause}
use Rattle.sc_disk.specs.Store.{AddEntry, Alters, Fits, IsTidy, Needed, Opened, Store, declared_at, filed, firsts, gone, others, reserved, temporary_of}
use Rattle.sc_disk.specs.declared.change.Change.{Change}
use Rattle.sc_disk.specs.declared.change.Change.TheVariants.{Made, Touched, Moved, Gone}
use Rattle.sc_disk.specs.declared.pending.Pending.{Pending}
use Rattle.sc_disk.specs.declared.error.Error.{Error}
use Rattle.sc_disk.specs.declared.error.Error.TheVariants.{BadKey, FileNotInCache, FileTooLarge, Io, NoMemory, Reserved}

-- a change that was made or not
abbrev pub touched_by : Bool → List ℕ → ℕ → List Change
touched_by true path now = Touched path now ∷ []
touched_by false path now = []

abbrev pub removed_by : Bool → List ℕ → List Change
removed_by true path = Gone path ∷ []
removed_by false path = []

-- nothing is evicted where the key, the capacity or the reservations refuse
abbrev pub EvictsNone : Error → ℕ → Type 0
EvictsNone BadKey n = n ≡ 0
EvictsNone FileTooLarge n = n ≡ 0
EvictsNone Reserved n = n ≡ 0
EvictsNone FileNotInCache n = n ≡ 0
EvictsNone Io n = Unit {0}
EvictsNone NoMemory n = Unit {0}

-- An entry is opened: the first n files go, each only while the indexed files, what is reserved and the wanted size take
-- more than the capacity together.
pub record Prepares (e : AddEntry) (k : List ℕ) (size now n : ℕ) (old new : Store) : Type 0 where
  pub good : is_file_key k ≡ true
  pub fits : size + reserved old ≤ old.capacity
  pub evicted : Fits (old.capacity - (reserved old + size)) n old.index
  pub key : e.key ≡ k
  pub divided : e.divided ≡ old.disk.divided
  pub index : new.index ≡ drop n old.index
  pub opened : Opened e size old new
  pub capacity : new.capacity ≡ old.capacity
  pub disk : Does (Made (temporary_of e) now ∷ gone (firsts n old.index)) old.disk new.disk

-- no entry is opened
pub record RefusesAdd (refused : Error) (k : List ℕ) (size n : ℕ) (old new : Store) : Type 0 where
  pub cause : AddCause (is_file_key k && has_place old.disk k) size (reserved old) old.capacity old.disk.faults new.disk.faults refused
  pub none : EvictsNone refused n
  pub evicted : Needed (old.capacity - (reserved old + size)) n old.index
  pub index : new.index ≡ drop n old.index
  pub slots : new.pending.slots ≡ old.pending.slots
  pub capacity : new.capacity ≡ old.capacity
  pub disk : Does (gone (firsts n old.index)) old.disk new.disk

-- A temporary of r bytes takes its key's place: the first n files go, each only while the indexed files, the other
-- reservations and the greater of the measured and the declared size take more than the capacity together. A file that is
-- replaced counts until then.
pub record Commits (e : AddEntry) (r now n : ℕ) (old new : Store) : Type 0 where
  pub size : IsSize (temporary_of e) r old.disk
  pub fits : r + others old e.number ≤ old.capacity
  pub evicted : Fits (old.capacity - (others old e.number + max r (declared_at old e.number))) n old.index
  -- no more than was declared evicts nothing
  pub none : r ≤ declared_at old e.number → n ≡ 0
  pub index : new.index ≡ filed e.key r (drop n old.index)
  pub disk : Does (Moved (temporary_of e) e.key ∷ Touched (temporary_of e) now ∷ gone (firsts n old.index)) old.disk new.disk

-- why an entry isn't committed, where the disk had failed so often by then
abbrev pub CommitCause : Error → List ℕ → ℕ → Store → ℕ → Type 0
CommitCause BadKey path held old by_then = ⊥
CommitCause FileTooLarge path held old by_then = (r : ℕ) × IsSize path r old.disk × (old.capacity < r)
CommitCause Reserved path held old by_then = (r : ℕ) × IsSize path r old.disk × (r ≤ old.capacity) × (old.capacity < r + held)
CommitCause FileNotInCache path held old by_then = ⊥
CommitCause Io path held old by_then = Rose old.disk.faults by_then
CommitCause NoMemory path held old by_then = Unit {0}

-- evictions for a temporary that was measured, beside what others have declared and at least this size
abbrev pub NeededFor : List ℕ → ℕ → ℕ → ℕ → Store → Type 0
NeededFor path held size n old = (n ≡ 0) ⊎ ((r : ℕ) × IsSize path r old.disk × (r + held ≤ old.capacity) × Needed (old.capacity - (held + max r size)) n old.index)

-- the temporary was removed, or its removal failed
abbrev pub Leftover : Error → Bool → ℕ → ℕ → Type 0
Leftover NoMemory removed before now = Unit {0}
Leftover refused true before now = Unit {0}
Leftover refused false before now = Rose before now

-- An entry isn't committed: evictions may have been made, and its temporary may have got its moment. It is removed then,
-- which may fail once more.
pub record RefusesCommit (refused : Error) (e : AddEntry) (now n : ℕ) (touches removes : Bool) (old new : Store) : Type 0 where
  -- how often the disk had failed when it was refused
  pub by_then : ℕ
  pub counted : by_then ≤ new.disk.faults
  pub cause : CommitCause refused (temporary_of e) (others old e.number) old by_then
  pub none : EvictsNone refused n
  pub evicted : NeededFor (temporary_of e) (others old e.number) (declared_at old e.number) n old
  pub index : new.index ≡ drop n old.index
  pub removal : Leftover refused removes by_then new.disk.faults
  pub disk : Does (removed_by removes (temporary_of e) ++ (touched_by touches (temporary_of e) now ++ gone (firsts n old.index))) old.disk new.disk
  pub tidy : removes ≡ true → IsTidy old → IsTidy new

-- what private steps of a commit do: the temporary gets its moment and the key's place
pub record Settles (e : AddEntry) (k : List ℕ) (r now : ℕ) (old new : Store) : Type 0 where
  pub index : new.index ≡ filed k r old.index
  pub pending : new.pending ≡ old.pending
  pub capacity : new.capacity ≡ old.capacity
  pub disk : Does (Moved (temporary_of e) k ∷ Touched (temporary_of e) now ∷ []) old.disk new.disk

-- the same after evictions, once the entry is closed
pub record Places (e : AddEntry) (p : Pending) (r now n : ℕ) (old new : Store) : Type 0 where
  pub size : IsSize (temporary_of e) r old.disk
  pub fits : r + reserved old ≤ old.capacity
  pub evicted : Fits (old.capacity - (reserved old + max r p.size)) n old.index
  pub none : r ≤ p.size → n ≡ 0
  pub index : new.index ≡ filed p.key r (drop n old.index)
  pub pending : new.pending ≡ old.pending
  pub capacity : new.capacity ≡ old.capacity
  pub disk : Does (Moved (temporary_of e) p.key ∷ Touched (temporary_of e) now ∷ gone (firsts n old.index)) old.disk new.disk

pub record RefusesPlace (refused : Error) (e : AddEntry) (p : Pending) (now n : ℕ) (touches : Bool) (old new : Store) : Type 0 where
  pub cause : CommitCause refused (temporary_of e) (reserved old) old new.disk.faults
  pub none : EvictsNone refused n
  pub evicted : NeededFor (temporary_of e) (reserved old) p.size n old
  pub index : new.index ≡ drop n old.index
  pub pending : new.pending ≡ old.pending
  pub capacity : new.capacity ≡ old.capacity
  pub disk : Does (touched_by touches (temporary_of e) now ++ gone (firsts n old.index)) old.disk new.disk

-- the temporary is removed, or it isn't; the cause stays, or is want of memory
pub record Undoes (refused told : Error) (removes : Bool) (e : AddEntry) (old new : Store) : Type 0 where
  pub answer : (told ≡ refused) ⊎ (told ≡ NoMemory)
  pub removal : Leftover told removes old.disk.faults new.disk.faults
  pub alters : Alters (removed_by removes (temporary_of e)) old new

-- what a private step of a read does
pub record Reads (k read : List ℕ) (now : ℕ) (old new : Store) : Type 0 where
  pub bytes : HasBytes k read new.disk
  pub alters : Alters (Touched k now ∷ []) old new

-- a key's file is read: the key goes last, and the file gets its moment
pub record Gets (k read : List ℕ) (now : ℕ) (old new : Store) : Type 0 where
  pub good : is_file_key k ≡ true
  pub found : is_some (lookup (bytes_eq k) old.index) ≡ true
  pub bytes : HasBytes k read new.disk
  pub index : new.index ≡ touched (bytes_eq k) old.index
  pub pending : new.pending ≡ old.pending
  pub capacity : new.capacity ≡ old.capacity
  pub disk : Does (Touched k now ∷ []) old.disk new.disk

-- the index after a read was refused: the key went last where it was found
abbrev pub used_unless : Error → List ℕ → List (List ℕ × ℕ) → List (List ℕ × ℕ)
used_unless BadKey k index = index
used_unless FileNotInCache k index = index
used_unless refused k index = touched (bytes_eq k) index

-- the file may have got its moment, once its key was found
abbrev pub touches_unless : Error → Bool → Type 0
touches_unless BadKey touches = touches ≡ false
touches_unless FileNotInCache touches = touches ≡ false
touches_unless refused touches = Unit {0}

pub record RefusesGet (refused : Error) (k : List ℕ) (now : ℕ) (touches : Bool) (old new : Store) : Type 0 where
  pub cause : GetCause (is_file_key k) (is_some (lookup (bytes_eq k) old.index)) old.disk.faults new.disk.faults refused
  pub index : new.index ≡ used_unless refused k old.index
  pub touch : touches_unless refused touches
  pub pending : new.pending ≡ old.pending
  pub capacity : new.capacity ≡ old.capacity
  pub disk : Does (touched_by touches k now) old.disk new.disk

-- a key's file and its pair are removed, if there are any
pub record Removes (k : List ℕ) (old new : Store) : Type 0 where
  pub good : is_file_key k ≡ true
  pub index : new.index ≡ remove_entry (bytes_eq k) old.index
  pub pending : new.pending ≡ old.pending
  pub capacity : new.capacity ≡ old.capacity
  pub disk : Does (removed_by (is_some (lookup (bytes_eq k) old.index)) k) old.disk new.disk
