-- What a disk in memory holds and tells.
use Rattle.std.specs.Prelude.{◌≡◌, ℕ, ◌≤◌, Bool, true, false, ◌||◌, List, [], ◌++◌, Some, is_some, not, Result, Ok, Err}
use Rattle.std.specs.Coded.{Coded, coded_ℕ, coded_list}
use Rattle.std.specs.FinMap as map
use Rattle.sc_entry.specs.Failing.{fails_at, faults_after, one_more}
use Rattle.sc_entry.specs.declared.calls.Calls.{Calls}
use Rattle.sc_disk.specs.Disks.{DiskFiles, DiskState, OutsideFiles, disk_file_at, no_disk_files, outside_file_at, replay}
use Rattle.sc_disk.specs.contracts.disk_file.DiskFile as file_type
use Rattle.sc_disk.specs.declared.change.Change.{Change}
use Rattle.sc_disk.specs.declared.disk.DiskError.{DiskError}
use Rattle.sc_disk.specs.declared.disk.DiskError.TheVariants as disk_errors
use Rattle.sc_disk.specs.declared.disk_file.DiskFile.{DiskFile}

abbrev pub disk_files_code : Coded DiskFiles
disk_files_code = map.code (coded_list coded_ℕ) file_type.the_row.coded

abbrev pub disk_files_of : List (List ℕ × DiskFile) → DiskFiles
disk_files_of entries = map.from_entries entries

abbrev pub outside_of : List (List ℕ × List ℕ) → OutsideFiles
outside_of entries = map.from_entries entries

-- a disk in memory: its root, what stands outside, the changes since it was made, the newest first, and its calls
pub record Memory : Type 0 where
  pub root : List ℕ
  pub outside : List (List ℕ × List ℕ)
  pub done : List Change
  pub calls : Calls

abbrev pub memory : List ℕ → List (List ℕ × List ℕ) → List Change → Calls → Memory
memory root outside done calls = record { root = root; outside = outside; done = done; calls = calls }

-- its files now
abbrev pub held_files : Memory → DiskFiles
held_files m = replay no_disk_files m.done

-- what it tells: it had no file at first and tells its calls, and it isn't divided
abbrev pub memory_state : Memory → DiskState
memory_state m = record { told = Some (record { outside = outside_of m.outside; first = no_disk_files; done = m.done }); faults = m.calls.faults; calls = Some m.calls; root = m.root; divided = false; letters = [] }

-- no file stands at the path
abbrev pub lacks : Memory → List ℕ → Bool
lacks m path = not (is_some (disk_file_at (held_files m) path))

-- nothing stands at the outside path
abbrev pub lacks_outside : Memory → List ℕ → Bool
lacks_outside m path = not (is_some (outside_file_at (outside_of m.outside) path))

-- a fault where the call is refused, and only there
abbrev pub FaultWhere : {A : Type 0} → Bool → Result A DiskError → Type 0
FaultWhere refused (Ok a) = refused ≡ false
FaultWhere refused (Err disk_errors.NoMemory) = refused ≡ false
FaultWhere refused (Err disk_errors.Fault) = refused ≡ true

-- the disk after these changes more, of which the newest stands first
abbrev pub with_changes : List Change → Memory → Memory
with_changes xs m = memory m.root m.outside (xs ++ m.done) m.calls

-- these changes were made, and no others
pub record Alters (xs : List Change) (old new : Memory) : Type 0 where
  pub root : new.root ≡ old.root
  pub outside : new.outside ≡ old.outside
  pub done : new.done ≡ xs ++ old.done
  pub faults : old.calls.faults ≤ new.calls.faults

-- A call was counted. It is refused where its number is to fail or what it needs is absent, and counts that fault.
pub record Counts (absent : Bool) (old new : Calls) (is_refused : Bool) : Type 0 where
  pub made : new.made ≡ one_more old.made
  pub failing : (number : ℕ) → fails_at new number ≡ fails_at old number
  pub refused : is_refused ≡ (fails_at old new.made || absent)
  pub faults : new.faults ≡ faults_after is_refused old.faults

-- One call: it is counted, and answers a fault exactly where it is refused.
abbrev pub Answers : {A : Type 0} → Bool → Memory → Memory → Result A DiskError → Type 0
Answers absent old new answer = (refused : Bool) × Counts absent old.calls new.calls refused × FaultWhere refused answer
