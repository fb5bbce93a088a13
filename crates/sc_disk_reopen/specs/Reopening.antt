-- What a store is that is opened on what a stop left.
use Rattle.std.specs.Prelude.{◌≡◌, ℕ, cond, List, ◌++◌, Some, None}
use Rattle.std.specs.List.{filter}
use Rattle.std.specs.List.Sorted.{IsPermutation, IsSorted}
use Rattle.sc_entry.specs.Causes.{IfTold}
use Rattle.sc_disk.specs.Disks.{Changes, DiskFiles, DiskRecord, DiskState, Does, disk_file_at, files_now, listing}
use Rattle.sc_disk.specs.Lazy.{IsOpened}
use Rattle.sc_disk.specs.Names.{is_temporary_path}
use Rattle.sc_disk.specs.Opening.{pairs_of, paths_of, use_cmp}
use Rattle.sc_disk.specs.Sound.{IsSound}
use Rattle.sc_disk.specs.Store.{Store, gone}
use Rattle.sc_disk.specs.declared.change.Change.{Change}
use Rattle.sc_disk.specs.declared.disk.Listed.{Listed}
use Rattle.sc_disk_reopen.specs.Moments.{Calls, Effect, LeftBy, Moments, Shows, Standing, effects_of, shown_of, stood}

-- a stop at some moment between two states of a disk leaves these files
abbrev pub StopsAt : DiskState → DiskState → DiskFiles → Type 0
StopsAt a b c = (xs : List Change) × Changes xs a b × IfTold a.told (λ r. LeftBy (files_now r) xs c)

-- a disk has these files, and tells them
abbrev pub HasTold : DiskFiles → DiskState → Type 0
HasTold c d = (r : DiskRecord) × (d.told ≡ Some r) × (files_now r ≡ c)

-- the files of a list that are temporaries
abbrev pub temporaries_of : List Listed → List Listed
temporaries_of all = filter (λ e. is_temporary_path e.path) all

-- A store was opened on these files, of which those that are no temporaries are those that stand: it indexes all of these,
-- in the order of their moments, then of their paths. It evicted nothing, each is whole, and no temporary is left.
pub record Resumes (c : DiskFiles) (standing : Standing) (old : DiskState) (s : Store) : Type 0 where
  pub stand : Shows c standing
  pub order : List Listed
  pub all : IsPermutation (shown_of (listing c)) order
  pub sorted : IsSorted use_cmp order
  pub index : s.index ≡ pairs_of order
  pub removed : Does (gone (paths_of (temporaries_of (listing c)))) old s.disk
  pub files : IfTold s.disk.told (λ r. (q : List ℕ) → disk_file_at (files_now r) q ≡ cond (is_temporary_path q) None (standing q))

-- A store was opened on a disk that tells, calls followed, and a stop came between two of them. Then a store of the same
-- capacity is opened on the files that were left.
abbrev pub ReopensBetween : Type 0
ReopensBetween = (s t : Store) (r : DiskRecord) (calls : List (List Effect)) (b d : DiskState) (c : DiskFiles)
    → IsSound s → s.disk.told ≡ Some r → Calls s.capacity calls s.disk b → HasTold c b → HasTold c d → IsOpened s.capacity d t
    → Resumes c (stood (disk_file_at (files_now r)) (effects_of calls)) d t

-- The same where the stop came at some moment inside one more call: of its effects the oldest were had.
abbrev pub ReopensInside : Type 0
ReopensInside = (s t : Store) (r : DiskRecord) (calls : List (List Effect)) (es : List Effect) (a b d : DiskState) (c : DiskFiles)
    → IsSound s → s.disk.told ≡ Some r → Calls s.capacity calls s.disk a → Moments s.capacity es a b → StopsAt a b c → HasTold c d → IsOpened s.capacity d t
    → (rest : List Effect) × (had : List Effect) × (rest ++ had ≡ es) × Resumes c (stood (disk_file_at (files_now r)) (had ++ effects_of calls)) d t
