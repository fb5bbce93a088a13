-- What a stop leaves of a disk's files, and what that is of those that are no temporaries.
use Rattle.std.specs.Prelude.{◌≡◌, ◌⊎◌, ℕ, ◌≤◌, Bool, true, false, not, bytes_eq, cond, List, [], ◌∷◌, ◌++◌, take, Option, Some, None}
use Rattle.std.specs.List.{filter}
use Rattle.std.specs.Option.{option_map}
use Rattle.sc_entry.specs.Causes.{IfTold}
use Rattle.sc_lru.specs.LruCache.{total}
use Rattle.sc_disk.specs.declared.disk_file.DiskFile.{DiskFile}
use Rattle.sc_disk.specs.Disks.{Changes, DiskFiles, DiskState, change, disk_file, disk_file_at, files_now, listing, replay}
use Rattle.sc_disk.specs.Names.{is_temporary_path}
use Rattle.sc_disk.specs.Opening.{pairs_of}
use Rattle.sc_disk.specs.Store.{size_of}
use Rattle.sc_disk.specs.declared.change.Change.{Change}
use Rattle.sc_disk.specs.declared.change.Change.TheVariants.{Made, Added, Touched, Moved, Gone}
use Rattle.sc_disk.specs.declared.disk.Listed.{Listed}

-- inside a change: an append has left a front of its bytes
abbrev pub Torn : Change → DiskFiles → DiskFiles → Type 0
Torn (Made path now) f c = ⊥
Torn (Added path bytes) f c = (n : ℕ) × (c ≡ change (Added path (take n bytes)) f)
Torn (Touched path now) f c = ⊥
Torn (Moved from to) f c = ⊥
Torn (Gone path) f c = ⊥

-- a stop before, after or inside one of these changes of the files f, of which the newest stands first, leaves c
abbrev pub LeftBy : DiskFiles → List Change → DiskFiles → Type 0
LeftBy f [] c = c ≡ f
LeftBy f (x ∷ xs) c = (c ≡ replay f (x ∷ xs)) ⊎ (Torn x (replay f xs) c ⊎ LeftBy f xs c)

-- what a call does to a file that is no temporary
pub data Effect : Type 0 where
  -- it is removed
  Removed : List ℕ → Effect
  -- it gets this moment
  Used : List ℕ → ℕ → Effect
  -- a file of this moment and these bytes stands there, in place of any that stood there
  Stored : List ℕ → ℕ → List ℕ → Effect

-- the file at each path, if there is one
abbrev pub Standing : Type 0
Standing = List ℕ → Option DiskFile

-- what stands at a path after these effects, of which the newest stands first
abbrev pub stood : Standing → List Effect → Standing
stood at [] q = at q
stood at (Removed k ∷ es) q = cond (bytes_eq q k) None (stood at es q)
stood at (Used k now ∷ es) q = cond (bytes_eq q k) (option_map (λ file. disk_file now file.bytes) (stood at es q)) (stood at es q)
stood at (Stored k now bytes ∷ es) q = cond (bytes_eq q k) (Some (disk_file now bytes)) (stood at es q)

-- the files that are no temporaries are those that stand
abbrev pub Shows : DiskFiles → Standing → Type 0
Shows c at = (q : List ℕ) → is_temporary_path q ≡ false → disk_file_at c q ≡ at q

-- the oldest of the effects were had, and show
pub record HasHad (es : List Effect) (f c : DiskFiles) : Type 0 where
  pub rest : List Effect
  pub had : List Effect
  pub all : rest ++ had ≡ es
  pub shows : Shows c (stood (disk_file_at f) had)

-- the files of a list that are no temporaries
abbrev pub shown_of : List Listed → List Listed
shown_of all = filter (λ e. not (is_temporary_path e.path)) all

-- the files that are no temporaries take at most the capacity
abbrev pub IsWithin : ℕ → DiskFiles → Type 0
IsWithin capacity c = total size_of (pairs_of (shown_of (listing c))) ≤ capacity

-- Files were changed with these effects: whatever a stop on the way leaves, the oldest of the effects show, and the files
-- that are no temporaries take at most the capacity.
pub record Keeps (capacity : ℕ) (xs : List Change) (es : List Effect) (f : DiskFiles) : Type 0 where
  pub left : (c : DiskFiles) → LeftBy f xs c → HasHad es f c
  pub within : (c : DiskFiles) → LeftBy f xs c → IsWithin capacity c
  pub after : Shows (replay f xs) (stood (disk_file_at f) es)

-- the same of a disk, where it tells
pub record Moments (capacity : ℕ) (es : List Effect) (old new : DiskState) : Type 0 where
  pub changes : List Change
  pub did : Changes changes old new
  pub moments : IfTold old.told (λ r. Keeps capacity changes es (files_now r))

-- removals of these paths, the first of them first; the newest effect stands first
abbrev pub removals : List (List ℕ) → List Effect
removals [] = []
removals (k ∷ ks) = removals ks ++ Removed k ∷ []

-- a removal, or a use, that was made or not
abbrev pub removals_by : Bool → List ℕ → List Effect
removals_by true k = Removed k ∷ []
removals_by false k = []

abbrev pub used_by : Bool → List ℕ → ℕ → List Effect
used_by true k now = Used k now ∷ []
used_by false k now = []

-- calls one after another, each with its effects; the newest call stands first
abbrev pub Calls : ℕ → List (List Effect) → DiskState → DiskState → Type 0
Calls capacity [] a b = b ≡ a
Calls capacity (es ∷ before) a b = (mid : DiskState) × Calls capacity before a mid × Moments capacity es mid b

-- all their effects
abbrev pub effects_of : List (List Effect) → List Effect
effects_of [] = []
effects_of (es ∷ before) = es ++ effects_of before
