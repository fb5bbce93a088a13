-- What a contract sees of a disk store of two folders, whether it is opened or not.
use Rattle.std.specs.Prelude.{ℕ, suc, ◌-◌, Bool, true, false, cond, is_some, List, [], ◌∷◌, length, Option, Some, None, slice_index_or}
use Rattle.std.specs.FinMap as map
use Rattle.std.specs.Option.{option_map}
use Rattle.sc_disk.specs.Disks.{DiskFiles, DiskRecord, DiskState, files_now, listing, no_disk_files, untold_disk}
use Rattle.sc_disk.specs.Names.{temporary}
use Rattle.sc_disk.specs.Opening.{pairs_of}
use Rattle.sc_disk.specs.Store.{Store, declared, size_of}
use Rattle.sc_disk.specs.declared.disk.Disk as device
use Rattle.sc_disk.specs.declared.pending.Pending.{Pending}
use Rattle.sc_entry.specs.Keys.{make_key_path}
use Rattle.sc_lru.specs.LruCache.{total}
use Rattle.sc_entry.specs.declared.cache_mode.CacheMode.{CacheMode}
use Rattle.sc_model.specs.Levels.{Files, Level, find_file}
use Rattle.sc_model.specs.declared.level.LevelFacts.{LevelFacts}
use Rattle.sc_model.specs.declared.level.LevelKind.TheVariants.{Disk}
use Rattle.sc_disk_pair.specs.Pairs.{index_of, own_key}
use Rattle.sc_disk_pair.specs.Parts.{cut_part, in_part}
use Rattle.sc_disk_pair.specs.Twos.{TwoState, joined_state}
use Rattle.sc_disk_pair.specs.declared.pair_cache.PairCache.{PairCache}
use Rattle.sc_disk_pair.specs.declared.part.Part.TheVariants.{Main, Pre}
use Rattle.sc_store_disk.specs.Devices.{calls_of}
use Rattle.sc_store_disk.specs.Marks.{Marks, fills_of}
use Rattle.sc_store_disk.specs.Reopened.{reopened}
use Rattle.sc_store_disk.specs.Shown.{Index, bytes_at, files_of}
use Rattle.sc_store_disk.specs.declared.entry_cache.EntryCache.{EntryCache}

-- An open entry: the path of its file among those of both folders, the bytes that it declared, those that it was filled with,
-- and what its fills came to: nothing before the first, then its mark.
pub record OpenEntry : Type 0 where
  pub path : List ℕ
  pub size : ℕ
  pub bytes : List ℕ
  pub fills : Option Bool

-- A disk store: what does not change of it, whether its disks tell what they hold, what it holds where they tell that, the
-- bytes that its open entries have declared, and the open entries by their numbers.
pub record DiskStore : Type 0 where
  pub facts : LevelFacts
  pub told : Bool
  pub level : Level
  pub reserved : ℕ
  pub entries : List (Option OpenEntry)

-- the files of a disk, where it tells them
abbrev pub told_files : Option DiskRecord → DiskFiles
told_files None = no_disk_files
told_files (Some r) = files_now r

abbrev pub disk_facts : CacheMode → ℕ → List ℕ → LevelFacts
disk_facts mode capacity root = record { kind = Disk; wrapped = false; configured = mode; mode = mode; capacity = capacity; root = root }

-- the files of this index, on this disk, without marks
abbrev pub level_of : Bool → Index → DiskState → Level
level_of opened index d = record { faults = d.faults; losses = 0; calls = option_map calls_of d.calls; opened = opened; stale = 0; main = files_of Main index (told_files d.told); pre = files_of Pre index (told_files d.told); marks = []; written = None }

-- how many of these files are of the main part
abbrev pub main_files : Index → ℕ
main_files index = length (index_of Main index)

-- the main files that an opening is to remove: those that stand there, but for those that it keeps
abbrev pub stale_of : ℕ → Option DiskRecord → ℕ
stale_of capacity None = 0
stale_of capacity (Some r) = main_files (pairs_of (listing (files_now r))) - main_files (reopened capacity (files_now r))

abbrev pub bytes_or : Option (List ℕ) → List ℕ
bytes_or None = []
bytes_or (Some bytes) = bytes

abbrev pub open_entry : Bool → DiskFiles → ℕ → Pending → OpenEntry
open_entry divided f number p = record { path = p.key; size = p.size; bytes = bytes_or (bytes_at f (temporary divided p.key number)); fills = None }

-- the open entries from this number on
abbrev pub entries_from : Bool → DiskFiles → ℕ → List (Option Pending) → List (Option OpenEntry)
entries_from divided f number [] = []
entries_from divided f number (slot ∷ slots) = option_map (open_entry divided f number) slot ∷ entries_from divided f (suc number) slots

abbrev pub entries_of : Store → List (Option OpenEntry)
entries_of s = entries_from s.disk.divided (told_files s.disk.told) 0 s.pending.slots

-- the open entry of a number, if there is one
abbrev pub entry_at : List (Option OpenEntry) → ℕ → Option OpenEntry
entry_at entries number = slice_index_or entries number None

-- where the file of a store key stands, among those of both folders
abbrev pub entry_path : List ℕ → List ℕ
entry_path key = in_part Main (make_key_path key)

-- a store that is opened
abbrev pub opened_store : CacheMode → ℕ → Store → DiskStore
opened_store mode capacity s = record {
  facts = disk_facts mode capacity s.disk.root;
  told = is_some s.disk.told;
  level = level_of true s.index s.disk;
  reserved = declared s.pending.slots;
  entries = entries_of s;
}

-- one that isn't, on this disk
abbrev pub unopened_store : CacheMode → ℕ → DiskState → DiskStore
unopened_store mode capacity d = record {
  facts = disk_facts mode capacity d.root;
  told = is_some d.told;
  level = record (level_of false (reopened capacity (told_files d.told)) d) { stale = stale_of capacity d.told };
  reserved = 0;
  entries = [];
}

abbrev pub state_of : Option TwoState → DiskState
state_of None = untold_disk [] 0
state_of (Some t) = joined_state t

abbrev pub store_of : {D : Type 0} → CacheMode → ℕ → Option (PairCache D) → Option TwoState → DiskStore
store_of mode capacity (Some c) t = opened_store mode capacity c.store
store_of mode capacity None t = unopened_store mode capacity (state_of t)

-- a marked path, where it is of the main part and a file stands there
abbrev pub with_marked : Option (List ℕ) → Files → List (List ℕ) → List (List ℕ)
with_marked None files paths = paths
with_marked (Some path) files paths = cond (is_some (find_file files path)) (path ∷ paths) paths

-- of marked paths, which are among those of both folders, those of the main part at which a file stands
abbrev pub shown_marks : List (List ℕ) → Files → List (List ℕ)
shown_marks [] files = []
shown_marks (q ∷ qs) files = with_marked (own_key Main (cut_part q)) files (shown_marks qs files)

abbrev pub level_with : Marks → Level → Level
level_with marks v = record v { marks = shown_marks marks.files v.main }

abbrev pub with_fills : Option Bool → OpenEntry → OpenEntry
with_fills fills o = record o { fills = fills }

-- the open entries from this number on, with what their fills came to
abbrev pub entries_with : Marks → ℕ → List (Option OpenEntry) → List (Option OpenEntry)
entries_with marks number [] = []
entries_with marks number (slot ∷ slots) = option_map (with_fills (fills_of marks number)) slot ∷ entries_with marks (suc number) slots

-- a store with the marks that are kept of it
abbrev pub with_marks : Marks → DiskStore → DiskStore
with_marks marks s = record s { level = level_with marks s.level; entries = entries_with marks 0 s.entries }

-- what a store holds but for its marks, and with them
abbrev pub bare_disk : {D : Type 0} {g : device.Ghosts D} → EntryCache D g → DiskStore
bare_disk c = store_of c.mode c.pair.max_size c.pair.opened c.pair.disks

abbrev pub held_disk : {D : Type 0} {g : device.Ghosts D} → EntryCache D g → DiskStore
held_disk c = with_marks c.marks (bare_disk c)

-- the bytes of the files that it indexes, or that an opening would, whether or not its disks tell what they hold
abbrev pub bytes_of : {D : Type 0} → ℕ → Option (PairCache D) → Option TwoState → ℕ
bytes_of capacity (Some c) t = total size_of c.store.index
bytes_of capacity None t = total size_of (reopened capacity (told_files (state_of t).told))

abbrev pub indexed_bytes : {D : Type 0} {g : device.Ghosts D} → EntryCache D g → ℕ
indexed_bytes c = bytes_of c.pair.max_size c.pair.opened c.pair.disks

-- how many files these are
abbrev pub count_of : Files → ℕ
count_of files = length (map.entries files)

-- where a store is opened, the bytes of its files and those that are reserved
abbrev pub if_opened : Bool → ℕ → Option ℕ
if_opened true size = Some size
if_opened false size = None
