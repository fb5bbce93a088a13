-- What the stores of a daemon hold, level by level.
use Rattle.std.specs.Prelude.{◌≡◌, ◌≤◌, ◌+◌, ℕ, Bool, true, false, ◌&&◌, ◌==◌, List, [], ◌∷◌, ◌++◌, codes, map, Option, Some, None, is_some, slice_index_or, refl}
use Rattle.std.specs.Str.Lossy.{utf8_lossy}
use Rattle.std.specs.Coded.{Coded, code_by, coded×, coded_bool, coded_ℕ, coded_list, coded_option}
use Rattle.std.specs.FinSet as set
use Rattle.sc_store_disk.specs.DiskStores.{DiskStore, OpenEntry, with_marked}
use Rattle.sc_store_disk.specs.Marks.{Marks, marks_code, no_marks}
use Rattle.sc_model.specs.Devices.{Calls, Numbers}
use Rattle.sc_model.specs.Plan.{level_facts}
use Rattle.sc_model.specs.Evicting.{part_size}
use Rattle.sc_model.specs.Levels.{Files, Level, no_files, no_level_held}
use Rattle.sc_model.specs.contracts.level.LevelFacts as facts_type
use Rattle.sc_model.specs.contracts.level.Policy as policy_type
use Rattle.sc_model.specs.declared.level.LevelFacts.{LevelFacts}
use Rattle.sc_model.specs.declared.level.LevelKind.TheVariants.{Disk, Remote}
use Rattle.sc_model.specs.declared.level.Policy.{Policy}
use Rattle.sc_entry.specs.declared.cache_mode.CacheMode.{CacheMode}
use Rattle.sc_store.specs.Paths.{files_code}

-- What a store behind a network is called: its kind, its name among those of its kind, and the path that all paths in it
-- begin at.
pub record Names : Type 0 where
  pub scheme : List ℕ
  pub name : List ℕ
  pub root : List ℕ

-- What a store was made with, besides its modes: the base directories that paths are stripped of, in order, whether it is
-- to keep entries of the preprocessor, and whether a check of it is left out.
pub record Given : Type 0 where
  pub basedirs : List (List ℕ)
  pub flag : Bool
  pub unchecked : Bool

abbrev pub nothing_given : Given
nothing_given = record { basedirs = []; flag = false; unchecked = false }

-- a remote store keeps no entries of the preprocessor
abbrev pub remote_given : List (List ℕ) → Bool → Given
remote_given basedirs unchecked = record { basedirs = basedirs; flag = false; unchecked = unchecked }

-- the check of a disk store makes no call
abbrev pub disk_given : List (List ℕ) → Bool → Given
disk_given basedirs flag = record { basedirs = basedirs; flag = flag; unchecked = false }

-- How a store is told of: what type it has, where it is, and what it was made with. No call changes that.
pub record Title : Type 0 where
  pub type_name : List ℕ
  pub location : List ℕ
  pub given : Given

abbrev pub remote_title : Names → Given → Title
remote_title names given = record { type_name = names.scheme; location = names.scheme ++ codes ", name: " ++ names.name ++ codes ", prefix: " ++ names.root; given = given }

-- a store in memory
abbrev pub memory_names : Names
memory_names = record { scheme = codes "memory"; name = codes "m"; root = codes "/" }

-- a disk store
abbrev pub disk_title : List ℕ → Given → Title
disk_title root given = record { type_name = codes "disk"; location = codes "Local disk: \"" ++ utf8_lossy root ++ codes "\""; given = given }

-- beyond the last level
abbrev pub no_title : Title
no_title = record { type_name = []; location = []; given = nothing_given }

abbrev pub title_in : List Title → ℕ → Title
title_in titles l = slice_index_or titles l no_title

-- What is open at a level: the bytes that its open entries have declared, and these by their numbers. A remote level has none.
pub record Room : Type 0 where
  pub reserved : ℕ
  pub entries : List (Option OpenEntry)

abbrev pub no_room : Room
no_room = record { reserved = 0; entries = [] }

-- One level: what does not change of it, whether it tells what it holds, what it holds where it tells that, what is open, and
-- which of its files and open entries a local run made.
pub record HeldLevel : Type 0 where
  pub title : Title
  pub facts : LevelFacts
  pub told : Bool
  pub level : Level
  pub room : Room
  pub marks : Marks

-- The levels of a daemon in order, its policy, whether every level tells what it holds, what is open at each, and what a local
-- run made there.
pub record Held : Type 0 where
  pub titles : List Title
  pub facts : List LevelFacts
  pub policy : Policy
  pub told : Bool
  pub levels : List Level
  pub rooms : List Room
  pub marks : List Marks

-- what is known of a map that may not be told
abbrev pub told_files : Option Files → Files
told_files None = no_files
told_files (Some files) = files

-- The mode that a store was made with, and the one that holds.
pub record Modes : Type 0 where
  pub configured : CacheMode
  pub mode : CacheMode

abbrev pub modes_of : CacheMode → CacheMode → Modes
modes_of configured mode = record { configured = configured; mode = mode }

-- until a check finds another
abbrev pub as_configured : CacheMode → Modes
as_configured mode = modes_of mode mode

-- a remote store has neither a size nor a root
abbrev pub remote_facts : Modes → LevelFacts
remote_facts modes = record { kind = Remote; wrapped = false; configured = modes.configured; mode = modes.mode; capacity = 0; root = [] }

-- of the marked paths those at which bytes stand
abbrev pub marks_there : List (List ℕ) → Files → List (List ℕ)
marks_there [] files = []
marks_there (path ∷ paths) files = with_marked (Some path) files (marks_there paths files)

-- what reached what is behind a remote, in order
abbrev pub Reached : Type 0
Reached = List (List ℕ × List ℕ)

abbrev pub remote_level : Option Files → ℕ → ℕ → Option Calls → Option Reached → Marks → Level
remote_level held faults losses calls reached marks = record { faults = faults; losses = losses; calls = calls; opened = false; stale = 0; main = told_files held; pre = no_files; marks = marks_there marks.files (told_files held); written = reached }

abbrev pub held_remote : Names → Given → Modes → Option Files → ℕ → ℕ → Option Calls → Option Reached → Marks → HeldLevel
held_remote names given modes held faults losses calls reached marks = record { title = remote_title names given; facts = remote_facts modes; told = is_some held; level = remote_level held faults losses calls reached marks; room = no_room; marks = marks }

-- a disk store as a level
abbrev pub of_disk : Given → DiskStore → HeldLevel
of_disk given s = record { title = disk_title s.facts.root given; facts = s.facts; told = s.told; level = s.level; room = record { reserved = s.reserved; entries = s.entries }; marks = no_marks }

-- a level with these marks
abbrev pub marked : Marks → HeldLevel → HeldLevel
marked marks h = record h { marks = marks }

abbrev pub all_tell : List HeldLevel → Bool
all_tell [] = true
all_tell (l ∷ ls) = l.told && all_tell ls

abbrev pub held_of : List HeldLevel → Policy → Held
held_of ls policy = record { titles = map (λ l. l.title) ls; facts = map (λ l. l.facts) ls; policy = policy; told = all_tell ls; levels = map (λ l. l.level) ls; rooms = map (λ l. l.room) ls; marks = map (λ l. l.marks) ls }

-- what a level holds; beyond the last level nothing
abbrev pub level_in : List Level → ℕ → Level
level_in levels l = slice_index_or levels l no_level_held

-- what is open at a level; beyond the last level nothing
abbrev pub room_in : List Room → ℕ → Room
room_in rooms l = slice_index_or rooms l no_room

-- what a local run made at a level; beyond the last level nothing
abbrev pub marks_in : List Marks → ℕ → Marks
marks_in marks l = slice_index_or marks l no_marks

-- a level as a disk store
abbrev pub disk_of : HeldLevel → DiskStore
disk_of h = record { facts = h.facts; told = h.told; level = h.level; reserved = h.room.reserved; entries = h.room.entries }

-- a level of levels that all tell, or do not, as a disk store
abbrev pub disk_in : Held → ℕ → DiskStore
disk_in h l = record { facts = level_facts h.facts l; told = h.told; level = level_in h.levels l; reserved = (room_in h.rooms l).reserved; entries = (room_in h.rooms l).entries }

-- a disk level's files and reservations take at most its capacity
abbrev pub IsWithin : LevelFacts → Level → Room → Type 0
IsWithin f v r = f.kind ≡ Disk → part_size v + r.reserved ≤ f.capacity

abbrev pub AreWithin : Held → Type 0
AreWithin h = (l : ℕ) → IsWithin (level_facts h.facts l) (level_in h.levels l) (room_in h.rooms l)

-- nothing is reserved at any level
abbrev pub are_unreserved : List Room → Bool
are_unreserved [] = true
are_unreserved (r ∷ rs) = (r.reserved == 0) && are_unreserved rs

-- codes, by which proofs tell values apart
abbrev pub calls_code : Coded Calls
calls_code = code_by (Numbers × ℕ) (coded× (set.code coded_ℕ) coded_ℕ)
    (λ c. (c.failing, c.made))
    (λ p. record { failing = p.0; made = p.1 })
    (λ _. refl)

abbrev pub level_code : Coded Level
level_code = code_by (ℕ × (ℕ × (Option Calls × (Bool × (ℕ × (Files × (Files × (List (List ℕ) × Option Reached))))))))
    (coded× coded_ℕ (coded× coded_ℕ (coded× (coded_option calls_code) (coded× coded_bool (coded× coded_ℕ (coded× files_code (coded× files_code
    (coded× (coded_list (coded_list coded_ℕ)) (coded_option (coded_list (coded× (coded_list coded_ℕ) (coded_list coded_ℕ))))))))))))
    (λ v. (v.faults, (v.losses, (v.calls, (v.opened, (v.stale, (v.main, (v.pre, (v.marks, v.written)))))))))
    (λ p. record { faults = p.0; losses = p.1.0; calls = p.1.1.0; opened = p.1.1.1.0; stale = p.1.1.1.1.0; main = p.1.1.1.1.1.0; pre = p.1.1.1.1.1.1.0; marks = p.1.1.1.1.1.1.1.0; written = p.1.1.1.1.1.1.1.1 })
    (λ _. refl)

abbrev pub given_code : Coded Given
given_code = code_by (List (List ℕ) × (Bool × Bool))
    (coded× (coded_list (coded_list coded_ℕ)) (coded× coded_bool coded_bool))
    (λ g. (g.basedirs, (g.flag, g.unchecked)))
    (λ p. record { basedirs = p.0; flag = p.1.0; unchecked = p.1.1 })
    (λ _. refl)

abbrev pub title_code : Coded Title
title_code = code_by (List ℕ × (List ℕ × Given))
    (coded× (coded_list coded_ℕ) (coded× (coded_list coded_ℕ) given_code))
    (λ t. (t.type_name, (t.location, t.given)))
    (λ p. record { type_name = p.0; location = p.1.0; given = p.1.1 })
    (λ _. refl)

abbrev pub entry_code : Coded OpenEntry
entry_code = code_by (List ℕ × (ℕ × (List ℕ × Option Bool)))
    (coded× (coded_list coded_ℕ) (coded× coded_ℕ (coded× (coded_list coded_ℕ) (coded_option coded_bool))))
    (λ o. (o.path, (o.size, (o.bytes, o.fills))))
    (λ p. record { path = p.0; size = p.1.0; bytes = p.1.1.0; fills = p.1.1.1 })
    (λ _. refl)

abbrev pub room_code : Coded Room
room_code = code_by (ℕ × List (Option OpenEntry))
    (coded× coded_ℕ (coded_list (coded_option entry_code)))
    (λ r. (r.reserved, r.entries))
    (λ p. record { reserved = p.0; entries = p.1 })
    (λ _. refl)

abbrev pub held_level_code : Coded HeldLevel
held_level_code = code_by (Title × (LevelFacts × (Bool × (Level × (Room × Marks)))))
    (coded× title_code (coded× facts_type.the_row.coded (coded× coded_bool (coded× level_code (coded× room_code marks_code)))))
    (λ l. (l.title, (l.facts, (l.told, (l.level, (l.room, l.marks))))))
    (λ p. record { title = p.0; facts = p.1.0; told = p.1.1.0; level = p.1.1.1.0; room = p.1.1.1.1.0; marks = p.1.1.1.1.1 })
    (λ _. refl)

abbrev pub held_code : Coded Held
held_code = code_by (List Title × (List LevelFacts × (Policy × (Bool × (List Level × (List Room × List Marks))))))
    (coded× (coded_list title_code)
    (coded× (coded_list facts_type.the_row.coded) (coded× policy_type.the_row.coded (coded× coded_bool (coded× (coded_list level_code) (coded× (coded_list room_code) (coded_list marks_code)))))))
    (λ h. (h.titles, (h.facts, (h.policy, (h.told, (h.levels, (h.rooms, h.marks)))))))
    (λ p. record { titles = p.0; facts = p.1.0; policy = p.1.1.0; told = p.1.1.1.0; levels = p.1.1.1.1.0; rooms = p.1.1.1.1.1.0; marks = p.1.1.1.1.1.1 })
    (λ _. refl)
