-- What a daemon's store tells of itself, and the counters that its levels begin with.
use Rattle.std.specs.Prelude.{ℕ, suc, ◌&&◌, not, List, [], ◌∷◌, ◌++◌, codes, decimal, length, map, Option, Some, None}
use Rattle.sc_entry.specs.declared.cache_mode.CacheMode.{CacheMode}
use Rattle.sc_model.specs.Describing.{all_read_only, mode_of, some_size}
use Rattle.sc_model.specs.Plan.{is_none}
use Rattle.sc_model.specs.declared.level.LevelFacts.{LevelFacts}
use Rattle.sc_model.specs.declared.level.LevelKind.{LevelKind}
use Rattle.sc_model.specs.declared.level.LevelKind.TheVariants.{Disk, Remote}
use Rattle.sc_model.specs.declared.level.Policy.{Policy}
use Rattle.sc_model.specs.declared.level.Policy.TheVariants.{Levels, Single}
use Rattle.sc_stats.specs.Sums.{no_level_stats, sat}
use Rattle.sc_stats.specs.declared.counters.LevelStats.{LevelStats}
use Rattle.sc_store.specs.Held.{Title}
use Rattle.sc_store.specs.Levels.{held_level}
use Rattle.sc_store.specs.declared.level.Level.{Level}

-- the titles of these levels
abbrev pub titles_of : {R : Type 0} {D : Type 0} {V : Type 0} → List (Level R D V) → List Title
titles_of levels = map (λ l. (held_level l).title) levels

abbrev pub first_type : List Title → List ℕ
first_type [] = []
first_type (t ∷ ts) = t.type_name

abbrev pub first_location : List Title → List ℕ
first_location [] = []
first_location (t ∷ ts) = t.location

-- A store that stands alone tells its own; levels have no type in common.
abbrev pub store_type : Policy → List Title → List ℕ
store_type Single ts = first_type ts
store_type (Levels ps) ts = codes "unknown"

abbrev pub store_location : Policy → List Title → List ℕ
store_location Single ts = first_location ts
store_location (Levels ps) ts = codes "Multi-level (" ++ decimal (length ts) ++ codes " levels)"

-- the most that a store of a kind may take; a remote store tells none
abbrev pub kind_max : LevelKind → ℕ → Option ℕ
kind_max Disk capacity = Some capacity
kind_max Remote capacity = None

abbrev pub level_max : LevelFacts → Option ℕ
level_max f = kind_max f.kind f.capacity

abbrev pub first_max : List LevelFacts → Option ℕ
first_max [] = None
first_max (f ∷ fs) = level_max f

abbrev pub known : Option ℕ → ℕ
known None = 0
known (Some n) = n

-- what is known of all levels, added to what was summed so far; it stops at the end of u64
abbrev pub max_onto : ℕ → List LevelFacts → ℕ
max_onto so_far [] = so_far
max_onto so_far (f ∷ fs) = max_onto (sat so_far (known (level_max f))) fs

-- the most that the store may take, where that is known
abbrev pub store_max : Policy → List LevelFacts → Option ℕ
store_max Single fs = first_max fs
store_max (Levels ps) fs = some_size (max_onto 0 fs)

-- the mode of the store: read-only where there are levels and each is
abbrev pub store_mode : List LevelFacts → CacheMode
store_mode fs = mode_of (not (is_none fs) && all_read_only fs)

abbrev pub level_name : ℕ → List ℕ → List ℕ
level_name n type_name = codes "L" ++ (decimal n ++ (codes " (" ++ (type_name ++ codes ")")))

-- the counters of levels of which nothing was counted, by their names and places
abbrev pub new_counters : ℕ → List Title → List LevelStats
new_counters n [] = []
new_counters n (t ∷ ts) = record no_level_stats { name = level_name n t.type_name; location = t.location } ∷ new_counters (suc n) ts
