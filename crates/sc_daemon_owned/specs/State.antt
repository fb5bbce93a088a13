-- The state of a daemon that one owner holds.
use Rattle.std.specs.Prelude.{◌≡◌, ℕ, zero, suc, Bool, true, false, ◌&&◌, ◌==◌, nat_lt, List, [], ◌∷◌, length, Option}
use Rattle.sc_compile.specs.Answers.{Runs}
use Rattle.sc_compile.specs.declared.key_line.KeyLine.{KeyLine}
use Rattle.sc_compile.specs.declared.place_line.PlaceLine.{PlaceLine}
use Rattle.sc_compile.specs.declared.run_line.RunLine.{RunLine}
use Rattle.sc_compile.specs.declared.tool.Tool.{Tool}
use Rattle.sc_compile_dist.specs.Containers.{Contained, container_of}
use Rattle.sc_daemon_job.specs.Setups.{StoreTold}
use Rattle.sc_daemon_owned.specs.Facts.{DaemonFacts, DistTold}
use Rattle.sc_store_disk.specs.DiskStores.{DiskStore}
use Rattle.sc_model.specs.Plan.{level_facts}
use Rattle.sc_model.specs.World.{Place, World}
use Rattle.sc_model.specs.declared.level.LevelFacts.{LevelFacts}
use Rattle.sc_model.specs.declared.level.Policy.{Policy}
use Rattle.sc_model.specs.declared.level.Policy.TheVariants.{Levels, Single}
use Rattle.sc_stats.specs.declared.counters.LevelStats.{LevelStats}
use Rattle.sc_store.specs.Basedirs.{first_flag, store_basedirs}
use Rattle.sc_store.specs.Held.{Held, IsWithin, Room, level_in, room_in}
use Rattle.sc_store.specs.Telling.{new_counters, store_location, store_max, store_type}

abbrev pub is_one : ℕ → Bool
is_one zero = false
is_one (suc zero) = true
is_one (suc (suc n)) = false

-- at most sixteen levels, and one where a store stands alone
abbrev pub is_count : Policy → ℕ → Bool
is_count Single n = is_one n
is_count (Levels ps) n = nat_lt n 17

-- the levels that a daemon may have
abbrev pub is_good : Policy → List LevelFacts → Bool
is_good policy fs = is_count policy (length fs)

-- the limits of a daemon: 1 to 65,535 tokens, and payloads of 1 to 16,777,216 bytes
abbrev pub is_within : ℕ → ℕ → Bool
is_within tokens limit = (nat_lt 0 tokens && nat_lt tokens 65536) && (nat_lt 0 limit && nat_lt limit 16777217)

-- what a daemon may be made of: such levels, each with its counters, and such limits
abbrev pub is_made : Policy → List LevelFacts → List LevelStats → (tokens limit : ℕ) → Bool
is_made policy fs counters tokens limit = (is_good policy fs && is_within tokens limit) && (length counters == length fs)

-- What a daemon is made of, whether its levels tell what they hold, what its parts hold where they tell it, and what is open
-- at its levels.
pub record State : Type 0 where
  pub config : DaemonFacts
  pub told : Bool
  pub world : World
  pub rooms : List Room
  pub one : is_made config.policy config.levels config.counters config.tokens config.limit ≡ true

-- what the store of these levels tells of itself
abbrev pub store_of : Held → StoreTold
store_of held = record { location = store_location held.policy held.titles; type_name = store_type held.policy held.titles; basedirs = store_basedirs held.policy held.titles; flag = first_flag held.titles; max_size = store_max held.policy held.facts }

-- what a distributed client tells
abbrev pub told_by : Contained → DistTold
told_by d = record { url = d.url; status = d.status; lines = d.lines }

-- what a daemon over these levels is made of
abbrev pub facts_of : Held → (tokens limit : ℕ) → Option (List Tool) → Option (List KeyLine) → Option (List RunLine) → Option (List PlaceLine) → Contained → DaemonFacts
facts_of held tokens limit table keys lines refusals d = record {
  store = store_of held;
  counters = new_counters 0 held.titles;
  levels = held.facts;
  policy = held.policy;
  tokens = tokens;
  limit = limit;
  table = table;
  keys = keys;
  lines = lines;
  refusals = refusals;
  dist = told_by d;
}

-- what its parts hold
abbrev pub world_of : (moment : ℕ) → Held → (runs : Option Runs) (placings : Option (List Place)) (faults : ℕ) → Contained → World
world_of moment held runs placings faults d = record {
  moment = moment;
  levels = held.levels;
  runs = runs;
  placings = placings;
  dists = d.jobs;
  shop_faults = faults;
  dist_faults = d.client_faults;
  container = container_of d;
}

-- the bytes that are reserved at a level
abbrev pub reserved_in : State → ℕ → ℕ
reserved_in o l = (room_in o.rooms l).reserved

-- a level as a disk store
abbrev pub disk_at : State → ℕ → DiskStore
disk_at o l = record { facts = level_facts o.config.levels l; told = o.told; level = level_in o.world.levels l; reserved = (room_in o.rooms l).reserved; entries = (room_in o.rooms l).entries }

-- each disk level's files and reservations take at most its capacity
abbrev pub AreLevelsWithin : State → Type 0
AreLevelsWithin o = (l : ℕ) → IsWithin (level_facts o.config.levels l) (level_in o.world.levels l) (room_in o.rooms l)
