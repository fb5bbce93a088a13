-- What calls over levels move.
use Rattle.std.specs.Prelude.{◌≡◌, ℕ, List, length}
use Rattle.sc_store_disk.specs.DiskStores.{entry_at}
use Rattle.sc_stats.specs.declared.counters.LevelStats.{LevelStats}
use Rattle.sc_store.specs.Held.{Held, room_in}

-- The levels, and what is counted at each.
pub record Counted : Type 0 where
  pub held : Held
  pub counters : List LevelStats

abbrev pub counted : Held → List LevelStats → Counted
counted held counters = record { held = held; counters = counters }

-- What no lookup and no put changes: what the levels are, and what is open at them.
pub record Keeps (old new : Held) : Type 0 where
  pub titles : new.titles ≡ old.titles
  pub facts : new.facts ≡ old.facts
  pub policy : new.policy ≡ old.policy
  pub told : new.told ≡ old.told
  pub count : length new.levels ≡ length old.levels
  pub reserved : (l : ℕ) → (room_in new.rooms l).reserved ≡ (room_in old.rooms l).reserved
  pub entries : (l number : ℕ) → entry_at (room_in new.rooms l).entries number ≡ entry_at (room_in old.rooms l).entries number
