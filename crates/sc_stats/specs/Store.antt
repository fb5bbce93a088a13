-- What a store tells of itself, and the information that is made of it.
use Rattle.std.specs.Prelude.{ℕ, Bool, false, List, [], map, Option, Some, None, codes}
use Rattle.std.specs.Str.Lossy.{utf8_lossy}
use Rattle.sc_stats.specs.declared.counters.LevelStats.{LevelStats}
use Rattle.sc_stats.specs.declared.counters.ServerInfo.{ServerInfo}
use Rattle.sc_stats.specs.declared.counters.ServerStats.{ServerStats}

pub record Facts : Type 0 where
  pub location : List ℕ
  pub current_size : Option ℕ
  pub max_size : Option ℕ
  pub levels : Option (List LevelStats)
  pub use_preprocessor_cache_mode : Bool
  pub basedirs : List (List ℕ)

-- statistics with a store's levels, and what it tells; nothing without a store
abbrev pub info_of : ServerStats → Option Facts → ServerInfo
info_of s None = record {
  stats = record s { multi_level = None };
  cache_location = [];
  cache_size = None;
  max_cache_size = None;
  use_preprocessor_cache_mode = false;
  version = codes "0.19.0";
  basedirs = [];
}
info_of s (Some f) = record {
  stats = record s { multi_level = f.levels };
  cache_location = f.location;
  cache_size = f.current_size;
  max_cache_size = f.max_size;
  use_preprocessor_cache_mode = f.use_preprocessor_cache_mode;
  version = codes "0.19.0";
  basedirs = map utf8_lossy f.basedirs;
}
