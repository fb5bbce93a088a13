-- What an addition leaves where memory ran out: a front part of what was to be added is added.
use Rattle.std.specs.Prelude.{◌≡◌, List, ◌++◌, Option, Some, None}
use Rattle.sc_entry.specs.Tally.{IsPartSum}
use Rattle.sc_stats.specs.Sums.{add_levels, no_stats}
use Rattle.sc_stats.specs.declared.counters.LevelStats.{LevelStats}
use Rattle.sc_stats.specs.declared.counters.PerLanguageCount.{PerLanguageCount}
use Rattle.sc_stats.specs.declared.counters.ServerStats.{ServerStats}

-- of each of b's two maps a front part is added
abbrev pub IsPartOfLanguages : PerLanguageCount → PerLanguageCount → PerLanguageCount → Type 0
IsPartOfLanguages a b both = IsPartSum a.counts b.counts both.counts × IsPartSum a.adv_counts b.adv_counts both.adv_counts

-- the first levels of b are added
abbrev pub IsPartOfLevels : List LevelStats → List LevelStats → List LevelStats → Type 0
IsPartOfLevels a b both = (front : List LevelStats) × (back : List LevelStats) × (b ≡ front ++ back) × (both ≡ add_levels a front)

abbrev pub IsPartOfMulti : Option (List LevelStats) → Option (List LevelStats) → Option (List LevelStats) → Type 0
IsPartOfMulti None b both = both ≡ None
IsPartOfMulti (Some a) None both = both ≡ Some a
IsPartOfMulti (Some a) (Some b) None = ⊥
IsPartOfMulti (Some a) (Some b) (Some both) = IsPartOfLevels a b both

-- the numbers of one, and the counts by text and by level of the other
abbrev pub with_counts : ServerStats → ServerStats → ServerStats
with_counts a b = record a {
  cache_errors = b.cache_errors;
  cache_hits = b.cache_hits;
  cache_misses = b.cache_misses;
  not_cached = b.not_cached;
  dist_compiles = b.dist_compiles;
  multi_level = b.multi_level;
}

-- the numbers on requests of one, and all else of the other
abbrev pub with_requests : ServerStats → ServerStats → ServerStats
with_requests a b = record b {
  compile_requests = a.compile_requests;
  requests_unsupported_compiler = a.requests_unsupported_compiler;
  requests_not_compile = a.requests_not_compile;
  requests_not_cacheable = a.requests_not_cacheable;
  requests_executed = a.requests_executed;
}

-- the numbers on the cache of one, and all else of the other
abbrev pub with_cache_numbers : ServerStats → ServerStats → ServerStats
with_cache_numbers a b = record b {
  cache_timeouts = a.cache_timeouts;
  cache_read_errors = a.cache_read_errors;
  forced_recaches = a.forced_recaches;
  cache_write_errors = a.cache_write_errors;
  cache_writes = a.cache_writes;
  cache_write_duration = a.cache_write_duration;
  cache_read_hit_duration = a.cache_read_hit_duration;
}

-- the numbers on compilations of one, and all else of the other
abbrev pub with_compiler_numbers : ServerStats → ServerStats → ServerStats
with_compiler_numbers a b = record b {
  non_cacheable_compilations = a.non_cacheable_compilations;
  compilations = a.compilations;
  compiler_write_duration = a.compiler_write_duration;
  compile_fails = a.compile_fails;
  dist_errors = a.dist_errors;
}

-- nothing is counted by text or by level
abbrev pub HasNumbersAlone : ServerStats → Type 0
HasNumbersAlone a = a ≡ with_counts a no_stats

-- no number is added, and of each map and of the levels a front part
pub record IsPartOfStats (a b both : ServerStats) : Type 0 where
  pub numbers : both ≡ with_counts a both
  pub cache_errors : IsPartOfLanguages a.cache_errors b.cache_errors both.cache_errors
  pub cache_hits : IsPartOfLanguages a.cache_hits b.cache_hits both.cache_hits
  pub cache_misses : IsPartOfLanguages a.cache_misses b.cache_misses both.cache_misses
  pub not_cached : IsPartSum a.not_cached b.not_cached both.not_cached
  pub dist_compiles : IsPartSum a.dist_compiles b.dist_compiles both.dist_compiles
  pub multi_level : IsPartOfMulti a.multi_level b.multi_level both.multi_level
