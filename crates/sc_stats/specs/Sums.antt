-- Statistics added: each number stops at its type's end, counts by text are added text by text, levels by place.
use Rattle.std.specs.Prelude.{ℕ, ◌+◌, ◌-◌, ◌^◌, min, List, [], ◌∷◌, map, Option, Some, None}
use Rattle.std.specs.FinMap.{empty as empty_map}
use Rattle.sc_entry.specs.Tally.{Tally, counted}
pub use Rattle.sc_entry.specs.Tally.{add_each, add_counts}
use Rattle.sc_stats.specs.Spans.{more_time}
use Rattle.sc_stats.specs.declared.counters.LevelStats.{LevelStats}
use Rattle.sc_stats.specs.declared.counters.PerLanguageCount.{PerLanguageCount}
use Rattle.sc_stats.specs.declared.counters.ServerStats.{ServerStats}

-- a number stops at u64's greatest value
abbrev pub sat : ℕ → ℕ → ℕ
sat a b = min (a + b) (2 ^ 64 - 1)

-- a count with one text alone
abbrev pub one_of : List ℕ → Tally
one_of text = counted empty_map text 1

abbrev pub add_languages : PerLanguageCount → PerLanguageCount → PerLanguageCount
add_languages a b = record { counts = add_counts a.counts b.counts; adv_counts = add_counts a.adv_counts b.adv_counts }

abbrev pub add_level : LevelStats → LevelStats → LevelStats
add_level a b = record {
  name = a.name;
  location = a.location;
  hits = sat a.hits b.hits;
  misses = sat a.misses b.misses;
  writes = sat a.writes b.writes;
  write_failures = sat a.write_failures b.write_failures;
  backfills_from = sat a.backfills_from b.backfills_from;
  backfills_to = sat a.backfills_to b.backfills_to;
  hit_duration = more_time a.hit_duration b.hit_duration;
  write_duration = more_time a.write_duration b.write_duration;
}

abbrev pub add_levels : List LevelStats → List LevelStats → List LevelStats
add_levels [] bs = bs
add_levels (a ∷ as') [] = a ∷ as'
add_levels (a ∷ as') (b ∷ bs) = add_level a b ∷ add_levels as' bs

-- the names and locations of levels, in their order
abbrev pub places_of : List LevelStats → List (List ℕ × List ℕ)
places_of levels = map (λ l. (l.name, l.location)) levels

abbrev pub add_multi : Option (List LevelStats) → Option (List LevelStats) → Option (List LevelStats)
add_multi None b = b
add_multi (Some a) None = Some a
add_multi (Some a) (Some b) = Some (add_levels a b)

-- statistics added; each number stops at its type's end
abbrev pub sum : ServerStats → ServerStats → ServerStats
sum a b = record {
  compile_requests = sat a.compile_requests b.compile_requests;
  requests_unsupported_compiler = sat a.requests_unsupported_compiler b.requests_unsupported_compiler;
  requests_not_compile = sat a.requests_not_compile b.requests_not_compile;
  requests_not_cacheable = sat a.requests_not_cacheable b.requests_not_cacheable;
  requests_executed = sat a.requests_executed b.requests_executed;
  cache_errors = add_languages a.cache_errors b.cache_errors;
  cache_hits = add_languages a.cache_hits b.cache_hits;
  cache_misses = add_languages a.cache_misses b.cache_misses;
  cache_timeouts = sat a.cache_timeouts b.cache_timeouts;
  cache_read_errors = sat a.cache_read_errors b.cache_read_errors;
  non_cacheable_compilations = sat a.non_cacheable_compilations b.non_cacheable_compilations;
  forced_recaches = sat a.forced_recaches b.forced_recaches;
  cache_write_errors = sat a.cache_write_errors b.cache_write_errors;
  cache_writes = sat a.cache_writes b.cache_writes;
  cache_write_duration = more_time a.cache_write_duration b.cache_write_duration;
  cache_read_hit_duration = more_time a.cache_read_hit_duration b.cache_read_hit_duration;
  compilations = sat a.compilations b.compilations;
  compiler_write_duration = more_time a.compiler_write_duration b.compiler_write_duration;
  compile_fails = sat a.compile_fails b.compile_fails;
  not_cached = add_counts a.not_cached b.not_cached;
  dist_compiles = add_counts a.dist_compiles b.dist_compiles;
  dist_errors = sat a.dist_errors b.dist_errors;
  multi_level = add_multi a.multi_level b.multi_level;
}

-- nothing counted
abbrev pub no_counts : PerLanguageCount
no_counts = record { counts = empty_map; adv_counts = empty_map }

abbrev pub no_stats : ServerStats
no_stats = record {
  compile_requests = 0;
  requests_unsupported_compiler = 0;
  requests_not_compile = 0;
  requests_not_cacheable = 0;
  requests_executed = 0;
  cache_errors = no_counts;
  cache_hits = no_counts;
  cache_misses = no_counts;
  cache_timeouts = 0;
  cache_read_errors = 0;
  non_cacheable_compilations = 0;
  forced_recaches = 0;
  cache_write_errors = 0;
  cache_writes = 0;
  cache_write_duration = 0;
  cache_read_hit_duration = 0;
  compilations = 0;
  compiler_write_duration = 0;
  compile_fails = 0;
  not_cached = empty_map;
  dist_compiles = empty_map;
  dist_errors = 0;
  multi_level = None;
}

abbrev pub no_level_stats : LevelStats
no_level_stats = record { name = []; location = []; hits = 0; misses = 0; writes = 0; write_failures = 0; backfills_from = 0; backfills_to = 0; hit_duration = 0; write_duration = 0 }
