-- Statistics to which nothing is added.
use Rattle.std.proofs.Common.{◌≡◌, ◌<◌, ◌^◌, ◌-◌, ℕ, List, Option, Some, None, ap, arith, refl}
use Rattle.sc_entry.proofs.Tallies.{entries_empty}
use Rattle.sc_entry.specs.Tally.{Tally}
use Rattle.sc_stats.specs.Spans.{more_time}
use Rattle.sc_stats.specs.Sums.{add_counts, add_each, add_languages, add_multi, no_counts, no_stats, sat, sum}
use Rattle.sc_stats.specs.declared.counters.LevelStats.{LevelStats}
use Rattle.sc_stats.specs.declared.counters.PerLanguageCount.{PerLanguageCount}
use Rattle.sc_stats.specs.declared.counters.ServerStats.{ServerStats}

pub same_number : (n : ℕ) → n < 2 ^ 64 → sat n 0 ≡ n
same_number n within = omega (arith, within)

same_counts : (tally : Tally) → add_counts tally no_counts.counts ≡ tally
same_counts tally = ap (λ es. add_each es tally) entries_empty

same_languages : (counts : PerLanguageCount) → add_languages counts no_counts ≡ counts
same_languages counts = λ i. record { counts = same_counts counts.counts i; adv_counts = same_counts counts.adv_counts i }

same_levels : (levels : Option (List LevelStats)) → add_multi levels None ≡ levels
same_levels None = refl
same_levels (Some levels) = refl

pub same_stats : (s : ServerStats) → sat s.compile_requests 0 ≡ s.compile_requests → sat s.requests_unsupported_compiler 0 ≡ s.requests_unsupported_compiler → sat s.requests_not_compile 0 ≡ s.requests_not_compile → sat s.requests_not_cacheable 0 ≡ s.requests_not_cacheable → sat s.requests_executed 0 ≡ s.requests_executed → sat s.cache_timeouts 0 ≡ s.cache_timeouts → sat s.cache_read_errors 0 ≡ s.cache_read_errors → sat s.non_cacheable_compilations 0 ≡ s.non_cacheable_compilations → sat s.forced_recaches 0 ≡ s.forced_recaches → sat s.cache_write_errors 0 ≡ s.cache_write_errors → sat s.cache_writes 0 ≡ s.cache_writes → sat s.compilations 0 ≡ s.compilations → sat s.compile_fails 0 ≡ s.compile_fails → sat s.dist_errors 0 ≡ s.dist_errors → more_time s.cache_write_duration 0 ≡ s.cache_write_duration → more_time s.cache_read_hit_duration 0 ≡ s.cache_read_hit_duration → more_time s.compiler_write_duration 0 ≡ s.compiler_write_duration
    → sum s no_stats ≡ s
same_stats s e1 e2 e3 e4 e5 e6 e7 e8 e9 e10 e11 e12 e13 e14 d1 d2 d3 = λ i. record {
  compile_requests = e1 i;
  requests_unsupported_compiler = e2 i;
  requests_not_compile = e3 i;
  requests_not_cacheable = e4 i;
  requests_executed = e5 i;
  cache_errors = same_languages s.cache_errors i;
  cache_hits = same_languages s.cache_hits i;
  cache_misses = same_languages s.cache_misses i;
  cache_timeouts = e6 i;
  cache_read_errors = e7 i;
  non_cacheable_compilations = e8 i;
  forced_recaches = e9 i;
  cache_write_errors = e10 i;
  cache_writes = e11 i;
  cache_write_duration = d1 i;
  cache_read_hit_duration = d2 i;
  compilations = e12 i;
  compiler_write_duration = d3 i;
  compile_fails = e13 i;
  not_cached = same_counts s.not_cached i;
  dist_compiles = same_counts s.dist_compiles i;
  dist_errors = e14 i;
  multi_level = same_levels s.multi_level i;
}
