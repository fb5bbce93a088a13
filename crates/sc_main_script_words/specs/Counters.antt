-- How counters are printed, a line each that isn't 0.
use Rattle.std.specs.Prelude.{ℕ, List, [], ◌++◌, ◌==◌, if◌then◌else◌, codes}
use Rattle.sc_entry.specs.Tally.{total_count}
use Rattle.sc_stats.specs.declared.counters.ServerStats.{ServerStats}
use Rattle.sc_main_script_words.specs.Numbers.{named_line}

unfoldable pub counter_line : List ℕ → ℕ → List ℕ
counter_line name n = if n == 0 then [] else named_line name n

unfoldable pub request_lines : ServerStats → List ℕ
request_lines s =
    counter_line (codes "compile_requests") s.compile_requests
    ++ counter_line (codes "requests_unsupported_compiler") s.requests_unsupported_compiler
    ++ counter_line (codes "requests_not_compile") s.requests_not_compile
    ++ counter_line (codes "requests_not_cacheable") s.requests_not_cacheable
    ++ counter_line (codes "requests_executed") s.requests_executed

-- of counts by language their sum
unfoldable pub lookup_lines : ServerStats → List ℕ
lookup_lines s =
    counter_line (codes "cache_errors") (total_count s.cache_errors.counts)
    ++ counter_line (codes "cache_hits") (total_count s.cache_hits.counts)
    ++ counter_line (codes "cache_misses") (total_count s.cache_misses.counts)
    ++ counter_line (codes "cache_timeouts") s.cache_timeouts
    ++ counter_line (codes "cache_read_errors") s.cache_read_errors

unfoldable pub store_lines : ServerStats → List ℕ
store_lines s =
    counter_line (codes "non_cacheable_compilations") s.non_cacheable_compilations
    ++ counter_line (codes "forced_recaches") s.forced_recaches
    ++ counter_line (codes "cache_write_errors") s.cache_write_errors
    ++ counter_line (codes "cache_writes") s.cache_writes

unfoldable pub run_lines : ServerStats → List ℕ
run_lines s =
    counter_line (codes "compilations") s.compilations
    ++ counter_line (codes "compile_fails") s.compile_fails
    ++ counter_line (codes "dist_errors") s.dist_errors

-- the counters that aren't 0, a line each
unfoldable pub counter_lines : ServerStats → List ℕ
counter_lines s = request_lines s ++ lookup_lines s ++ store_lines s ++ run_lines s
