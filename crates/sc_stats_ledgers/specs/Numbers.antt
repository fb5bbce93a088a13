-- A number for each counter.
use Rattle.std.specs.Prelude.{◌≡◌, ◌+◌, ◌-◌, ◌^◌, min}
use Rattle.sc_stats.specs.Sums.{sat}
use Rattle.sc_stats.specs.declared.counters.ServerStats.{ServerStats}
use Rattle.sc_stats_ledgers.specs.declared.numbers.Numbers.{Numbers}

-- both, counter by counter
abbrev pub sums : Numbers → Numbers → Numbers
sums a b = record {
  compile_requests = a.compile_requests + b.compile_requests;
  requests_unsupported_compiler = a.requests_unsupported_compiler + b.requests_unsupported_compiler;
  requests_not_compile = a.requests_not_compile + b.requests_not_compile;
  requests_not_cacheable = a.requests_not_cacheable + b.requests_not_cacheable;
  requests_executed = a.requests_executed + b.requests_executed;
  cache_timeouts = a.cache_timeouts + b.cache_timeouts;
  cache_read_errors = a.cache_read_errors + b.cache_read_errors;
  non_cacheable_compilations = a.non_cacheable_compilations + b.non_cacheable_compilations;
  forced_recaches = a.forced_recaches + b.forced_recaches;
  cache_write_errors = a.cache_write_errors + b.cache_write_errors;
  cache_writes = a.cache_writes + b.cache_writes;
  compilations = a.compilations + b.compilations;
  compile_fails = a.compile_fails + b.compile_fails;
  dist_errors = a.dist_errors + b.dist_errors;
  zeroings = a.zeroings + b.zeroings;
}

-- each number, up to the end of u64
abbrev pub capped : Numbers → Numbers
capped a = record {
  compile_requests = min a.compile_requests (2 ^ 64 - 1);
  requests_unsupported_compiler = min a.requests_unsupported_compiler (2 ^ 64 - 1);
  requests_not_compile = min a.requests_not_compile (2 ^ 64 - 1);
  requests_not_cacheable = min a.requests_not_cacheable (2 ^ 64 - 1);
  requests_executed = min a.requests_executed (2 ^ 64 - 1);
  cache_timeouts = min a.cache_timeouts (2 ^ 64 - 1);
  cache_read_errors = min a.cache_read_errors (2 ^ 64 - 1);
  non_cacheable_compilations = min a.non_cacheable_compilations (2 ^ 64 - 1);
  forced_recaches = min a.forced_recaches (2 ^ 64 - 1);
  cache_write_errors = min a.cache_write_errors (2 ^ 64 - 1);
  cache_writes = min a.cache_writes (2 ^ 64 - 1);
  compilations = min a.compilations (2 ^ 64 - 1);
  compile_fails = min a.compile_fails (2 ^ 64 - 1);
  dist_errors = min a.dist_errors (2 ^ 64 - 1);
  zeroings = min a.zeroings (2 ^ 64 - 1);
}

-- nothing is added
abbrev pub no_numbers : Numbers
no_numbers = record {
  compile_requests = 0;
  requests_unsupported_compiler = 0;
  requests_not_compile = 0;
  requests_not_cacheable = 0;
  requests_executed = 0;
  cache_timeouts = 0;
  cache_read_errors = 0;
  non_cacheable_compilations = 0;
  forced_recaches = 0;
  cache_write_errors = 0;
  cache_writes = 0;
  compilations = 0;
  compile_fails = 0;
  dist_errors = 0;
  zeroings = 0;
}

-- what a zeroing adds
abbrev pub one_zeroing : Numbers
one_zeroing = record no_numbers { zeroings = 1 }

-- where counters stand after a zeroing
abbrev pub zeroed : Numbers → Numbers
zeroed a = record no_numbers { zeroings = sat a.zeroings 1 }

-- counters stand as these totals say: their zeroings always, all others where there was none
abbrev pub Follow : Numbers → Numbers → Type 0
Follow numbers totals = (numbers.zeroings ≡ min totals.zeroings (2 ^ 64 - 1)) × (totals.zeroings ≡ 0 → numbers ≡ capped totals)

-- the numbers of statistics
abbrev pub numbers_of : ServerStats → Numbers
numbers_of s = record {
  compile_requests = s.compile_requests;
  requests_unsupported_compiler = s.requests_unsupported_compiler;
  requests_not_compile = s.requests_not_compile;
  requests_not_cacheable = s.requests_not_cacheable;
  requests_executed = s.requests_executed;
  cache_timeouts = s.cache_timeouts;
  cache_read_errors = s.cache_read_errors;
  non_cacheable_compilations = s.non_cacheable_compilations;
  forced_recaches = s.forced_recaches;
  cache_write_errors = s.cache_write_errors;
  cache_writes = s.cache_writes;
  compilations = s.compilations;
  compile_fails = s.compile_fails;
  dist_errors = s.dist_errors;
  zeroings = 0;
}

-- statistics with these numbers in place of their own
abbrev pub with_numbers : ServerStats → Numbers → ServerStats
with_numbers s a = record s {
  compile_requests = a.compile_requests;
  requests_unsupported_compiler = a.requests_unsupported_compiler;
  requests_not_compile = a.requests_not_compile;
  requests_not_cacheable = a.requests_not_cacheable;
  requests_executed = a.requests_executed;
  cache_timeouts = a.cache_timeouts;
  cache_read_errors = a.cache_read_errors;
  non_cacheable_compilations = a.non_cacheable_compilations;
  forced_recaches = a.forced_recaches;
  cache_write_errors = a.cache_write_errors;
  cache_writes = a.cache_writes;
  compilations = a.compilations;
  compile_fails = a.compile_fails;
  dist_errors = a.dist_errors;
}
