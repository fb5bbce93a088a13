use Rattle.std.proofs.Common.{refl}
use Rattle.sc_entry.proofs.Tallies.{on_err}
use Rattle.sc_stats.proofs.Parts.{no_languages, no_multi, no_part, whole_languages, whole_part}
use Rattle.sc_stats.proofs.counters.ServerStats.add_all_counts.Goals as goal

pub returns-in_err-add_assign-clause-err : goal.returns-in_err-add_assign-clause-err
returns-in_err-add_assign-clause-err c = on_err c.from_residual.result _ (record {
  numbers = refl;
  cache_errors = c.in_err-add_assign.ensures.err;
  cache_hits = no_languages c.args.self.now.cache_hits c.args.other.now.cache_hits c.args.self.now.cache_hits refl;
  cache_misses = no_languages c.args.self.now.cache_misses c.args.other.now.cache_misses c.args.self.now.cache_misses refl;
  not_cached = no_part c.args.self.now.not_cached c.args.other.now.not_cached c.args.self.now.not_cached refl;
  dist_compiles = no_part c.args.self.now.dist_compiles c.args.other.now.dist_compiles c.args.self.now.dist_compiles refl;
  multi_level = no_multi c.args.self.now.multi_level c.args.other.now.multi_level;
})

pub returns-in_err-add_assign-2-clause-err : goal.returns-in_err-add_assign-2-clause-err
returns-in_err-add_assign-2-clause-err c = on_err c.from_residual-in_err-add_assign-2.result _ (record {
  numbers = refl;
  cache_errors = whole_languages c.args.self.now.cache_errors c.args.other.now.cache_errors c.add_assign.new.self c.in_ok-add_assign.ensures.ok;
  cache_hits = c.in_err-add_assign-2.ensures.err;
  cache_misses = no_languages c.args.self.now.cache_misses c.args.other.now.cache_misses c.args.self.now.cache_misses refl;
  not_cached = no_part c.args.self.now.not_cached c.args.other.now.not_cached c.args.self.now.not_cached refl;
  dist_compiles = no_part c.args.self.now.dist_compiles c.args.other.now.dist_compiles c.args.self.now.dist_compiles refl;
  multi_level = no_multi c.args.self.now.multi_level c.args.other.now.multi_level;
})

pub returns-in_err-add_assign-3-clause-err : goal.returns-in_err-add_assign-3-clause-err
returns-in_err-add_assign-3-clause-err c = on_err c.from_residual-in_err-add_assign-3.result _ (record {
  numbers = refl;
  cache_errors = whole_languages c.args.self.now.cache_errors c.args.other.now.cache_errors c.add_assign.new.self c.in_ok-add_assign.ensures.ok;
  cache_hits = whole_languages c.args.self.now.cache_hits c.args.other.now.cache_hits c.add_assign-2.new.self c.in_ok-add_assign-2.ensures.ok;
  cache_misses = c.in_err-add_assign-3.ensures.err;
  not_cached = no_part c.args.self.now.not_cached c.args.other.now.not_cached c.args.self.now.not_cached refl;
  dist_compiles = no_part c.args.self.now.dist_compiles c.args.other.now.dist_compiles c.args.self.now.dist_compiles refl;
  multi_level = no_multi c.args.self.now.multi_level c.args.other.now.multi_level;
})

pub returns-in_err-add_all-clause-err : goal.returns-in_err-add_all-clause-err
returns-in_err-add_all-clause-err c = on_err c.from_residual-in_err-add_all.result _ (record {
  numbers = refl;
  cache_errors = whole_languages c.args.self.now.cache_errors c.args.other.now.cache_errors c.add_assign.new.self c.in_ok-add_assign.ensures.ok;
  cache_hits = whole_languages c.args.self.now.cache_hits c.args.other.now.cache_hits c.add_assign-2.new.self c.in_ok-add_assign-2.ensures.ok;
  cache_misses = whole_languages c.args.self.now.cache_misses c.args.other.now.cache_misses c.add_assign-3.new.self c.in_ok-add_assign-3.ensures.ok;
  not_cached = c.in_err-add_all.ensures.err;
  dist_compiles = no_part c.args.self.now.dist_compiles c.args.other.now.dist_compiles c.args.self.now.dist_compiles refl;
  multi_level = no_multi c.args.self.now.multi_level c.args.other.now.multi_level;
})

pub returns-in_err-add_all-2-clause-err : goal.returns-in_err-add_all-2-clause-err
returns-in_err-add_all-2-clause-err c = on_err c.from_residual-in_err-add_all-2.result _ (record {
  numbers = refl;
  cache_errors = whole_languages c.args.self.now.cache_errors c.args.other.now.cache_errors c.add_assign.new.self c.in_ok-add_assign.ensures.ok;
  cache_hits = whole_languages c.args.self.now.cache_hits c.args.other.now.cache_hits c.add_assign-2.new.self c.in_ok-add_assign-2.ensures.ok;
  cache_misses = whole_languages c.args.self.now.cache_misses c.args.other.now.cache_misses c.add_assign-3.new.self c.in_ok-add_assign-3.ensures.ok;
  not_cached = whole_part c.args.self.now.not_cached c.args.other.now.not_cached c.add_all.new.self c.in_ok-add_all.ensures.ok;
  dist_compiles = c.in_err-add_all-2.ensures.err;
  multi_level = no_multi c.args.self.now.multi_level c.args.other.now.multi_level;
})
