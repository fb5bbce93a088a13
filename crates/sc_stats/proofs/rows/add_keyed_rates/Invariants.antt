use Rattle.std.proofs.Common.{◌≡◌, drop}
use Rattle.sc_stats.specs.Rows.{keyed_rates}
use Rattle.sc_stats.proofs.rows.add_keyed_rates.Given as goal

-- with the rates that are left to add, all rates
abbrev pub invariant-loop-key : goal.invariant-loop-key
invariant-loop-key l = keyed_rates l.hits l.misses (drop l.key-index l.keys) l.rows ≡ keyed_rates l.hits l.misses l.keys l.fn.rows
