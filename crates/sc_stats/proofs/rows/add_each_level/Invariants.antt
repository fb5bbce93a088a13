use Rattle.std.proofs.Common.{◌≡◌, drop}
use Rattle.sc_stats.specs.Rows.{each_level}
use Rattle.sc_stats.proofs.rows.add_each_level.Given as goal

-- with the levels that are left to add, all levels
abbrev pub invariant-loop-level : goal.invariant-loop-level
invariant-loop-level l = each_level (drop l.level-index l.levels) l.rows ≡ each_level l.levels l.fn.rows
