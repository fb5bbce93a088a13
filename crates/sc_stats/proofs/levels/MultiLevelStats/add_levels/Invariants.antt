use Rattle.std.proofs.Common.{◌≡◌, take}
use Rattle.sc_stats.specs.Sums.{add_levels}
use Rattle.sc_stats.proofs.levels.MultiLevelStats.add_levels.Given as goal

-- the levels that were met so far are added
abbrev pub invariant-loop-place : goal.invariant-loop-place
invariant-loop-place l = l.self-inside.levels.items ≡ add_levels l.fn.self (take l.place l.other)
