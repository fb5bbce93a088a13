use Rattle.std.proofs.Common.{◌≡◌, drop}
use Rattle.sc_stats.specs.Info.{level_places}
use Rattle.sc_stats.proofs.info.add_level_places.Given as goal

-- with the levels that are left, all lines
abbrev pub invariant-loop-level : goal.invariant-loop-level
invariant-loop-level l = level_places l.names (drop l.level-index l.levels) l.lines ≡ level_places l.names l.levels l.fn.lines
