use Rattle.std.proofs.Common.{◌≡◌, drop, map}
use Rattle.serde_json.specs.View.{view}
use Rattle.sc_stats_json.specs.Json.{level_json}
use Rattle.sc_stats_json.proofs.Values.{and_those}
use Rattle.sc_stats_json.proofs.levels.level_values.Given as goal

-- with the levels that are left, all values
abbrev pub invariant-loop-level : goal.invariant-loop-level
invariant-loop-level l = and_those level_json (drop l.level-index l.levels) (map view l.values.items) ≡ map level_json l.levels
