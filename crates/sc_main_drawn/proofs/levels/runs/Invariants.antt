use Rattle.std.proofs.Common.{◌≡◌, ◌≤◌, ◌-◌, ◌++◌}
use Rattle.sc_main_drawn.specs.Drawn.{runs}
use Rattle.sc_main_drawn.proofs.levels.runs.Given as goal

abbrev pub invariant-loop-key : goal.invariant-loop-key
invariant-loop-key l = (l.runs ++ runs (l.fn.count - l.key) l.key ≡ runs l.fn.count 0) × (l.key ≤ l.fn.count)

abbrev pub decreases-loop-key : goal.decreases-loop-key
decreases-loop-key l = l.fn.count - l.key
