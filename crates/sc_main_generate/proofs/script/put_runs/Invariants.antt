use Rattle.std.proofs.Common.{◌≡◌, ◌≤◌, ◌-◌, ◌++◌}
use Rattle.sc_main_generate.specs.Generated.{runs}
use Rattle.sc_main_generate.proofs.script.put_runs.Given as goal

abbrev pub invariant-loop-key : goal.invariant-loop-key
invariant-loop-key l = (l.text ++ runs (l.fn.count - l.key) l.key ≡ l.fn.text ++ runs l.fn.count 0) × (l.key ≤ l.fn.count)

abbrev pub decreases-loop-key : goal.decreases-loop-key
decreases-loop-key l = l.fn.count - l.key
