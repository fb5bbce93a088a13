use Rattle.std.proofs.Common.{◌≡◌, ◌+◌, ◌≤◌, ◌++◌, length}
use Rattle.sc_main_report.specs.Report.{level_lines}
use Rattle.sc_main_report.proofs.levels.put_levels.Given as goal

abbrev pub invariant-loop-left : goal.invariant-loop-left
invariant-loop-left l = record {
  same : l.out.items ++ level_lines l.level l.left l.counters ≡ l.fn.out.items ++ level_lines 0 l.fn.levels l.fn.counters;
  few : l.level + length l.left ≤ length l.fn.levels;
}

abbrev pub decreases-loop-left : goal.decreases-loop-left
decreases-loop-left l = length l.left
