use Rattle.std.proofs.Common.{◌≡◌, ◌+◌, ◌≤◌, [], ◌++◌, length}
use Rattle.sc_main_report.specs.Report.{sections}
use Rattle.sc_main_report.proofs.sections.new_sections.Given as goal

abbrev pub invariant-loop-left : goal.invariant-loop-left
invariant-loop-left l = record {
  same : l.made.items ++ sections l.connection l.left [] ≡ sections 0 l.fn.ends [];
  few : l.connection + length l.left ≤ length l.fn.ends;
}

abbrev pub decreases-loop-left : goal.decreases-loop-left
decreases-loop-left l = length l.left
