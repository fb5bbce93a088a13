use Rattle.std.proofs.Common.{◌≡◌, ◌≤◌, take}
use Rattle.sc_main_report.specs.Report.{runs_in}
use Rattle.sc_main_report.proofs.printing.count_runs.Given as goal

abbrev pub invariant-loop-event : goal.invariant-loop-event
invariant-loop-event l = record {
  counted : l.runs ≡ runs_in (take l.event-index l.fn.events);
  few : l.runs ≤ l.event-index;
}
