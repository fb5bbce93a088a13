use Rattle.std.proofs.Common.{◌≡◌, take}
use Rattle.sc_main_report.specs.Report.{sections}
use Rattle.sc_main_report.proofs.sections.sections_of.Given as goal

abbrev pub invariant-loop-event : goal.invariant-loop-event
invariant-loop-event l = l.made.items ≡ sections 0 l.fn.ends (take l.event-index l.fn.events)
