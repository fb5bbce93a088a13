use Rattle.std.proofs.Common.{drop}
use Rattle.sc_daemon.specs.Drives.{Progress}
use Rattle.sc_daemon.proofs.drives.step_all.Given as goal

abbrev pub invariant-loop-step : goal.invariant-loop-step
invariant-loop-step g l = Progress l.initial.daemon l.daemon l.inputs l.steps (drop l.step-index l.steps) l.driver.events.items l.driver.conns.items
