use Rattle.std.proofs.Common.{◌≡◌, take}
use Rattle.sc_command.specs.Variables.{set_variables}
use Rattle.sc_command.proofs.variables.Variables.set_all.Given as goal

abbrev pub invariant-loop-variable : goal.invariant-loop-variable
invariant-loop-variable l = l.self ≡ set_variables l.fn.self (take l.variable-index l.variables)
