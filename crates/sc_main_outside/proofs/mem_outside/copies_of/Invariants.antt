use Rattle.std.proofs.Common.{◌≡◌, take}
use Rattle.sc_main_outside.proofs.mem_outside.copies_of.Given as goal

abbrev pub invariant-loop-variable : goal.invariant-loop-variable
invariant-loop-variable l = l.copies ≡ take l.variable-index l.variables
