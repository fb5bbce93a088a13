use Rattle.std.proofs.Common.{◌≡◌, ◌++◌, replicate}
use Rattle.sc_main_drawn.specs.Drawn.{back}
use Rattle.sc_main_drawn.proofs.steps.push_backs.Given as goal

abbrev pub invariant-loop : goal.invariant-loop
invariant-loop l = l.steps ≡ l.fn.steps ++ replicate l.counter back
