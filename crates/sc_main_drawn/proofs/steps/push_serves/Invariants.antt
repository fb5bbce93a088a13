use Rattle.std.proofs.Common.{◌≡◌, ◌++◌, replicate}
use Rattle.sc_main_drawn.specs.Drawn.{serve}
use Rattle.sc_main_drawn.proofs.steps.push_serves.Given as goal

abbrev pub invariant-loop : goal.invariant-loop
invariant-loop l = l.steps ≡ l.fn.steps ++ replicate l.counter (serve l.connection)
