use Rattle.std.proofs.Common.{◌<◌}
use Rattle.sc_main_tests.proofs.draws.draws.Given as goal

abbrev pub invariant-loop : goal.invariant-loop
invariant-loop l = l.state < 2147483648
