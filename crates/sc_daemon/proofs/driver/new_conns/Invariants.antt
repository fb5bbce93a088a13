use Rattle.std.proofs.Common.{◌≡◌}
use Rattle.sc_daemon.specs.Drives.{lines_of}
use Rattle.sc_daemon.proofs.driver.new_conns.Given as goal

abbrev pub invariant-loop : goal.invariant-loop
invariant-loop l = l.conns.items ≡ lines_of l.limit l.counter
