use Rattle.std.proofs.Common.{sym, subst}
use Rattle.sc_daemon.specs.Daemons.{IsIdleDaemon}
use Rattle.sc_daemon.proofs.Beginning.{new_idle}
use Rattle.sc_daemon_tests.proofs.uses.driven_by.Goals as goal

pub drive-driven-requires-clause-idle : goal.drive-driven-requires-clause-idle
drive-driven-requires-clause-idle c = subst IsIdleDaemon (sym c.in_ok-daemon.ensures) (new_idle c.args.made.owned c.requires.unreserved)
