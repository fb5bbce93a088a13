use Rattle.std.proofs.Common.{sym, subst}
use Rattle.sc_daemon.specs.Daemons.{IsIdleDaemon}
use Rattle.sc_daemon.proofs.Beginning.{new_idle}
use Rattle.sc_main.proofs.tests.serving.talk_of.Goals as goal

pub driven_talk-first-requires-clause-idle : goal.driven_talk-first-requires-clause-idle
driven_talk-first-requires-clause-idle c = subst IsIdleDaemon (sym c.in_ok-daemon.ensures) (new_idle c.in_ok-made.made.owned c.in_ok-made.ensures.unreserved)
