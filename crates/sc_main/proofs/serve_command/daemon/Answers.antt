use Rattle.std.proofs.Common.{sym, ◌∙◌, subst}
use Rattle.sc_daemon.specs.Daemons.{IsIdleDaemon}
use Rattle.sc_daemon.proofs.Beginning.{new_idle}
use Rattle.sc_main.proofs.Starting.{is_server_daemon, unmade}
use Rattle.sc_main.proofs.serve_command.daemon.Goals as goal

pub returns-in_err-daemon-clause-cause : goal.returns-in_err-daemon-clause-cause
returns-in_err-daemon-clause-cause g c = unmade c.from_residual-in_err-daemon.result _ _ c.from_residual-in_err-daemon.ensures.1 (c.in_ok-main.ensures.cause ∙ (c.in_ok-finder.ensures.cause ∙ (c.in_ok-files.ensures.cause ∙ c.in_ok-creator.ensures.cause)))

pub returns-clause-made : goal.returns-clause-made
returns-clause-made g c =
    let owned = c.daemon_over-owned.ensures in
    is_server_daemon c.args.dir.now c.args.bytes c.args.tokens (g.X.Disk.Disk.state c.in_ok-main.main) (g.X.Disk.Disk.state c.in_ok-main.pre) c.in_ok-levels.levels c.daemon_over-owned.result c.in_ok-daemon.daemon c.in_ok-main.ensures.main c.in_ok-main.ensures.pre c.in_ok-levels.ensures.levels owned.store owned.levels owned.policy owned.tokens owned.limit c.in_ok-daemon.ensures

pub returns-clause-idle : goal.returns-clause-idle
returns-clause-idle g c = subst IsIdleDaemon (sym c.in_ok-daemon.ensures) (new_idle c.daemon_over-owned.result c.daemon_over-owned.ensures.unreserved)

pub returns-clause-same : goal.returns-clause-same
returns-clause-same g c = c.in_ok-main.ensures.same ∙ (c.in_ok-finder.ensures.same ∙ (c.in_ok-files.ensures.same ∙ c.in_ok-creator.ensures.same))

pub returns-clause-cause : goal.returns-clause-cause
returns-clause-cause g c = c.in_ok-main.ensures.cause ∙ (c.in_ok-finder.ensures.cause ∙ (c.in_ok-files.ensures.cause ∙ c.in_ok-creator.ensures.cause))
