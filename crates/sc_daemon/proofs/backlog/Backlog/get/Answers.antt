use Rattle.std.proofs.Common.{◌≡◌, List, Some, IfSome, subst}
use Rattle.sc_daemon.proofs.Handing.{got}
use Rattle.sc_daemon.specs.Backlogs.{Write, write_at}
use Rattle.sc_daemon.proofs.backlog.Backlog.get.Goals as goal

pub returns-clause-some : goal.returns-clause-some
returns-clause-some c =
    subst (λ (ws : List Write). IfSome c.get.result (λ w. write_at c.args.place ws ≡ Some w.now)) c.self.view_is
    (got (λ w. w.now) c.self.inside.writes c.args.place c.get.result c.get.ensures.value)
