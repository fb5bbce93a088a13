use Rattle.std.proofs.Common.{sym, subst}
use Rattle.sc_daemon.specs.Daemons.{Kept}
use Rattle.sc_daemon.specs.Sessions.{IsServing}
use Rattle.sc_daemon.proofs.Sessions.{passes_on}
use Rattle.sc_daemon.proofs.session.Session.pass.Goals as goal

pub invariant_of-self : goal.invariant_of-self
invariant_of-self g c = λ fine. subst (λ (k : Kept). IsServing k c.self.inside.conn) (sym c.pass.ensures.daemon) (passes_on c.self.inside.daemon c.self.inside.conn c.args.nanoseconds (c.self.invariant fine))
