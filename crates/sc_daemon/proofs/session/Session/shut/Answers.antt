use Rattle.sc_daemon.proofs.Sessions.{shuts_on}
use Rattle.sc_daemon.proofs.session.Session.shut.Goals as goal

pub invariant_of-self : goal.invariant_of-self
invariant_of-self g c = λ fine. shuts_on c.self.inside.daemon c.self.inside.conn c.shut.new.self (c.self.invariant fine) c.shut.ensures
