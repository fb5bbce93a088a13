use Rattle.sc_daemon.proofs.Sessions.{sends_on}
use Rattle.sc_daemon.proofs.session.Session.take_sent.Goals as goal

pub invariant_of-self : goal.invariant_of-self
invariant_of-self g c = λ fine. sends_on c.self.inside.daemon c.self.inside.conn c.take_sent.new.self (c.self.invariant fine) c.take_sent.ensures.left
