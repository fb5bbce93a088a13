use Rattle.sc_daemon.proofs.Sessions.{backs_on}
use Rattle.sc_daemon.proofs.session.Session.back.Goals as goal

pub invariant_of-self-2 : goal.invariant_of-self-2
invariant_of-self-2 g c = λ fine. backs_on c.self.inside.daemon c.back.new.self c.self.inside.conn c.args.place c.in_ok-event.event (c.self.invariant c.if-lost.false) c.in_ok-event.ensures.backs
