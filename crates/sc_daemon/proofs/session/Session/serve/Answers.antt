use Rattle.std.proofs.Common.{zero}
use Rattle.sc_daemon.proofs.Sessions.{serves_on}
use Rattle.sc_daemon.proofs.session.Session.serve.Goals as goal

pub serve-requires : goal.serve-requires
serve-requires g c = record { rests = ((c.self.invariant c.if-lost.false).tied.at zero).1 }

pub invariant_of-self-2 : goal.invariant_of-self-2
invariant_of-self-2 g c = λ fine.
    serves_on c.self.inside.daemon c.serve.new.self c.self.inside.conn c.serve.new.conn c.in_ok-event.event (c.self.invariant c.if-lost.false) c.in_ok-event.ensures.serves c.in_ok-event.ensures.rests
