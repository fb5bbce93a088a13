use Rattle.std.proofs.Common.{subst}
use Rattle.sc_daemon.specs.Sessions.{Feeds, Session as Held}
use Rattle.sc_daemon.proofs.Sessions.{feeds_on}
use Rattle.sc_daemon.proofs.session.Session.feed.Goals as goal

pub invariant_of-self : goal.invariant_of-self
invariant_of-self g c = λ fine. feeds_on c.self.inside.daemon c.self.inside.conn c.feed.new.self c.args.piece.now (c.self.invariant fine) c.in-Ok.ensures

pub returns-in-Ok-clause-feeds : goal.returns-in-Ok-clause-feeds
returns-in-Ok-clause-feeds g c = subst (λ (s : Held). Feeds c.args.piece.now s.line c.feed.new.self) c.self.view_is c.in-Ok.ensures
