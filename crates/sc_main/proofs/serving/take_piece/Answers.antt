use Rattle.std.proofs.Common.{true, refl}
use Rattle.sc_main.proofs.Reading.{feeds_on, unfed_on}
use Rattle.sc_main.specs.Serving.{wire}
use Rattle.sc_main.proofs.serving.take_piece.Goals as goal

pub returns-clause-serves : goal.returns-clause-serves
returns-clause-serves g c first wait ahead uncaused read f =
    let k = wire (g.K.Link.ahead c.args.link.now) (g.K.Link.written c.args.link.now) (g.K.Link.fault_count c.args.link.now) in
    c.in_ok-refused.ensures.answers first wait (feeds_on first c.args.session.now c.feed.new.self (record { messages = c.args.messages.now; wait = wait; is_polled = true }) (g.C.Clock.moments c.args.clock.now) k ahead c.args.piece.now f read refl uncaused c.requires.going c.in-Ok.ensures.feeds c.feed.ensures.daemon c.feed.ensures.lost)

pub returns-in_default-clause-serves : goal.returns-in_default-clause-serves
returns-in_default-clause-serves g c first wait ahead uncaused read f =
    let k = wire (g.K.Link.ahead c.args.link.now) (g.K.Link.written c.args.link.now) (g.K.Link.fault_count c.args.link.now) in
    unfed_on first c.args.session.now c.feed.new.self (record { messages = c.args.messages.now; wait = wait; is_polled = true }) (g.C.Clock.moments c.args.clock.now) k ahead c.args.piece.now f read refl uncaused c.requires.idle
    c.in_default.ensures.dropped c.feed.ensures.daemon c.feed.ensures.lost
