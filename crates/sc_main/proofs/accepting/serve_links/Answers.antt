use Rattle.std.proofs.Common.{true, refl}
use Rattle.sc_main.proofs.Turning.{serves_from}
use Rattle.sc_main.specs.Accepting.{Door}
use Rattle.sc_main.specs.Deeds.{Heard}
use Rattle.sc_main.specs.Serving.{wire}
use Rattle.sc_main.proofs.accepting.serve_links.Goals as goal

pub returns-clause-serves : goal.returns-clause-serves
returns-clause-serves g c =
    let old = c.args.acceptor.now in
    let new = c.serve_until.new.acceptor in
    let a : Door g.row.A-Link.Denot = record { ready = g.A.Acceptor.ready old; given = g.A.Acceptor.given old } in
    let a2 : Door g.row.A-Link.Denot = record { ready = g.A.Acceptor.ready new; given = g.A.Acceptor.given new } in
    let first : Heard = record { messages = c.new-messages.result; wait = c.new-wait.result; is_polled = true } in
    let last : Heard = record { messages = c.serve_until.new.messages; wait = c.serve_until.new.wait; is_polled = true } in
    serves_from (λ (link : g.row.A-Link.Denot). wire (g.A.Link.Link.ahead link) (g.A.Link.Link.written link) (g.A.Link.Link.fault_count link)) (λ (link : g.row.A-Link.Denot). g.A.Link.Link.number_of link)
    a a2 (g.A.Acceptor.fault_count old) (g.A.Acceptor.fault_count new) c.args.idle_time c.args.session.now c.serve_until.new.session (g.C.Clock.moments c.args.clock.now) (g.C.Clock.moments c.now-now.new.self) (g.C.Clock.moments c.serve_until.new.clock) (g.C.Clock.pauses c.args.clock.now)
    (g.C.Clock.pauses c.now-now.new.self) (g.C.Clock.pauses c.serve_until.new.clock) c.serve_until.result c.now-now.result first last (c.now-now.ensures.moment, c.now-now.ensures.left) c.new-messages.ensures.standing c.new-messages.ensures.closed c.new-wait.ensures.idle_time c.new-wait.ensures.active_at
    c.new-wait.ensures.cause refl c.now-now.ensures.pauses c.serve_until.ensures.ends
