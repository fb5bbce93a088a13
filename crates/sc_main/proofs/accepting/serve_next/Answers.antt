use Rattle.std.proofs.Common.{true}
use Rattle.sc_main.proofs.Turning.{link_by}
use Rattle.sc_main.specs.Accepting.{Door}
use Rattle.sc_main.specs.Deeds.{Heard}
use Rattle.sc_main.specs.Serving.{wire}
use Rattle.sc_main.proofs.accepting.serve_next.Goals as goal

pub returns-in_ok-serve_one-in-Link-clause-next : goal.returns-in_ok-serve_one-in-Link-clause-next
returns-in_ok-serve_one-in-Link-clause-next g c =
    let old = c.args.acceptor.now in
    let new = c.accept.new.self in
    let a : Door g.row.A-Link.Denot = record { ready = g.A.Acceptor.ready old; given = g.A.Acceptor.given old } in
    let a2 : Door g.row.A-Link.Denot = record { ready = g.A.Acceptor.ready new; given = g.A.Acceptor.given new } in
    let h : Heard = record { messages = c.args.messages.now; wait = c.args.wait.now; is_polled = true } in
    let h2 : Heard = record { messages = c.serve_one.new.messages; wait = c.serve_one.new.wait; is_polled = true } in
    let asked = c.in_ok-link.ensures in
    link_by (λ (link : g.row.A-Link.Denot). wire (g.A.Link.Link.ahead link) (g.A.Link.Link.written link) (g.A.Link.Link.fault_count link)) (λ (link : g.row.A-Link.Denot). g.A.Link.Link.number_of link)
    a a2 c.in_ok-link.field-0 c.in-Link.link c.serve_one.new.link c.in_ok-serve_one-in-Link.field-0 c.args.session.now c.serve_one.new.session c.renew.new.self h h2 (g.C.Clock.moments c.args.clock.now) (g.C.Clock.moments c.serve_one.new.clock) (g.C.Clock.pauses c.args.clock.now) (g.C.Clock.pauses c.serve_one.new.clock)
    (g.A.Acceptor.fault_count old) (g.A.Acceptor.fault_count new) c.in-Link.is asked.told asked.given asked.number asked.cause c.in_ok-serve_one-in-Link.ensures.serves c.serve_one.ensures.pauses c.renew.ensures.daemon c.renew.ensures.line c.renew.ensures.lost
