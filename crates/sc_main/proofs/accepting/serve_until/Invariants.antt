use Rattle.std.proofs.Common.{◌≡◌, true, None, length}
use Rattle.sc_daemon.specs.Lines.{new_line}
use Rattle.sc_main.specs.Accepting.{ServesAll, desk}
use Rattle.sc_main.specs.Serving.{wire}
use Rattle.sc_main.proofs.accepting.serve_until.Given as goal

abbrev pub invariant-loop-turn : goal.invariant-loop-turn
invariant-loop-turn g l = record {
  all : ServesAll (λ (link : g.row.A-Link.Denot). wire (g.A.Link.Link.ahead link) (g.A.Link.Link.written link) (g.A.Link.Link.fault_count link)) g.A.Link.Link.number_of
      (record { ready = g.A.Acceptor.ready l.fn.acceptor; given = g.A.Acceptor.given l.fn.acceptor }) (record { ready = g.A.Acceptor.ready l.acceptor; given = g.A.Acceptor.given l.acceptor })
      (desk l.fn.session (record { messages = l.fn.messages; wait = l.fn.wait; is_polled = true }) (g.C.Clock.moments l.fn.clock) (g.C.Clock.pauses l.fn.clock))
      (desk l.session (record { messages = l.messages; wait = l.wait; is_polled = true }) (g.C.Clock.moments l.clock) (g.C.Clock.pauses l.clock));
  line : l.session.line ≡ new_line l.session.daemon.state.config.limit;
  uncaused : l.wait.cause ≡ None;
  size : length l.buffer ≡ length l.fn.buffer;
  faults : g.A.Acceptor.fault_count l.acceptor ≡ g.A.Acceptor.fault_count l.fn.acceptor;
}
