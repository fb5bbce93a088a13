use Rattle.std.proofs.Common.{◌≡◌, true, None, length}
use Rattle.sc_daemon.specs.Turns.{IsIdleLine}
use Rattle.sc_main.proofs.serving.serve_pieces.Given as goal
use Rattle.sc_main.specs.Progress.{Scene, SoFar, scene}
use Rattle.sc_main.specs.Serving.{wire}

abbrev pub invariant-loop-piece : goal.invariant-loop-piece
invariant-loop-piece g l = record {
  so_far : (first : Scene)
      → SoFar None first (scene l.fn.session (record { messages = l.fn.messages; wait = l.fn.wait; is_polled = true }) (g.C.Clock.moments l.fn.clock) (wire (g.K.Link.ahead l.fn.link) (g.K.Link.written l.fn.link) (g.K.Link.fault_count l.fn.link)))
      → SoFar None first (scene l.session (record { messages = l.messages; wait = l.wait; is_polled = true }) (g.C.Clock.moments l.clock) (wire (g.K.Link.ahead l.link) (g.K.Link.written l.link) (g.K.Link.fault_count l.link)));
  idle : IsIdleLine l.session.daemon.free l.session.line;
  size : length l.buffer ≡ length l.fn.buffer;
  pauses : g.C.Clock.pauses l.clock ≡ g.C.Clock.pauses l.fn.clock;
  same_shut : g.K.Link.is_shut l.link ≡ g.K.Link.is_shut l.fn.link;
  same_number : g.K.Link.number_of l.link ≡ g.K.Link.number_of l.fn.link;
}
