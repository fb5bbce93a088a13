use Rattle.std.proofs.Common.{◌≡◌, false, None}
use Rattle.sc_main.proofs.answering.answer_all.Given as goal
use Rattle.sc_main.specs.Progress.{Scene, SoFar, scene}
use Rattle.sc_main.specs.Serving.{wire}
use Rattle.sc_server_activity.specs.declared.shutdown_or_inactive.ShutdownOrInactive.{ShutdownOrInactive}

abbrev pub invariant-loop-action : goal.invariant-loop-action
invariant-loop-action g l = record {
  so_far : (first : Scene) (wait : ShutdownOrInactive)
      → SoFar None first (scene l.fn.session (record { messages = l.fn.messages; wait = wait; is_polled = false }) (g.C.Clock.moments l.fn.clock) (wire (g.K.Link.ahead l.fn.link) (g.K.Link.written l.fn.link) (g.K.Link.fault_count l.fn.link)))
      → SoFar l.refused first (scene l.session (record { messages = l.messages; wait = wait; is_polled = false }) (g.C.Clock.moments l.clock) (wire (g.K.Link.ahead l.link) (g.K.Link.written l.link) (g.K.Link.fault_count l.link)));
  pauses : g.C.Clock.pauses l.clock ≡ g.C.Clock.pauses l.fn.clock;
  same_shut : g.K.Link.is_shut l.link ≡ g.K.Link.is_shut l.fn.link;
  same_number : g.K.Link.number_of l.link ≡ g.K.Link.number_of l.fn.link;
}
