use Rattle.sc_daemon_job.specs.Setups.{setup}
use Rattle.sc_compile_direct.proofs.Going.{left_at}
use Rattle.sc_compile_direct.proofs.Tying.{UnderWay}
use Rattle.sc_compile_direct.proofs.direct.compile_beside.Given as goal

abbrev pub invariant-loop-running : goal.invariant-loop-running
invariant-loop-running g l = UnderWay g.H.Hold.config g.H.Hold.rooms g.H.Hold.moment g.H.Hold.moves l.fn.compile l.fn.task l.fn.hold l.hold l.running

abbrev pub decreases-loop-running : goal.decreases-loop-running
decreases-loop-running g l = left_at (setup (g.H.Hold.config l.fn.hold)) l.running.phase
