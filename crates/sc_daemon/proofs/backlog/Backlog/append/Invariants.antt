use Rattle.std.proofs.Common.{◌≡◌, ◌+◌, ◌++◌, length}
use Rattle.sc_daemon.specs.Backlogs.{fresh_writes}
use Rattle.sc_model.specs.Pendings.{pend}
use Rattle.sc_model.specs.Trace.{numbered}
use Rattle.sc_daemon.proofs.backlog.Backlog.append.Given as goal

abbrev pub invariant-loop-left : goal.invariant-loop-left
invariant-loop-left l =
    (l.self-inside.writes ++ fresh_writes (pend (numbered l.number l.moment l.backfill l.left)) ≡ l.fn.self ++ fresh_writes (pend (numbered l.fn.first l.moment l.backfill l.fn.handed)))
    × (l.number + length l.left ≡ l.fn.first + length l.fn.handed)

abbrev pub decreases-loop-left : goal.decreases-loop-left
decreases-loop-left l = length l.left
