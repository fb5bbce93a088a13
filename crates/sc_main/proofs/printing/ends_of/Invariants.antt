use Rattle.std.proofs.Common.{◌≡◌, ◌++◌, length, map}
use Rattle.sc_daemon.specs.declared.driven.DrivenConn.{DrivenConn}
use Rattle.sc_main.proofs.printing.ends_of.Given as goal

abbrev pub invariant-loop-left : goal.invariant-loop-left
invariant-loop-left l = l.ends.items ++ map (λ (c : DrivenConn). c.end) l.left ≡ map (λ (c : DrivenConn). c.end) l.conns

abbrev pub decreases-loop-left : goal.decreases-loop-left
decreases-loop-left l = length l.left
