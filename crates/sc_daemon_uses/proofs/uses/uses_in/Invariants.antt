use Rattle.std.proofs.Common.{◌≡◌, ◌++◌, length, map}
use Rattle.sc_daemon_uses.specs.Uses.{lent, uses_in}
use Rattle.sc_daemon_uses.proofs.uses.uses_in.Given as goal

abbrev pub invariant-loop-left : goal.invariant-loop-left
invariant-loop-left l = map lent l.uses.items ++ uses_in l.level l.left ≡ uses_in l.fn.level l.fn.events

abbrev pub decreases-loop-left : goal.decreases-loop-left
decreases-loop-left l = length l.left
