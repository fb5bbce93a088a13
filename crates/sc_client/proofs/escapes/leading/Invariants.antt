use Rattle.std.proofs.Common.{◌≡◌, ◌+◌, length}
use Rattle.sc_client.specs.Escapes.{leading}
use Rattle.sc_client.proofs.escapes.leading.Given as goal

-- all bytes before are within
abbrev pub invariant-loop-left : goal.invariant-loop-left
invariant-loop-left l = (leading l.fn.low l.fn.high l.fn.bytes ≡ l.count + leading l.fn.low l.fn.high l.left) × (length l.fn.bytes ≡ l.count + length l.left)

abbrev pub decreases-loop-left : goal.decreases-loop-left
decreases-loop-left l = length l.left
