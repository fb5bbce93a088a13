use Rattle.std.proofs.Common.{◌≡◌, ◌++◌, length}
use Rattle.sc_client.specs.Escapes.{filtered}
use Rattle.sc_client.proofs.escapes.filter_escapes.Given as goal

abbrev pub invariant-loop-left : goal.invariant-loop-left
invariant-loop-left l = l.kept ++ filtered l.left ≡ filtered l.fn.bytes

abbrev pub decreases-loop-left : goal.decreases-loop-left
decreases-loop-left l = length l.left
