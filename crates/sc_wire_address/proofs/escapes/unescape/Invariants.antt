use Rattle.std.proofs.Common.{◌≡◌, [], length}
use Rattle.sc_wire_address.specs.Escapes.{unescaped_onto}
use Rattle.sc_wire_address.proofs.escapes.unescape.Given as goal

abbrev pub invariant-loop-left : goal.invariant-loop-left
invariant-loop-left l = unescaped_onto l.bytes l.left ≡ unescaped_onto [] l.fn.text

abbrev pub decreases-loop-left : goal.decreases-loop-left
decreases-loop-left l = length l.left
