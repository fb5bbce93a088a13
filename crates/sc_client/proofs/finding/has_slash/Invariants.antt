use Rattle.std.proofs.Common.{◌≡◌, length}
use Rattle.sc_client.specs.Which.{has_slash}
use Rattle.sc_client.proofs.finding.has_slash.Given as goal

abbrev pub invariant-loop-left : goal.invariant-loop-left
invariant-loop-left l = has_slash l.left ≡ has_slash l.fn.name

abbrev pub decreases-loop-left : goal.decreases-loop-left
decreases-loop-left l = length l.left
