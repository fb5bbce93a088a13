use Rattle.std.proofs.Common.{◌≡◌, length}
use Rattle.sc_host_probe.specs.Kinds.{has_clang}
use Rattle.sc_host_probe.proofs.kinds.has_clang.Given as goal

abbrev pub invariant-loop-left : goal.invariant-loop-left
invariant-loop-left l = has_clang l.left ≡ has_clang l.fn.name

abbrev pub decreases-loop-left : goal.decreases-loop-left
decreases-loop-left l = length l.left
