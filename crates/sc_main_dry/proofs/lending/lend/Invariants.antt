use Rattle.std.proofs.Common.{◌≡◌, ◌++◌, length, map}
use Rattle.sc_main_dry.specs.Lending.{lent}
use Rattle.sc_main_dry.proofs.lending.lend.Given as goal

abbrev pub invariant-loop-left : goal.invariant-loop-left
invariant-loop-left l = map lent l.lending.items ++ l.left ≡ l.fn.uses

abbrev pub decreases-loop-left : goal.decreases-loop-left
decreases-loop-left l = length l.left
