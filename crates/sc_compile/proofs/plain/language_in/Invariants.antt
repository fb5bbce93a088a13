use Rattle.std.proofs.Common.{◌≡◌, length}
use Rattle.sc_compile.specs.Plain.{language_in}
use Rattle.sc_compile.proofs.plain.language_in.Given as goal

abbrev pub invariant-loop-left : goal.invariant-loop-left
invariant-loop-left l = language_in l.left ≡ language_in l.fn.words

abbrev pub decreases-loop-left : goal.decreases-loop-left
decreases-loop-left l = length l.left
