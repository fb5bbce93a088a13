use Rattle.std.proofs.Common.{◌≡◌, length}
use Rattle.sc_main_words.specs.Addresses.{are_digits}
use Rattle.sc_main_words.proofs.address.are_digits.Given as goal

abbrev pub invariant-loop-left : goal.invariant-loop-left
invariant-loop-left l = are_digits l.left ≡ are_digits l.fn.word

abbrev pub decreases-loop-left : goal.decreases-loop-left
decreases-loop-left l = length l.left
