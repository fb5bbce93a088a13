use Rattle.std.proofs.Common.{◌≡◌, [], length}
use Rattle.sc_main_words.specs.Commands.{numbers_onto}
use Rattle.sc_main_words.proofs.reading.numbers.Given as goal

abbrev pub invariant-loop-word : goal.invariant-loop-word
invariant-loop-word l = numbers_onto l.items l.words ≡ numbers_onto [] l.fn.words

abbrev pub decreases-loop-word : goal.decreases-loop-word
decreases-loop-word l = length l.words
