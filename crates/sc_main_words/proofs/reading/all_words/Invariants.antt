use Rattle.std.proofs.Common.{◌≡◌, ◌++◌, length}
use Rattle.sc_main_words.proofs.reading.all_words.Given as goal

abbrev pub invariant-loop-word : goal.invariant-loop-word
invariant-loop-word l = l.items ++ l.words ≡ l.fn.words

abbrev pub decreases-loop-word : goal.decreases-loop-word
decreases-loop-word l = length l.words
