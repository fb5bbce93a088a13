use Rattle.std.proofs.Common.{◌≡◌, ◌++◌, take}
use Rattle.sc_command.proofs.words.append_words.Given as goal

abbrev pub invariant-loop-word : goal.invariant-loop-word
invariant-loop-word l = l.all ≡ l.fn.all ++ take l.word-index l.words
