use Rattle.std.proofs.Common.{◌≡◌, [], length}
use Rattle.sc_main_script_words.specs.Requests.{tokens_onto}
use Rattle.sc_main_script_words.proofs.requests.tokens.Given as goal

abbrev pub invariant-loop-word : goal.invariant-loop-word
invariant-loop-word l = tokens_onto l.items l.words ≡ tokens_onto [] l.fn.words

abbrev pub decreases-loop-word : goal.decreases-loop-word
decreases-loop-word l = length l.words
