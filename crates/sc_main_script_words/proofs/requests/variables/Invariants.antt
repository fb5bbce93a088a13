use Rattle.std.proofs.Common.{◌≡◌, [], length}
use Rattle.sc_main_script_words.specs.Requests.{variables_onto}
use Rattle.sc_main_script_words.proofs.requests.variables.Given as goal

abbrev pub invariant-loop-word : goal.invariant-loop-word
invariant-loop-word l = variables_onto l.items l.words ≡ variables_onto [] l.fn.words

abbrev pub decreases-loop-word : goal.decreases-loop-word
decreases-loop-word l = length l.words
