use Rattle.std.proofs.Common.{◌≡◌, ◌∷◌, [], length}
use Rattle.sc_main_script_words.specs.Outputs.{texts_onto}
use Rattle.sc_main_script_words.proofs.outputs.texts.Given as goal

abbrev pub invariant-loop-word : goal.invariant-loop-word
invariant-loop-word l = texts_onto l.texts l.words ≡ texts_onto (l.fn.first ∷ []) l.fn.words

abbrev pub decreases-loop-word : goal.decreases-loop-word
decreases-loop-word l = length l.words
