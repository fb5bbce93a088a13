use Rattle.std.proofs.Common.{◌≡◌, [], length}
use Rattle.sc_main_script_words.specs.Outputs.{objects_onto, no_names}
use Rattle.sc_main_script_words.proofs.outputs.objects.Given as goal

abbrev pub invariant-loop-word : goal.invariant-loop-word
invariant-loop-word l = objects_onto l.items l.names l.words ≡ objects_onto [] no_names l.fn.words

abbrev pub decreases-loop-word : goal.decreases-loop-word
decreases-loop-word l = length l.words
