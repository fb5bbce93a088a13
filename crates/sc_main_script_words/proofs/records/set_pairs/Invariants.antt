use Rattle.std.proofs.Common.{◌≡◌, length}
use Rattle.sc_main_script_words.specs.Records.{pairs_onto}
use Rattle.sc_main_script_words.proofs.records.set_pairs.Given as goal

abbrev pub invariant-loop-name : goal.invariant-loop-name
invariant-loop-name l = pairs_onto l.stats l.words ≡ pairs_onto l.fn.stats l.fn.words

abbrev pub decreases-loop-name : goal.decreases-loop-name
decreases-loop-name l = length l.words
