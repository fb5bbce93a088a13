use Rattle.std.proofs.Common.{◌≡◌, [], length}
use Rattle.sc_main_script_words.specs.Fields.{bytes_onto}
use Rattle.sc_main_script_words.proofs.fields.unescaped.Given as goal

abbrev pub invariant-loop-left : goal.invariant-loop-left
invariant-loop-left l = bytes_onto l.bytes l.left ≡ bytes_onto [] l.fn.word

abbrev pub decreases-loop-left : goal.decreases-loop-left
decreases-loop-left l = length l.left
