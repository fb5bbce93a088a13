use Rattle.std.proofs.Common.{◌≡◌, ◌++◌, length}
use Rattle.sc_main_script_words.specs.Tokens.{escaped}
use Rattle.sc_main_script_words.proofs.tokens.put_escaped.Given as goal

abbrev pub invariant-loop-left : goal.invariant-loop-left
invariant-loop-left l = l.out.items ++ escaped l.spaces l.left ≡ l.fn.out.items ++ escaped l.spaces l.fn.bytes

abbrev pub decreases-loop-left : goal.decreases-loop-left
decreases-loop-left l = length l.left
