use Rattle.std.proofs.Common.{◌≡◌, length}
use Rattle.sc_entry.specs.Keys.{are_key_bytes}
use Rattle.sc_main_script_words.proofs.fields.are_key_bytes.Given as goal

abbrev pub invariant-loop-left : goal.invariant-loop-left
invariant-loop-left l = are_key_bytes l.left ≡ are_key_bytes l.fn.bytes

abbrev pub decreases-loop-left : goal.decreases-loop-left
decreases-loop-left l = length l.left
