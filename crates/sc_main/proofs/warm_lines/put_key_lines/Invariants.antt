use Rattle.std.proofs.Common.{◌≡◌, ◌++◌, length}
use Rattle.sc_main.specs.Warming.{key_lines}
use Rattle.sc_main.proofs.warm_lines.put_key_lines.Given as goal

abbrev pub invariant-loop-keys_left : goal.invariant-loop-keys_left
invariant-loop-keys_left l = l.out.items ++ key_lines l.keys_left l.left ≡ l.fn.out.items ++ key_lines l.fn.keys l.fn.warmed

abbrev pub decreases-loop-keys_left : goal.decreases-loop-keys_left
decreases-loop-keys_left l = length l.keys_left
