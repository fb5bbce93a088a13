use Rattle.std.proofs.Common.{◌≡◌, ◌++◌, length}
use Rattle.sc_main_dry.specs.Printed.{dry_text}
use Rattle.sc_main_dry.proofs.printing.put_dry_lines.Given as goal

abbrev pub invariant-loop-left : goal.invariant-loop-left
invariant-loop-left l = l.out.items ++ dry_text l.left ≡ l.fn.out.items ++ dry_text l.fn.lines

abbrev pub decreases-loop-left : goal.decreases-loop-left
decreases-loop-left l = length l.left
