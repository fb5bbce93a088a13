use Rattle.std.proofs.Common.{◌≡◌, ◌++◌}
use Rattle.sc_main_generate.specs.Generated.{backs}
use Rattle.sc_main_generate.proofs.script.put_backs.Given as goal

abbrev pub invariant-loop-left : goal.invariant-loop-left
invariant-loop-left l = l.text ++ backs l.left ≡ l.fn.text ++ backs l.fn.count

abbrev pub decreases-loop-left : goal.decreases-loop-left
decreases-loop-left l = l.left
