use Rattle.std.proofs.Common.{◌≡◌, ◌≤◌, length}
use Rattle.sc_compile_direct.specs.Answers.{answer_in}
use Rattle.sc_compile_direct.specs.Following.{newest_first}
use Rattle.sc_compile_direct.proofs.answer.answer_in.Given as goal

-- no outcome stands behind these
abbrev pub invariant-loop-left : goal.invariant-loop-left
invariant-loop-left l = (answer_in (newest_first l.left) ≡ answer_in (newest_first l.fn.events)) × (length l.left ≤ length l.fn.events)

abbrev pub decreases-loop-left : goal.decreases-loop-left
decreases-loop-left l = length l.left
