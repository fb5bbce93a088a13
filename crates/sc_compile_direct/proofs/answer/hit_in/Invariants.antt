use Rattle.std.proofs.Common.{◌≡◌, ◌≤◌, length}
use Rattle.sc_model.specs.Job.{hit_of}
use Rattle.sc_compile_direct.specs.Following.{newest_first}
use Rattle.sc_compile_direct.proofs.answer.hit_in.Given as goal

-- no hit stands behind these
abbrev pub invariant-loop-left : goal.invariant-loop-left
invariant-loop-left l = (hit_of (newest_first l.left) ≡ hit_of (newest_first l.fn.events)) × (length l.left ≤ length l.fn.events)

abbrev pub decreases-loop-left : goal.decreases-loop-left
decreases-loop-left l = length l.left
