use Rattle.std.proofs.Common.{◌≡◌, ◌++◌, length}
use Rattle.sc_model.specs.Afterwards.{notes_then}
use Rattle.sc_daemon_action.proofs.sending.replies_left.Given as goal

abbrev pub invariant-loop-note : goal.invariant-loop-note
invariant-loop-note l = l.left ++ notes_then l.rest l.last ≡ l.fn.left ++ notes_then l.fn.notes l.fn.last

abbrev pub decreases-loop-note : goal.decreases-loop-note
decreases-loop-note l = length l.rest
