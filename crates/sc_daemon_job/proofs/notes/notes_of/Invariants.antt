use Rattle.std.proofs.Common.{◌≡◌, ◌++◌, length}
use Rattle.sc_model.specs.Notes.{is_note}
use Rattle.sc_model.specs.Finishing.{kept_lines, lines}
use Rattle.sc_daemon_job.proofs.notes.notes_of.Given as goal

-- what is kept, and what is to be kept of the rest
abbrev pub invariant-loop-left : goal.invariant-loop-left
invariant-loop-left l = l.notes ++ kept_lines is_note (lines l.left) ≡ kept_lines is_note (lines l.fn.text)

abbrev pub decreases-loop-left : goal.decreases-loop-left
decreases-loop-left l = length l.left
