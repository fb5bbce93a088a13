use Rattle.std.proofs.Common.{◌≡◌, ◌++◌, length}
use Rattle.sc_client.specs.Notes.{kept_of, lines_of}
use Rattle.sc_client.proofs.notes.without_notes.Given as goal

abbrev pub invariant-loop-left : goal.invariant-loop-left
invariant-loop-left l = l.kept ++ kept_of l.notes.items (lines_of l.left) ≡ kept_of l.fn.notes (lines_of l.fn.text)

abbrev pub decreases-loop-left : goal.decreases-loop-left
decreases-loop-left l = length l.left
