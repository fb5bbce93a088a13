use Rattle.std.proofs.Common.{◌≡◌, ◌+◌, length}
use Rattle.sc_client.specs.Notes.{before_feed}
use Rattle.sc_client.proofs.notes.before_feed.Given as goal

-- no byte before is a line feed
abbrev pub invariant-loop-left : goal.invariant-loop-left
invariant-loop-left l = (before_feed l.fn.text ≡ l.count + before_feed l.left) × (length l.fn.text ≡ l.count + length l.left)

abbrev pub decreases-loop-left : goal.decreases-loop-left
decreases-loop-left l = length l.left
