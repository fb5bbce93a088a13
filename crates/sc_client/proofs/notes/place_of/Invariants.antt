use Rattle.std.proofs.Common.{◌≡◌, ◌+◌, length}
use Rattle.sc_client.specs.Notes.{place_among}
use Rattle.sc_client.proofs.notes.place_of.Given as goal

-- no notification before is the line
abbrev pub invariant-loop-left : goal.invariant-loop-left
invariant-loop-left l = (place_among l.fn.line l.fn.notes ≡ l.count + place_among l.fn.line l.left) × (length l.fn.notes ≡ l.count + length l.left)

abbrev pub decreases-loop-left : goal.decreases-loop-left
decreases-loop-left l = length l.left
