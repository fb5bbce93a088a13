use Rattle.std.proofs.Common.{◌≡◌, length}
use Rattle.sc_model.specs.World.{first_missing}
use Rattle.sc_daemon_owned.proofs.missing.first_missing_in.Given as goal

-- none before is missing
abbrev pub invariant-loop-left : goal.invariant-loop-left
invariant-loop-left l = first_missing l.entry l.left ≡ first_missing l.entry l.fn.outputs

abbrev pub decreases-loop-left : goal.decreases-loop-left
decreases-loop-left l = length l.left
