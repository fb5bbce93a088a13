use Rattle.std.proofs.Common.{◌≡◌, length}
use Rattle.sc_model.specs.Script.{named}
use Rattle.sc_daemon_action.proofs.control.is_set.Given as goal

abbrev pub invariant-loop-left : goal.invariant-loop-left
invariant-loop-left l = named l.name l.left ≡ named l.name l.variables

abbrev pub decreases-loop-left : goal.decreases-loop-left
decreases-loop-left l = length l.left
