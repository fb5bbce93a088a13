use Rattle.std.proofs.Common.{length}
use Rattle.sc_daemon_action.proofs.telling.+size_sum.Given as goal

abbrev pub decreases-size_sum : goal.decreases-size_sum
decreases-size_sum l = length l.sizes.now
