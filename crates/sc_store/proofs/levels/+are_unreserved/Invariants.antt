use Rattle.std.proofs.Common.{length}
use Rattle.sc_store.proofs.levels.+are_unreserved.Given as goal

abbrev pub decreases-are_unreserved : goal.decreases-are_unreserved
decreases-are_unreserved g l = length l.levels.now
