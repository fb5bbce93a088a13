use Rattle.std.proofs.Common.{length}
use Rattle.sc_client.proofs.finding.+first_in.Given as goal

abbrev pub decreases-first_in : goal.decreases-first_in
decreases-first_in g l = length l.folders.now
