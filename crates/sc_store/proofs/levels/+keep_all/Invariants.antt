use Rattle.std.proofs.Common.{length}
use Rattle.sc_store.proofs.levels.+keep_all.Given as goal

abbrev pub decreases-keep_all : goal.decreases-keep_all
decreases-keep_all g l = length l.levels.now
