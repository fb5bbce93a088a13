use Rattle.std.proofs.Common.{length}
use Rattle.sc_model.specs.There.{AreHanded}
use Rattle.sc_store_alone.specs.Moving.{Counted, Keeps, counted}
use Rattle.sc_store_alone.specs.Puts.{WritesHanded}
use Rattle.sc_store_any.proofs.putting.write_handed.Given as goal

abbrev pub invariant-loop-left : goal.invariant-loop-left
invariant-loop-left g l = record {
  keeps : Keeps l.fn.levels l.levels;
  there : AreHanded (length l.levels.levels) l.left;
  chain : (new : Counted) → WritesHanded l.fn.backfill l.left (counted l.levels l.counters) new → WritesHanded l.fn.backfill l.fn.handed (counted l.fn.levels l.fn.counters) new;
}

abbrev pub decreases-loop-left : goal.decreases-loop-left
decreases-loop-left g l = length l.left
