use Rattle.std.proofs.Common.{length}
use Rattle.sc_model.specs.There.{AreLevels}
use Rattle.sc_model.specs.declared.phase.Refusal.{Refusal}
use Rattle.sc_model.specs.declared.phase.Refusal.TheVariants.{NoneYet}
use Rattle.sc_store_alone.specs.Moving.{Counted, Keeps, counted}
use Rattle.sc_store_alone.specs.Puts.{WritesEach}
use Rattle.sc_store_any.proofs.putting.write_each.Given as goal

abbrev pub invariant-loop-level : goal.invariant-loop-level
invariant-loop-level g l = record {
  keeps : Keeps l.fn.levels l.levels;
  there : AreLevels (length l.levels.levels) l.left;
  chain : (last : Refusal) (new : Counted) → WritesEach l.left l.fn.put.key l.fn.put.bytes l.fn.put.run l.refusal last (counted l.levels l.counters) new → WritesEach l.fn.plan l.fn.put.key l.fn.put.bytes l.fn.put.run NoneYet last (counted l.fn.levels l.fn.counters) new;
}

abbrev pub decreases-loop-level : goal.decreases-loop-level
decreases-loop-level g l = length l.left
