use Rattle.std.proofs.Common.{length}
use Rattle.sc_model.specs.There.{AreLevels}
use Rattle.sc_store_alone.specs.Moving.{Keeps}
use Rattle.sc_store_alone.specs.Preprocessor.{PutsPreEach, PutsPreOver}
use Rattle.sc_store.specs.Held.{Held}
use Rattle.sc_store_any.proofs.preprocessor.put_each.Given as goal

abbrev pub invariant-loop-level : goal.invariant-loop-level
invariant-loop-level g l = record {
  keeps : Keeps l.fn.levels l.levels;
  there : AreLevels (length l.levels.levels) l.left;
  chain : (new : Held) → PutsPreEach l.left l.fn.key l.fn.bytes l.levels new → PutsPreOver l.fn.key l.fn.bytes l.fn.levels new;
}

abbrev pub decreases-loop-level : goal.decreases-loop-level
decreases-loop-level g l = length l.left
