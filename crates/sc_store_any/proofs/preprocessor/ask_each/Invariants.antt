use Rattle.std.proofs.Common.{◌≡◌, ◌-◌, length}
use Rattle.sc_model.specs.declared.event.Answer.{Answer}
use Rattle.sc_store_alone.specs.Moving.{Keeps}
use Rattle.sc_store_alone.specs.Preprocessor.{AsksEach, AsksFrom}
use Rattle.sc_store.specs.Held.{Held}
use Rattle.sc_store_any.proofs.preprocessor.ask_each.Given as goal

abbrev pub invariant-loop-level : goal.invariant-loop-level
invariant-loop-level g l = record {
  keeps : Keeps l.fn.levels l.levels;
  count : l.count ≡ length l.fn.levels.levels;
  chain : (answer : Answer) (new : Held) → AsksFrom (l.count - l.level) l.level l.fn.key answer l.levels new → AsksEach l.fn.key answer l.fn.levels new;
}

abbrev pub decreases-loop-level : goal.decreases-loop-level
decreases-loop-level g l = l.count - l.level
