use Rattle.std.proofs.Common.{◌≡◌, ◌-◌, length, Option}
use Rattle.sc_store_alone.specs.Lookups.{Finds, FindsFrom}
use Rattle.sc_store_alone.specs.Moving.{Counted, Keeps, counted}
use Rattle.sc_store_alone.specs.declared.hit.Hit.{Hit}
use Rattle.sc_store_any.proofs.lookup.find.Given as goal

abbrev pub invariant-loop-level : goal.invariant-loop-level
invariant-loop-level g l = record {
  keeps : Keeps l.fn.levels l.levels;
  count : l.count ≡ length l.fn.levels.levels;
  chain : (found : Option Hit) (new : Counted) → FindsFrom (l.count - l.level) l.level l.fn.key l.fn.mode found (counted l.levels l.counters) new → Finds l.fn.key l.fn.mode found (counted l.fn.levels l.fn.counters) new;
}

abbrev pub decreases-loop-level : goal.decreases-loop-level
decreases-loop-level g l = l.count - l.level
