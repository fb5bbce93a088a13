use Rattle.std.proofs.Common.{◌≡◌, ◌-◌, length}
use Rattle.sc_store_alone.specs.Checks.{ChecksAll, ChecksFrom, Stays}
use Rattle.sc_store.specs.Held.{Held}
use Rattle.sc_store.specs.declared.checked.Checked.{Checked}
use Rattle.sc_store_any.proofs.checking.check.Given as goal

abbrev pub invariant-loop-level : goal.invariant-loop-level
invariant-loop-level g l = record {
  stays : Stays l.fn.levels l.levels;
  count : l.count ≡ length l.fn.levels.levels;
  chain : (answer : Checked) (new : Held) → ChecksFrom (l.count - l.level) l.level l.mode answer l.levels new → ChecksAll answer l.fn.levels new;
}

abbrev pub decreases-loop-level : goal.decreases-loop-level
decreases-loop-level g l = l.count - l.level
