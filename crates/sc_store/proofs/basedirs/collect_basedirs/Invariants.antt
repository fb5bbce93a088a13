use Rattle.std.proofs.Common.{◌≡◌, ◌≤◌, ◌-◌, drop, length}
use Rattle.sc_store.specs.Basedirs.{IsSetOf, basedirs_of, collect_all}
use Rattle.sc_store.proofs.basedirs.collect_basedirs.Given as goal

abbrev pub invariant-loop-level : goal.invariant-loop-level
invariant-loop-level g l = record {
  count : l.count ≡ length l.fn.levels.titles;
  within : l.level ≤ l.count;
  named : IsSetOf l.named l.seen.items;
  collected : collect_all l.seen.items (drop l.level l.fn.levels.titles) ≡ basedirs_of l.fn.levels.titles;
}

abbrev pub decreases-loop-level : goal.decreases-loop-level
decreases-loop-level g l = l.count - l.level
