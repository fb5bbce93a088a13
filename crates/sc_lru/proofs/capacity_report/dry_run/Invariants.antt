use Rattle.std.proofs.Common.{◌≡◌, map, take}
use Rattle.sc_lru.specs.DryRun.{dry_line}
use Rattle.sc_lru.proofs.capacity_report.dry_run.Given as goal

abbrev pub invariant-loop-capacity : goal.invariant-loop-capacity
invariant-loop-capacity g l = l.lines.items ≡ map (dry_line g.K.PartialEq.eq l.uses) (take l.capacity-index l.capacities)
