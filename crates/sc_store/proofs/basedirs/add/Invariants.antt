use Rattle.std.proofs.Common.{◌≡◌, length}
use Rattle.sc_store.specs.Basedirs.{IsSetOf, collect}
use Rattle.sc_store.proofs.basedirs.add.Given as goal

abbrev pub invariant-loop-left : goal.invariant-loop-left
invariant-loop-left l = record {
  named : IsSetOf l.named l.seen.items;
  collected : collect l.seen.items l.left ≡ collect l.fn.seen.items l.fn.basedirs;
}

abbrev pub decreases-loop-left : goal.decreases-loop-left
decreases-loop-left l = length l.left
