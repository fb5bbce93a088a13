use Rattle.std.proofs.Common.{◌≡◌, ◌-◌, length, true}
use Rattle.sc_store_alone.specs.Sizes.{size_sum, sizes_onto}
use Rattle.sc_store_any.proofs.sizes.current_size.Given as goal

abbrev pub invariant-loop-level : goal.invariant-loop-level
invariant-loop-level g l = record {
  count : l.count ≡ length l.fn.levels.levels;
  summed : l.fn.levels.told ≡ true → sizes_onto (l.count - l.level) l.level l.sum l.fn.levels ≡ size_sum l.fn.levels;
}

abbrev pub decreases-loop-level : goal.decreases-loop-level
decreases-loop-level g l = l.count - l.level
