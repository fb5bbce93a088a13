use Rattle.std.proofs.Common.{◌≡◌, ◌++◌}
use Rattle.std.specs.Vec.Iter.{into_iter_items}
use Rattle.sc_model.specs.Describing.{counters_in}
use Rattle.sc_daemon_action.proofs.telling.counters_told.Given as goal

-- the counters so far, and those that are left
abbrev pub invariant-loop-sized : goal.invariant-loop-sized
invariant-loop-sized l = l.counters ++ counters_in (into_iter_items l.sized-iterator) ≡ counters_in l.fn.sizes
