use Rattle.std.proofs.Common.{◌≡◌, ◌+◌, ◌++◌, length}
use Rattle.sc_store.specs.Telling as telling
use Rattle.sc_store.proofs.telling.new_counters.Given as goal

-- what was made is a front part; each level has a number
abbrev pub invariant-loop-left : goal.invariant-loop-left
invariant-loop-left g l =
    (l.counters.items ++ telling.new_counters l.number (telling.titles_of l.left) ≡ telling.new_counters 0 (telling.titles_of l.fn.levels))
    × (l.number + length l.left ≡ length l.fn.levels)

abbrev pub decreases-loop-left : goal.decreases-loop-left
decreases-loop-left g l = length l.left
