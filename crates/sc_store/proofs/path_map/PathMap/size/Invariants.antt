use Rattle.std.proofs.Common.{◌≡◌, ◌-◌, ◌^◌, map, min}
use Rattle.std.specs.Map.Iter.{deref_pair}
use Rattle.sc_model.specs.Levels.{sum_lengths}
use Rattle.sc_store.proofs.path_map.PathMap.size.Given as goal

-- the bytes that were given so far
abbrev pub invariant-loop-bytes : goal.invariant-loop-bytes
invariant-loop-bytes l = l.size ≡ min (sum_lengths (map deref_pair l.yielded)) (2 ^ 64 - 1)
