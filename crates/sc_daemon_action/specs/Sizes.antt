-- What one level told of itself, beside those behind it.
use Rattle.std.specs.Prelude.{ℕ, List, [], ◌∷◌, Some, None}
use Rattle.sc_model.specs.declared.phase.Sized.{Sized}
use Rattle.sc_stats.specs.Sums.{sat}
use Rattle.sc_stats.specs.declared.counters.LevelStats.{LevelStats}

-- its size, where it is known, added to theirs
abbrev pub with_size : Sized → ℕ → ℕ
with_size z sum = elim z.size [ None ↦ sum | Some n ↦ sat n sum ]

-- its counters, if it told any
abbrev pub counters_of : Sized → List LevelStats
counters_of z = elim z.counters [ None ↦ [] | Some c ↦ c ∷ [] ]
