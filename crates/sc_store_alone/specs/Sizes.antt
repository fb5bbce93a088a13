-- How much the levels of a store take.
use Rattle.std.specs.Prelude.{ℕ, zero, suc, length, Option}
use Rattle.sc_model.specs.Plan.{level_facts}
use Rattle.sc_model.specs.Asking.{level_size}
use Rattle.sc_stats.specs.Sums.{sat}
use Rattle.sc_store.specs.Held.{Held, level_in, room_in}
use Rattle.sc_store.specs.Telling.{known}

-- what a level takes, where that is known
abbrev pub size_in : Held → ℕ → Option ℕ
size_in held l = level_size (level_facts held.facts l).kind (level_in held.levels l) (room_in held.rooms l).reserved

-- so many levels from this one on, added to what was summed so far; it stops at the end of u64
abbrev pub sizes_onto : ℕ → ℕ → ℕ → Held → ℕ
sizes_onto zero l sum held = sum
sizes_onto (suc left) l sum held = sizes_onto left (suc l) (sat sum (known (size_in held l))) held

abbrev pub size_sum : Held → ℕ
size_sum held = sizes_onto (length held.levels) 0 0 held
