use Rattle.std.proofs.Common.{◌≡◌, ℕ, ◌+◌, ◌++◌, drop, true}
use Rattle.sc_main_memory.specs.Sizes.{sizes_of}
use Rattle.sc_store.specs.Held.{room_in}
use Rattle.sc_main_memory.proofs.sizes.sizes_of.Given as goal

abbrev pub invariant-loop-level : goal.invariant-loop-level
invariant-loop-level l = l.fn.levels.told ≡ true
    → l.sizes.items ++ sizes_of (λ (n : ℕ). (room_in l.fn.levels.rooms (l.level + n)).reserved) (drop l.level l.fn.levels.levels) ≡ sizes_of (λ (n : ℕ). (room_in l.fn.levels.rooms n).reserved) l.fn.levels.levels
