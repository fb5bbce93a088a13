-- What a take of a pool answers.
use Rattle.std.specs.Prelude.{◌≡◌, ◌+◌, Option, Some, None}
use Rattle.sc_command.specs.declared.pool.Pool.{Pool}

-- No token exactly where none is free, and then nothing changes; else one of the free tokens is out.
abbrev pub Takes : {A : Type 0} → Pool → Option A → Pool → Type 0
Takes before None after = (before.free ≡ 0) × (after ≡ before)
Takes before (Some token) after = (before.free ≡ after.free + 1) × (after.out ≡ before.out + 1) × (after.size ≡ before.size)

-- what the take of a pool answered
abbrev pub IsTaken : {A : Type 0} → Option A → Type 0
IsTaken answer = (before : Pool) × (after : Pool) × Takes before answer after
