-- Numbers that are drawn one after another.
use Rattle.std.specs.Prelude.{ℕ, ◌+◌, ◌*◌, ◌/◌, ◌%◌}

-- the state that a draw leaves
abbrev pub next : ℕ → ℕ
next x = (1103515245 * x + 12345) % 2147483648

-- what a draw gives that left this state
abbrev pub drawn : ℕ → ℕ
drawn x = x / 65536
