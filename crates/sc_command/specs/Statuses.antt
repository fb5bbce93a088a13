-- What a value of the system's wait tells of how a child ended.
use Rattle.std.specs.Prelude.{ℕ, ◌/◌, ◌%◌, ◌==◌, ◌||◌, cond, ℤ, pos, Option, Some, None}
use Rattle.std.specs.Int.{w32, cast_unsigned}

-- the value's low seven bits
abbrev pub low_seven : ℤ → ℕ
low_seven value = cast_unsigned w32 value % 128

-- low seven bits of 0: the code is bits 8 to 15
abbrev pub code_of : ℤ → Option ℤ
code_of value = cond (low_seven value == 0) (Some (pos (cast_unsigned w32 value / 256 % 256))) None

-- low seven bits of 0 and of 127: no signal; else they are the signal
abbrev pub signal_of : ℤ → Option ℤ
signal_of value = cond ((low_seven value == 0) || (low_seven value == 127)) None (Some (pos (low_seven value)))
