-- Spans of time, in nanoseconds.
use Rattle.std.specs.Prelude.{ℕ, ◌+◌, min}

-- u64's greatest number of seconds, and 999,999,999 nanoseconds
abbrev pub longest : ℕ
longest = 18446744073709551615999999999

-- two spans one after the other, no longer than the longest
abbrev pub more_time : ℕ → ℕ → ℕ
more_time a b = min (a + b) longest
