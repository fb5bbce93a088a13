-- Figures that statistics are printed as.
use Rattle.std.specs.Prelude.{ℕ, ◌+◌, ◌-◌, ◌*◌, ◌/◌, ◌%◌, ◌^◌, ◌==◌, cond, nat_lt, List, [], ◌∷◌, ◌++◌, codes}
use Rattle.std.specs.Fmt.{decimal}

-- the whole number next to q and a part of one: below over it, above short of the next; in the middle the even one
abbrev pub nearest : ℕ → ℕ → ℕ → ℕ
nearest q below above = cond (nat_lt below above) q (cond (nat_lt above below) (q + 1) (q + q % 2))

-- a quotient rounded to the nearest whole number, from the middle to the even one; 0 of none
abbrev pub half_even : ℕ → ℕ → ℕ
half_even n d = cond (d == 0) 0 (nearest (n / d) (n % d) (d - n % d))

-- hits in hundredths of a percent
abbrev pub hit_rate : ℕ → ℕ → ℕ
hit_rate hits misses = half_even (10000 * hits) (hits + misses)

-- the average of a span of nanoseconds, in microseconds
abbrev pub microseconds_each : ℕ → ℕ → ℕ
microseconds_each nanoseconds count = half_even nanoseconds (1000 * count)

-- the average of a span in whole nanoseconds; 0 of none
abbrev pub average : ℕ → ℕ → ℕ
average nanoseconds count = cond (count == 0) 0 (nanoseconds / count)

abbrev pub two_digits : ℕ → List ℕ
two_digits n = (48 + n / 10) ∷ (48 + n % 10) ∷ []

abbrev pub three_digits : ℕ → List ℕ
three_digits n = (48 + n / 100) ∷ two_digits (n % 100)

-- hundredths of a percent, with two decimals
abbrev pub percent_text : ℕ → List ℕ
percent_text hundredths = decimal (hundredths / 100) ++ codes "." ++ two_digits (hundredths % 100) ++ codes " %"

-- seconds, with milliseconds cut off
abbrev pub seconds_text : ℕ → List ℕ
seconds_text nanoseconds = decimal (nanoseconds / 10 ^ 9) ++ codes "." ++ three_digits (nanoseconds % 10 ^ 9 / 10 ^ 6) ++ codes " s"
