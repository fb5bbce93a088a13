-- What all uses come to, whatever the capacity.
use Rattle.std.specs.Prelude.{ℕ, ◌+◌, List, [], ◌∷◌}
use Rattle.sc_lru.specs.declared.capacity_report.Use.{Use}
use Rattle.sc_lru.specs.declared.capacity_report.Use.TheVariants.{Get, Put}

-- how many of them are gets
abbrev pub get_count : {K : Type 0} → List (Use K) → ℕ
get_count [] = 0
get_count (Get key ∷ us) = 1 + get_count us
get_count (Put key bytes ∷ us) = get_count us

-- how many bytes all puts have together
abbrev pub put_bytes : {K : Type 0} → List (Use K) → ℕ
put_bytes [] = 0
put_bytes (Get key ∷ us) = put_bytes us
put_bytes (Put key bytes ∷ us) = bytes + put_bytes us
