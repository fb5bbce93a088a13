use Rattle.std.specs.Prelude.{◌≡◌, ℕ, ◌+◌, ◌-◌, ◌^◌, min, List, [], ◌∷◌, ◌++◌, sum, unwrap_or}
use Rattle.std.specs.Coded.{Coded, coded_ℕ, coded_list}
use Rattle.std.specs.FinMap as map
use Rattle.std.specs.Ordering.{nat_cmp}
use Rattle.std.specs.Cmp.Lexicographic.{slice_cmp}

-- how often each text was counted
abbrev pub Tally : Type 0
Tally = map.FinMap (slice_cmp nat_cmp) ℕ

abbrev pub tally_code : Coded Tally
tally_code = map.code (coded_list coded_ℕ) coded_ℕ

abbrev pub tally_of : List (List ℕ × ℕ) → Tally
tally_of entries = map.from_entries entries

-- each text with its count, the texts ascending by their bytes
abbrev pub entries_of : Tally → List (List ℕ × ℕ)
entries_of tally = map.entries tally

-- a text's count
abbrev pub count_of : Tally → List ℕ → ℕ
count_of tally text = unwrap_or (map.get tally text) 0

-- a tally with more of one text; counts stop at the end of u64
abbrev pub counted : Tally → List ℕ → ℕ → Tally
counted tally text n = map.insert tally text (min (count_of tally text + n) (2 ^ 64 - 1))

-- more of each text of a list, one after the other
abbrev pub add_each : List (List ℕ × ℕ) → Tally → Tally
add_each [] tally = tally
add_each (e ∷ es) tally = add_each es (counted tally e.0 e.1)

-- two tallies added, text by text
abbrev pub add_counts : Tally → Tally → Tally
add_counts a b = add_each (map.entries b) a

-- a front part of b's counts was added to a
abbrev pub IsPartSum : Tally → Tally → Tally → Type 0
IsPartSum a b both = (front : List (List ℕ × ℕ)) × (back : List (List ℕ × ℕ)) × (map.entries b ≡ front ++ back) × (both ≡ add_each front a)

-- all counts together, no more than u64's greatest value
abbrev pub total_count : Tally → ℕ
total_count tally = min (sum (map.values tally)) (2 ^ 64 - 1)
