-- The lines that a daemon's statistics, and what its store tells of itself, are printed as.
use Rattle.std.specs.Prelude.{ℕ, ◌^◌, Bool, true, cond, nat_lt, List, [], ◌∷◌, ◌++◌, Option, Some, None, codes, if◌then◌else◌, nat_eq}
use Rattle.std.specs.Fmt.{decimal}
use Rattle.std.specs.List.{starts_with}
use Rattle.sc_stats.specs.Figures.{half_even}
use Rattle.sc_stats.specs.Lines.{filled, names_of, stat_lines, two_columns, values_of}
use Rattle.sc_stats.specs.declared.counters.LevelStats.{LevelStats}
use Rattle.sc_stats.specs.declared.counters.ServerInfo.{ServerInfo}

-- a name in its column, a space, and a text
unfoldable pub field_line : ℕ → List ℕ → List ℕ → List (List ℕ) → List (List ℕ)
field_line names name text lines = lines ++ (filled names name ++ codes " " ++ text) ∷ []

-- where each level is
abbrev pub level_places : ℕ → List LevelStats → List (List ℕ) → List (List ℕ)
level_places names [] lines = lines
level_places names (l ∷ ls) lines = level_places names ls (field_line names (codes "  " ++ l.name) l.location lines)

unfoldable pub store_places : ℕ → Option (List LevelStats) → List (List ℕ) → List (List ℕ)
store_places names None lines = lines
store_places names (Some ls) lines = level_places names ls lines

-- where the cache is, with its levels
unfoldable pub place_lines : ℕ → ServerInfo → List (List ℕ) → List (List ℕ)
place_lines names info lines = store_places names info.stats.multi_level (field_line names (codes "Cache location") info.cache_location lines)

-- the mode that puts meet, where it is known and asked for
unfoldable pub mode_line : ℕ → Bool → Option (List ℕ) → List (List ℕ) → List (List ℕ)
mode_line names true (Some mode) lines = field_line names (codes "Effective cache mode") mode lines
mode_line names _ _ lines = lines

-- more texts, a comma and a space before each
abbrev pub with_more : List ℕ → List (List ℕ) → List ℕ
with_more text [] = text
with_more text (t ∷ ts) = with_more (text ++ codes ", " ++ t) ts

unfoldable pub joined : List (List ℕ) → List ℕ
joined [] = codes "(none)"
joined (t ∷ ts) = with_more t ts

unfoldable pub yes_or_no : Bool → List ℕ
yes_or_no b = if b then codes "yes" else codes "no"

abbrev pub is_local_disk : List ℕ → Bool
is_local_disk location = starts_with nat_eq location (codes "Local disk")

-- whether entries of the preprocessor are used: where the cache is a local disk
unfoldable pub preprocessor_line : ℕ → ServerInfo → List (List ℕ) → List (List ℕ)
preprocessor_line names info lines = cond (is_local_disk info.cache_location) (field_line names (codes "Use direct/preprocessor mode?") (yes_or_no info.use_preprocessor_cache_mode) lines) lines

-- the greatest power of 1024 that a size of 1024 or more reaches, and its name
abbrev pub by_size : {A : Type 0} → ℕ → A → A → A → A → A → A → A
by_size n kibi mebi gibi tebi pebi exbi =
    cond (nat_lt n (2 ^ 20)) kibi (cond (nat_lt n (2 ^ 30)) mebi (cond (nat_lt n (2 ^ 40)) gibi (cond (nat_lt n (2 ^ 50)) tebi (cond (nat_lt n (2 ^ 60)) pebi exbi))))

abbrev pub unit_size : ℕ → ℕ
unit_size n = by_size n (2 ^ 10) (2 ^ 20) (2 ^ 30) (2 ^ 40) (2 ^ 50) (2 ^ 60)

abbrev pub unit_name : ℕ → List ℕ
unit_name n = by_size n (codes "KiB") (codes "MiB") (codes "GiB") (codes "TiB") (codes "PiB") (codes "EiB")

-- a size as it is printed: bytes below 1024, else rounded in its unit
abbrev pub size_number : ℕ → ℕ
size_number n = cond (nat_lt n 1024) n (half_even n (unit_size n))

abbrev pub size_unit : ℕ → List ℕ
size_unit n = cond (nat_lt n 1024) (codes "bytes") (unit_name n)

unfoldable pub size_line : ℕ → ℕ → List ℕ → Option ℕ → List (List ℕ) → List (List ℕ)
size_line names values name None lines = lines
size_line names values name (Some n) lines = lines ++ (two_columns [] names name values 0 (decimal (size_number n)) ++ codes " " ++ size_unit n) ∷ []

-- all that stands after the statistics
unfoldable pub store_lines : ℕ → ℕ → Bool → Option (List ℕ) → ServerInfo → List (List ℕ) → List (List ℕ)
store_lines names values advanced mode info lines =
    size_line names values (codes "Max cache size") info.max_cache_size
    (size_line names values (codes "Cache size") info.cache_size
    (field_line names (codes "Version (client)") info.version
    (preprocessor_line names info
    (field_line names (codes "Base directories") (joined info.basedirs)
    (mode_line names advanced mode
    (place_lines names info lines))))))

-- all lines
abbrev pub info_lines : Bool → Option (List ℕ) → ServerInfo → List (List ℕ)
info_lines advanced mode info = store_lines (names_of advanced info.stats) (values_of advanced info.stats) advanced mode info (stat_lines advanced info.stats)
