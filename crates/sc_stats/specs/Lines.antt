-- The lines that statistics are printed as. A word that takes lines adds its own after them.
use Rattle.std.specs.Prelude.{ℕ, ◌+◌, ◌-◌, ◌||◌, Bool, max, replicate, nat_le, nat_lt, List, [], ◌∷◌, ◌++◌, length, codes}
use Rattle.std.specs.BTreeMap.{insert_entry}
use Rattle.std.specs.Cmp.Lexicographic.{slice_cmp}
use Rattle.std.specs.Fmt.{decimal}
use Rattle.std.specs.List.{count_by}
use Rattle.std.specs.Ordering.{nat_cmp, ordering_then}
use Rattle.std.specs.declared.cmp.Ordering.{Ordering}
use Rattle.sc_entry.specs.Listed.{listed}
use Rattle.sc_entry.specs.Tally.{Tally}
use Rattle.sc_entry.specs.declared.counted_text.CountedText.{CountedText}
use Rattle.sc_stats.specs.Rows.{stat_rows}
use Rattle.sc_stats.specs.declared.counters.ServerStats.{ServerStats}
use Rattle.sc_stats.specs.declared.ranks.Rank.{Rank}
use Rattle.sc_stats.specs.declared.rows.StatRow.{StatRow}

-- whether a byte begins a character of UTF-8
abbrev pub begins_character : ℕ → Bool
begins_character b = nat_lt b 128 || nat_le 192 b

abbrev pub characters : List ℕ → ℕ
characters text = count_by begins_character text

abbrev pub spaces : ℕ → List ℕ
spaces n = replicate n 32

-- filled with spaces up to a width in characters
unfoldable pub filled : ℕ → List ℕ → List ℕ
filled width text = text ++ spaces (width - characters text)

-- a name filled to a width, a space, and a value that ends with its column and a suffix's bytes more
unfoldable pub two_columns : List ℕ → ℕ → List ℕ → ℕ → ℕ → List ℕ → List ℕ
two_columns front name_width name value_width suffix value = front ++ filled name_width name ++ codes " " ++ spaces ((value_width + suffix) - characters value) ++ value

-- the widest name, in bytes
abbrev pub name_width : List StatRow → ℕ → ℕ
name_width [] width = width
name_width (r ∷ rs) width = name_width rs (max width (length r.name))

-- the widest value, in bytes
abbrev pub value_width : List StatRow → ℕ → ℕ
value_width [] width = width
value_width (r ∷ rs) width = value_width rs (max width (length r.value))

abbrev pub row_line : ℕ → ℕ → StatRow → List (List ℕ) → List (List ℕ)
row_line names values r lines = lines ++ two_columns [] names r.name values r.suffix r.value ∷ []

abbrev pub row_lines : ℕ → ℕ → List StatRow → List (List ℕ) → List (List ℕ)
row_lines names values [] lines = lines
row_lines names values (r ∷ rs) lines = row_lines names values rs (row_line names values r lines)

-- by falling count, then by name
abbrev pub rank_cmp : Rank → Rank → Ordering
rank_cmp x y = ordering_then (nat_cmp y.falling.0 x.falling.0) (slice_cmp nat_cmp x.name y.name)

-- texts put in their places by rank
abbrev pub ranked : List CountedText → List (Rank × Unit {0}) → List (Rank × Unit {0})
ranked [] ranks = ranks
ranked (t ∷ ts) ranks = ranked ts (insert_entry rank_cmp ranks (record { falling = record { 0 = t.count }; name = t.text }) tt)

abbrev pub rank_line : List ℕ → ℕ → ℕ → Rank × Unit {0} → List (List ℕ) → List (List ℕ)
rank_line front names values r lines = lines ++ two_columns front names r.0.name values 0 (decimal r.0.falling.0) ∷ []

abbrev pub rank_lines : List ℕ → ℕ → ℕ → List (Rank × Unit {0}) → List (List ℕ) → List (List ℕ)
rank_lines front names values [] lines = lines
rank_lines front names values (r ∷ rs) lines = rank_lines front names values rs (rank_line front names values r lines)

-- what is counted, under a title; nothing where nothing is counted
unfoldable pub listing : List ℕ → List ℕ → ℕ → ℕ → List CountedText → List (List ℕ) → List (List ℕ)
listing title front names values [] lines = lines
listing title front names values (t ∷ ts) lines = rank_lines front names values (ranked (t ∷ ts) []) (lines ++ title ∷ [])

-- compilations that were done elsewhere, by server
unfoldable pub server_lines : ℕ → ℕ → Tally → List (List ℕ) → List (List ℕ)
server_lines names values servers lines = listing (10 ∷ codes "Successful distributed compiles") (codes "  ") (names - 2) values (listed servers) lines

-- an empty line after reasons
unfoldable pub end_of_reasons : List CountedText → List (List ℕ) → List (List ℕ)
end_of_reasons [] lines = lines
end_of_reasons (t ∷ ts) lines = lines ++ [] ∷ []

-- why requests could not be cached
unfoldable pub reason_lines : ℕ → ℕ → Tally → List (List ℕ) → List (List ℕ)
reason_lines names values reasons lines = end_of_reasons (listed reasons) (listing (10 ∷ codes "Non-cacheable reasons:") [] names values (listed reasons) lines)

-- the widths of both columns
abbrev pub names_of : Bool → ServerStats → ℕ
names_of advanced s = name_width (stat_rows advanced s) 0

abbrev pub values_of : Bool → ServerStats → ℕ
values_of advanced s = value_width (stat_rows advanced s) 0

abbrev pub lines_within : ℕ → ℕ → Bool → ServerStats → List (List ℕ)
lines_within names values advanced s = reason_lines names values s.not_cached (server_lines names values s.dist_compiles (row_lines names values (stat_rows advanced s) []))

-- all lines of the statistics
abbrev pub stat_lines : Bool → ServerStats → List (List ℕ)
stat_lines advanced s = lines_within (names_of advanced s) (values_of advanced s) advanced s
