-- The rows that statistics are printed as. Each word adds its rows to the rows before it.
use Rattle.std.specs.Prelude.{ℕ, ◌+◌, ◌==◌, Bool, true, false, cond, List, [], ◌∷◌, ◌++◌, length, Some, None, codes}
use Rattle.std.specs.Fmt.{decimal}
use Rattle.sc_entry.specs.Listed.{listed}
use Rattle.sc_entry.specs.Tally.{Tally, add_counts, count_of, total_count}
use Rattle.sc_entry.specs.declared.counted_text.CountedText.{CountedText}
use Rattle.sc_stats.specs.Figures.{average, hit_rate, percent_text, seconds_text}
use Rattle.sc_stats.specs.declared.counters.LevelStats.{LevelStats}
use Rattle.sc_stats.specs.declared.counters.PerLanguageCount.{PerLanguageCount}
use Rattle.sc_stats.specs.declared.counters.ServerStats.{ServerStats}
use Rattle.sc_stats.specs.declared.rows.StatRow.{StatRow}

unfoldable pub number_row : List ℕ → ℕ → List StatRow → List StatRow
number_row name n rows = rows ++ record { name = name; value = decimal n; suffix = 0 } ∷ []

unfoldable pub duration_row : List ℕ → ℕ → List StatRow → List StatRow
duration_row name span rows = rows ++ record { name = name; value = seconds_text span; suffix = 2 } ∷ []

-- hits among hits and misses; `-` where there were none
unfoldable pub rate_row : List ℕ → ℕ → ℕ → List StatRow → List StatRow
rate_row name hits misses rows = rows ++ cond (hits + misses == 0) (record { name = name; value = codes "-"; suffix = 0 }) (record { name = name; value = percent_text (hit_rate hits misses); suffix = 2 }) ∷ []

unfoldable pub with_key : List ℕ → List ℕ → List ℕ
with_key name key = name ++ codes " (" ++ key ++ codes ")"

-- a row for each text that is counted
unfoldable pub keyed_rows : List ℕ → List CountedText → List StatRow → List StatRow
keyed_rows name [] rows = rows
keyed_rows name (t ∷ ts) rows = keyed_rows name ts (number_row (with_key name t.text) t.count rows)

-- languages with their compilers, or languages' kinds
abbrev pub keys_of : Bool → PerLanguageCount → Tally
keys_of true c = c.adv_counts
keys_of false c = c.counts

unfoldable pub language_rows : Bool → List ℕ → PerLanguageCount → List StatRow → List StatRow
language_rows advanced name c rows = keyed_rows name (listed (keys_of advanced c)) (number_row name (total_count c.counts) rows)

-- a rate for each of some keys
unfoldable pub keyed_rates : Tally → Tally → List CountedText → List StatRow → List StatRow
keyed_rates hits misses [] rows = rows
keyed_rates hits misses (t ∷ ts) rows = keyed_rates hits misses ts (rate_row (with_key (codes "Cache hits rate") t.text) (count_of hits t.text) (count_of misses t.text) rows)

-- the rate of all hits, and of each key that was hit or missed
unfoldable pub rate_rows : Bool → PerLanguageCount → PerLanguageCount → List StatRow → List StatRow
rate_rows advanced hits misses rows =
    keyed_rates (keys_of advanced hits) (keys_of advanced misses) (listed (add_counts (keys_of advanced hits) (keys_of advanced misses)))
    (rate_row (codes "Cache hits rate") (total_count hits.counts) (total_count misses.counts) rows)

unfoldable pub request_rows : Bool → ServerStats → List StatRow → List StatRow
request_rows advanced s rows =
    language_rows advanced (codes "Cache misses") s.cache_misses
    (language_rows advanced (codes "Cache hits") s.cache_hits
    (number_row (codes "Compile requests executed") s.requests_executed
    (number_row (codes "Compile requests") s.compile_requests rows)))

unfoldable pub cache_rows : Bool → ServerStats → List StatRow → List StatRow
cache_rows advanced s rows =
    language_rows advanced (codes "Cache errors") s.cache_errors
    (number_row (codes "Cache write errors") s.cache_write_errors
    (number_row (codes "Forced recaches") s.forced_recaches
    (number_row (codes "Cache read errors") s.cache_read_errors
    (number_row (codes "Cache timeouts") s.cache_timeouts rows))))

unfoldable pub compile_rows : ServerStats → List StatRow → List StatRow
compile_rows s rows =
    number_row (codes "Unsupported compiler calls") s.requests_unsupported_compiler
    (number_row (codes "Non-compilation calls") s.requests_not_compile
    (number_row (codes "Non-cacheable calls") s.requests_not_cacheable
    (number_row (codes "Non-cacheable compilations") s.non_cacheable_compilations
    (number_row (codes "Compilation failures") s.compile_fails
    (number_row (codes "Compilations") s.compilations rows)))))

unfoldable pub average_rows : ServerStats → List StatRow → List StatRow
average_rows s rows =
    number_row (codes "Failed distributed compilations") s.dist_errors
    (duration_row (codes "Average cache read hit") (average s.cache_read_hit_duration (total_count s.cache_hits.counts))
    (duration_row (codes "Average compiler") (average s.compiler_write_duration s.compilations)
    (duration_row (codes "Average cache write") (average s.cache_write_duration s.cache_writes) rows)))

-- a name of a level's row: after two spaces and the level's name
unfoldable pub of_level : LevelStats → List ℕ → List ℕ
of_level l name = codes "  " ++ l.name ++ codes " " ++ name

unfoldable pub lookup_rows : LevelStats → List StatRow → List StatRow
lookup_rows l rows =
    rate_row (of_level l (codes "hit rate")) l.hits l.misses
    (number_row (of_level l (codes "misses")) l.misses
    (number_row (of_level l (codes "hits")) l.hits rows))

unfoldable pub write_rows : LevelStats → List StatRow → List StatRow
write_rows l rows =
    number_row (of_level l (codes "backfills to")) l.backfills_to
    (number_row (of_level l (codes "backfills from")) l.backfills_from
    (number_row (of_level l (codes "write failures")) l.write_failures
    (number_row (of_level l (codes "writes")) l.writes rows)))

unfoldable pub level_rows : LevelStats → List StatRow → List StatRow
level_rows l rows =
    duration_row (of_level l (codes "avg cache read hit")) (average l.hit_duration l.hits)
    (duration_row (of_level l (codes "avg cache write")) (average l.write_duration l.writes)
    (write_rows l (lookup_rows l rows)))

unfoldable pub each_level : List LevelStats → List StatRow → List StatRow
each_level [] rows = rows
each_level (l ∷ ls) rows = each_level ls (level_rows l rows)

-- how many levels there are, and each; nothing of none
unfoldable pub multi_level_rows : List LevelStats → List StatRow → List StatRow
multi_level_rows [] rows = rows
multi_level_rows (l ∷ ls) rows = each_level (l ∷ ls) (number_row (codes "Multi-level cache levels") (length (l ∷ ls)) rows)

unfoldable pub levels_of : ServerStats → List StatRow → List StatRow
levels_of s rows = elim s.multi_level [ None ↦ rows | Some ls ↦ multi_level_rows ls rows ]

-- all rows of the statistics
abbrev pub stat_rows : Bool → ServerStats → List StatRow
stat_rows advanced s =
    levels_of s (average_rows s (compile_rows s (cache_rows advanced s (rate_rows advanced s.cache_hits s.cache_misses (request_rows advanced s [])))))
