-- The JSON of statistics: a struct is an object of its fields, the keys ascending.
use Rattle.std.specs.Prelude.{ℕ, ◌/◌, ◌%◌, ◌^◌, List, [], ◌∷◌, map, Option, Some, None, codes}
use Rattle.serde_json.specs.Data.{Data, null, boolean, number, unsigned, string, array, object, no_items, item, Members, no_members, member}
use Rattle.serde_json.specs.View.{items_of}
use Rattle.sc_entry.specs.Listed.{listed}
use Rattle.sc_entry.specs.Tally.{Tally}
use Rattle.sc_entry.specs.declared.counted_text.CountedText.{CountedText}
use Rattle.sc_stats.specs.declared.counters.DistInfo.{DistInfo}
use Rattle.sc_stats.specs.declared.counters.DistInfo.TheVariants.{Disabled, NotConnected, SchedulerStatus}
use Rattle.sc_stats.specs.declared.counters.LevelStats.{LevelStats}
use Rattle.sc_stats.specs.declared.counters.PerLanguageCount.{PerLanguageCount}
use Rattle.sc_stats.specs.declared.counters.ServerInfo.{ServerInfo}
use Rattle.sc_stats.specs.declared.counters.ServerStats.{ServerStats}

-- an object's members, as they are listed
abbrev pub fields : List (List ℕ × Data) → Members
fields [] = no_members
fields (f ∷ fs) = member f.0 f.1 (fields fs)

abbrev pub number_json : ℕ → Data
number_json n = number (unsigned n)

abbrev pub number_or_null : Option ℕ → Data
number_or_null None = null
number_or_null (Some n) = number_json n

abbrev pub text_or_null : Option (List ℕ) → Data
text_or_null None = null
text_or_null (Some t) = string t

-- a span's nanoseconds beyond its whole seconds, and its whole seconds
unfoldable pub span_json : ℕ → Data
span_json nanoseconds = object (fields (
    (codes "nanos", number_json (nanoseconds % 10 ^ 9))
    ∷ (codes "secs", number_json (nanoseconds / 10 ^ 9))
    ∷ []))

abbrev pub counted_fields : List CountedText → Members
counted_fields [] = no_members
counted_fields (t ∷ ts) = member t.text (number_json t.count) (counted_fields ts)

-- each text with its count, the texts ascending
unfoldable pub counts_json : Tally → Data
counts_json counts = object (counted_fields (listed counts))

unfoldable pub languages_json : PerLanguageCount → Data
languages_json c = object (fields (
    (codes "adv_counts", counts_json c.adv_counts)
    ∷ (codes "counts", counts_json c.counts)
    ∷ []))

unfoldable pub level_json : LevelStats → Data
level_json l = object (fields (
    (codes "backfills_from", number_json l.backfills_from)
    ∷ (codes "backfills_to", number_json l.backfills_to)
    ∷ (codes "hit_duration", span_json l.hit_duration)
    ∷ (codes "hits", number_json l.hits)
    ∷ (codes "location", string l.location)
    ∷ (codes "misses", number_json l.misses)
    ∷ (codes "name", string l.name)
    ∷ (codes "write_duration", span_json l.write_duration)
    ∷ (codes "write_failures", number_json l.write_failures)
    ∷ (codes "writes", number_json l.writes)
    ∷ []))

-- the levels in their order, or `null`
unfoldable pub levels_json : Option (List LevelStats) → Data
levels_json None = null
levels_json (Some ls) = array (items_of (map level_json ls))

unfoldable pub stats_json : ServerStats → Data
stats_json s = object (fields (
    (codes "cache_errors", languages_json s.cache_errors)
    ∷ (codes "cache_hits", languages_json s.cache_hits)
    ∷ (codes "cache_misses", languages_json s.cache_misses)
    ∷ (codes "cache_read_errors", number_json s.cache_read_errors)
    ∷ (codes "cache_read_hit_duration", span_json s.cache_read_hit_duration)
    ∷ (codes "cache_timeouts", number_json s.cache_timeouts)
    ∷ (codes "cache_write_duration", span_json s.cache_write_duration)
    ∷ (codes "cache_write_errors", number_json s.cache_write_errors)
    ∷ (codes "cache_writes", number_json s.cache_writes)
    ∷ (codes "compilations", number_json s.compilations)
    ∷ (codes "compile_fails", number_json s.compile_fails)
    ∷ (codes "compile_requests", number_json s.compile_requests)
    ∷ (codes "compiler_write_duration", span_json s.compiler_write_duration)
    ∷ (codes "dist_compiles", counts_json s.dist_compiles)
    ∷ (codes "dist_errors", number_json s.dist_errors)
    ∷ (codes "forced_recaches", number_json s.forced_recaches)
    ∷ (codes "multi_level", levels_json s.multi_level)
    ∷ (codes "non_cacheable_compilations", number_json s.non_cacheable_compilations)
    ∷ (codes "not_cached", counts_json s.not_cached)
    ∷ (codes "requests_executed", number_json s.requests_executed)
    ∷ (codes "requests_not_cacheable", number_json s.requests_not_cacheable)
    ∷ (codes "requests_not_compile", number_json s.requests_not_compile)
    ∷ (codes "requests_unsupported_compiler", number_json s.requests_unsupported_compiler)
    ∷ []))

-- with the mode that puts meet, `null` where it is not known
unfoldable pub info_json : Option (List ℕ) → ServerInfo → Data
info_json mode info = object (fields (
    (codes "basedirs", array (items_of (map string info.basedirs)))
    ∷ (codes "cache_location", string info.cache_location)
    ∷ (codes "cache_size", number_or_null info.cache_size)
    ∷ (codes "effective_cache_mode", text_or_null mode)
    ∷ (codes "max_cache_size", number_or_null info.max_cache_size)
    ∷ (codes "stats", stats_json info.stats)
    ∷ (codes "use_preprocessor_cache_mode", boolean info.use_preprocessor_cache_mode)
    ∷ (codes "version", string info.version)
    ∷ []))

unfoldable pub scheduler_json : ℕ → ℕ → ℕ → Data
scheduler_json num_servers num_cpus in_progress = object (fields (
    (codes "in_progress", number_json in_progress)
    ∷ (codes "num_cpus", number_json num_cpus)
    ∷ (codes "num_servers", number_json num_servers)
    ∷ []))

abbrev pub one_field : List ℕ → Data → Data
one_field key value = object (fields ((key, value) ∷ []))

abbrev pub pair_json : Data → Data → Data
pair_json first second = array (item first (item second no_items))

-- an object with the variant's name as its one field: its text, or an array of both its parts
unfoldable pub dist_json : DistInfo → Data
dist_json (Disabled text) = one_field (codes "Disabled") (string text)
dist_json (NotConnected url text) = one_field (codes "NotConnected") (pair_json (text_or_null url) (string text))
dist_json (SchedulerStatus url num_servers num_cpus in_progress) = one_field (codes "SchedulerStatus") (pair_json (text_or_null url) (scheduler_json num_servers num_cpus in_progress))
