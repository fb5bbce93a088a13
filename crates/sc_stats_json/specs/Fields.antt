-- Fields put into an object one after the other. Each word puts its own into the fields before it.
use Rattle.std.specs.Prelude.{ℕ, List, [], ◌∷◌, map, Option, codes}
use Rattle.serde_json.specs.Data.{Members, array, boolean, put, string}
use Rattle.serde_json.specs.View.{items_of}
use Rattle.sc_entry.specs.declared.counted_text.CountedText.{CountedText}
use Rattle.sc_stats.specs.declared.counters.LevelStats.{LevelStats}
use Rattle.sc_stats.specs.declared.counters.ServerInfo.{ServerInfo}
use Rattle.sc_stats.specs.declared.counters.ServerStats.{ServerStats}
use Rattle.sc_stats_json.specs.Json.{counts_json, languages_json, levels_json, number_json, number_or_null, span_json, stats_json, text_or_null}

-- each text with its count
abbrev pub put_counted : List CountedText → Members → Members
put_counted [] fields = fields
put_counted (t ∷ ts) fields = put_counted ts (put t.text (number_json t.count) fields)

unfoldable pub put_backfills : LevelStats → Members → Members
put_backfills l fields =
    put (codes "hits") (number_json l.hits)
    (put (codes "hit_duration") (span_json l.hit_duration)
    (put (codes "backfills_to") (number_json l.backfills_to)
    (put (codes "backfills_from") (number_json l.backfills_from) fields)))

unfoldable pub put_place : LevelStats → Members → Members
put_place l fields =
    put (codes "name") (string l.name)
    (put (codes "misses") (number_json l.misses)
    (put (codes "location") (string l.location) fields))

unfoldable pub put_writes : LevelStats → Members → Members
put_writes l fields =
    put (codes "writes") (number_json l.writes)
    (put (codes "write_failures") (number_json l.write_failures)
    (put (codes "write_duration") (span_json l.write_duration) fields))

unfoldable pub put_lookups : ServerStats → Members → Members
put_lookups s fields =
    put (codes "cache_timeouts") (number_json s.cache_timeouts)
    (put (codes "cache_read_hit_duration") (span_json s.cache_read_hit_duration)
    (put (codes "cache_read_errors") (number_json s.cache_read_errors)
    (put (codes "cache_misses") (languages_json s.cache_misses)
    (put (codes "cache_hits") (languages_json s.cache_hits)
    (put (codes "cache_errors") (languages_json s.cache_errors) fields)))))

unfoldable pub put_cache_writes : ServerStats → Members → Members
put_cache_writes s fields =
    put (codes "cache_writes") (number_json s.cache_writes)
    (put (codes "cache_write_errors") (number_json s.cache_write_errors)
    (put (codes "cache_write_duration") (span_json s.cache_write_duration) fields))

unfoldable pub put_compilations : ServerStats → Members → Members
put_compilations s fields =
    put (codes "compiler_write_duration") (span_json s.compiler_write_duration)
    (put (codes "compile_requests") (number_json s.compile_requests)
    (put (codes "compile_fails") (number_json s.compile_fails)
    (put (codes "compilations") (number_json s.compilations) fields)))

unfoldable pub put_elsewhere : ServerStats → Members → Members
put_elsewhere s fields =
    put (codes "multi_level") (levels_json s.multi_level)
    (put (codes "forced_recaches") (number_json s.forced_recaches)
    (put (codes "dist_errors") (number_json s.dist_errors)
    (put (codes "dist_compiles") (counts_json s.dist_compiles) fields)))

unfoldable pub put_requests : ServerStats → Members → Members
put_requests s fields =
    put (codes "requests_unsupported_compiler") (number_json s.requests_unsupported_compiler)
    (put (codes "requests_not_compile") (number_json s.requests_not_compile)
    (put (codes "requests_not_cacheable") (number_json s.requests_not_cacheable)
    (put (codes "requests_executed") (number_json s.requests_executed)
    (put (codes "not_cached") (counts_json s.not_cached)
    (put (codes "non_cacheable_compilations") (number_json s.non_cacheable_compilations) fields)))))

unfoldable pub put_store : ServerInfo → Members → Members
put_store info fields =
    put (codes "cache_size") (number_or_null info.cache_size)
    (put (codes "cache_location") (string info.cache_location)
    (put (codes "basedirs") (array (items_of (map string info.basedirs))) fields))

unfoldable pub put_mode : Option (List ℕ) → Members → Members
put_mode mode fields = put (codes "effective_cache_mode") (text_or_null mode) fields

unfoldable pub put_state : ServerInfo → Members → Members
put_state info fields =
    put (codes "version") (string info.version)
    (put (codes "use_preprocessor_cache_mode") (boolean info.use_preprocessor_cache_mode)
    (put (codes "stats") (stats_json info.stats)
    (put (codes "max_cache_size") (number_or_null info.max_cache_size) fields)))
