-- The JSON of statistics has no number but whole ones.
use Rattle.std.proofs.Common.{◌≡◌, ℕ, Bool, true, false, ◌||◌, List, [], ◌∷◌, Option, Some, None, map, refl}
use Rattle.serde_json.specs.Data.{string}
use Rattle.serde_json.specs.View.{items_of}
use Rattle.serde_json.specs.Written.{has_float, items_have_float, members_have_float}
use Rattle.sc_entry.specs.Listed.{listed}
use Rattle.sc_entry.specs.Tally.{Tally}
use Rattle.sc_entry.specs.declared.counted_text.CountedText.{CountedText}
use Rattle.sc_stats.specs.declared.counters.DistInfo.{DistInfo}
use Rattle.sc_stats.specs.declared.counters.DistInfo.TheVariants.{Disabled, NotConnected, SchedulerStatus}
use Rattle.sc_stats.specs.declared.counters.LevelStats.{LevelStats}
use Rattle.sc_stats.specs.declared.counters.PerLanguageCount.{PerLanguageCount}
use Rattle.sc_stats.specs.declared.counters.ServerInfo.{ServerInfo}
use Rattle.sc_stats.specs.declared.counters.ServerStats.{ServerStats}
use Rattle.sc_stats_json.specs.Json.{counted_fields, counts_json, dist_json, info_json, languages_json, level_json, levels_json, number_or_null, scheduler_json, span_json, stats_json, text_or_null}

neither : (a b : Bool) → a ≡ false → b ≡ false → (a || b) ≡ false
neither true b p q = p
neither false b p q = q

whole_counted : (ts : List CountedText) → members_have_float (counted_fields ts) ≡ false
whole_counted [] = refl
whole_counted (t ∷ ts) = whole_counted ts

whole_number_or_null : (n : Option ℕ) → has_float (number_or_null n) ≡ false
whole_number_or_null None = refl
whole_number_or_null (Some n) = refl

whole_text_or_null : (t : Option (List ℕ)) → has_float (text_or_null t) ≡ false
whole_text_or_null None = refl
whole_text_or_null (Some t) = refl

whole_span : (n : ℕ) → has_float (span_json n) ≡ false
unfolding span_json
whole_span n = refl

whole_counts : (t : Tally) → has_float (counts_json t) ≡ false
unfolding counts_json
whole_counts t = whole_counted (listed t)

whole_languages : (c : PerLanguageCount) → has_float (languages_json c) ≡ false
unfolding languages_json
whole_languages c = neither _ _ (whole_counts c.adv_counts) (neither _ _ (whole_counts c.counts) refl)

whole_level : (l : LevelStats) → has_float (level_json l) ≡ false
unfolding level_json
whole_level l = neither _ _ (whole_span l.hit_duration) (neither _ _ (whole_span l.write_duration) refl)

whole_each : (ls : List LevelStats) → items_have_float (items_of (map level_json ls)) ≡ false
whole_each [] = refl
whole_each (l ∷ ls) = neither _ _ (whole_level l) (whole_each ls)

whole_levels : (ls : Option (List LevelStats)) → has_float (levels_json ls) ≡ false
unfolding levels_json
whole_levels None = refl
whole_levels (Some ls) = whole_each ls

whole_stats : (s : ServerStats) → has_float (stats_json s) ≡ false
unfolding stats_json
whole_stats s =
    neither _ _ (whole_languages s.cache_errors)
    (neither _ _ (whole_languages s.cache_hits)
    (neither _ _ (whole_languages s.cache_misses)
    (neither _ _ (whole_span s.cache_read_hit_duration)
    (neither _ _ (whole_span s.cache_write_duration)
    (neither _ _ (whole_span s.compiler_write_duration)
    (neither _ _ (whole_counts s.dist_compiles)
    (neither _ _ (whole_levels s.multi_level)
    (neither _ _ (whole_counts s.not_cached) refl))))))))

whole_texts : (ts : List (List ℕ)) → items_have_float (items_of (map string ts)) ≡ false
whole_texts [] = refl
whole_texts (t ∷ ts) = whole_texts ts

pub whole_info : (mode : Option (List ℕ)) (info : ServerInfo) → has_float (info_json mode info) ≡ false
unfolding info_json
whole_info mode info =
    neither _ _ (whole_texts info.basedirs)
    (neither _ _ (whole_number_or_null info.cache_size)
    (neither _ _ (whole_text_or_null mode)
    (neither _ _ (whole_number_or_null info.max_cache_size)
    (neither _ _ (whole_stats info.stats) refl))))

pub whole_dist : (d : DistInfo) → has_float (dist_json d) ≡ false
unfolding dist_json scheduler_json
whole_dist (Disabled text) = refl
whole_dist (NotConnected None text) = refl
whole_dist (NotConnected (Some url) text) = refl
whole_dist (SchedulerStatus None num_servers num_cpus in_progress) = refl
whole_dist (SchedulerStatus (Some url) num_servers num_cpus in_progress) = refl
