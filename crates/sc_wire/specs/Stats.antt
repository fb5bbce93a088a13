-- Statistics: the fields in their order, in groups of at most five.
use Rattle.std.specs.Prelude.{◌≡◌, ℕ, ◌⊎◌, List, Option, refl}
use Rattle.std.proofs.Common.{inl, inr, lit<}
use Rattle.sc_wire.specs.Codec.{Codec, ◌&◌, same_as}
use Rattle.sc_wire.specs.Numbers.{u64, flag}
use Rattle.sc_wire.specs.Lists.{optional, list, text}
use Rattle.sc_wire.specs.Variants.{variants, either, last}
use Rattle.sc_wire.specs.Tallies.{counts}
use Rattle.sc_wire.specs.Spans.{span}
use Rattle.sc_stats.specs.declared.counters.PerLanguageCount.{PerLanguageCount}
use Rattle.sc_stats.specs.declared.counters.LevelStats.{LevelStats}
use Rattle.sc_stats.specs.declared.counters.ServerStats.{ServerStats}
use Rattle.sc_stats.specs.declared.counters.ServerInfo.{ServerInfo}
use Rattle.sc_stats.specs.declared.counters.DistInfo.{DistInfo}
use Rattle.sc_stats.specs.declared.counters.DistInfo.TheVariants.{Disabled, NotConnected, SchedulerStatus}

abbrev pub language_counts : Codec PerLanguageCount
language_counts =
    same_as (λ p. record { counts = p.0; adv_counts = p.1 })
    (λ c. (c.counts, c.adv_counts)) (λ _. refl) (λ _. refl)
    (counts & counts)

abbrev pub level_stats : Codec LevelStats
level_stats =
    same_as (λ p. record { name = p.0.0; location = p.0.1; hits = p.1.0.0; misses = p.1.0.1.0; writes = p.1.0.1.1; write_failures = p.1.1.0.0; backfills_from = p.1.1.0.1.0; backfills_to = p.1.1.0.1.1; hit_duration = p.1.1.1.0; write_duration = p.1.1.1.1 })
    (λ c. ((c.name, c.location), ((c.hits, (c.misses, c.writes)), ((c.write_failures, (c.backfills_from, c.backfills_to)), (c.hit_duration, c.write_duration))))) (λ _. refl) (λ _. refl)
    ((text & text)
    & ((u64 & (u64 & u64))
    & ((u64 & (u64 & u64))
    & (span & span))))

abbrev pub server_stats : Codec ServerStats
server_stats =
    same_as (λ p. record { compile_requests = p.0.0; requests_unsupported_compiler = p.0.1.0; requests_not_compile = p.0.1.1.0; requests_not_cacheable = p.0.1.1.1.0; requests_executed = p.0.1.1.1.1; cache_errors = p.1.0.0; cache_hits = p.1.0.1.0; cache_misses = p.1.0.1.1; cache_timeouts = p.1.1.0.0; cache_read_errors = p.1.1.0.1.0; non_cacheable_compilations = p.1.1.0.1.1; forced_recaches = p.1.1.1.0.0; cache_write_errors = p.1.1.1.0.1.0; cache_writes = p.1.1.1.0.1.1; cache_write_duration = p.1.1.1.1.0.0; cache_read_hit_duration = p.1.1.1.1.0.1.0; compilations = p.1.1.1.1.0.1.1.0; compiler_write_duration = p.1.1.1.1.0.1.1.1.0; compile_fails = p.1.1.1.1.0.1.1.1.1; not_cached = p.1.1.1.1.1.0; dist_compiles = p.1.1.1.1.1.1.0; dist_errors = p.1.1.1.1.1.1.1.0; multi_level = p.1.1.1.1.1.1.1.1 })
    (λ c. ((c.compile_requests, (c.requests_unsupported_compiler, (c.requests_not_compile, (c.requests_not_cacheable, c.requests_executed)))), ((c.cache_errors, (c.cache_hits, c.cache_misses)), ((c.cache_timeouts, (c.cache_read_errors, c.non_cacheable_compilations)), ((c.forced_recaches, (c.cache_write_errors, c.cache_writes)), ((c.cache_write_duration, (c.cache_read_hit_duration, (c.compilations, (c.compiler_write_duration, c.compile_fails)))), (c.not_cached, (c.dist_compiles, (c.dist_errors, c.multi_level))))))))) (λ _. refl) (λ _. refl)
    ((u64 & (u64 & (u64 & (u64 & u64))))
    & ((language_counts & (language_counts & language_counts))
    & ((u64 & (u64 & u64))
    & ((u64 & (u64 & u64))
    & ((span & (span & (u64 & (span & u64))))
    & (counts & (counts & (u64 & optional (list level_stats)))))))))

abbrev pub server_info : Codec ServerInfo
server_info =
    same_as (λ p. record { stats = p.0.0; cache_location = p.0.1.0; cache_size = p.0.1.1; max_cache_size = p.1.0; use_preprocessor_cache_mode = p.1.1.0; version = p.1.1.1.0; basedirs = p.1.1.1.1 })
    (λ c. ((c.stats, (c.cache_location, c.cache_size)), (c.max_cache_size, (c.use_preprocessor_cache_mode, (c.version, c.basedirs))))) (λ _. refl) (λ _. refl)
    ((server_stats & (text & optional u64))
    & (optional u64 & (flag & (text & list text))))

-- the fields of each variant, in the variants' order
abbrev pub DistInfoForm : Type 0
DistInfoForm = (List ℕ ⊎ ((Option (List ℕ) × List ℕ) ⊎ (Option (List ℕ) × (ℕ × (ℕ × ℕ)))))

abbrev pub dist_info_to : DistInfoForm → DistInfo
dist_info_to (inl why) = (Disabled why)
dist_info_to (inr (inl (url, why))) = (NotConnected url why)
dist_info_to (inr (inr (url, (num_servers, (num_cpus, in_progress))))) = (SchedulerStatus url num_servers num_cpus in_progress)

abbrev pub dist_info_of : DistInfo → DistInfoForm
dist_info_of (Disabled why) = (inl why)
dist_info_of (NotConnected url why) = (inr (inl (url, why)))
dist_info_of (SchedulerStatus url num_servers num_cpus in_progress) = (inr (inr (url, (num_servers, (num_cpus, in_progress)))))

pub dist_info_back : (x : DistInfoForm) → dist_info_of (dist_info_to x) ≡ x
dist_info_back (inl why) = refl
dist_info_back (inr (inl (url, why))) = refl
dist_info_back (inr (inr (url, (num_servers, (num_cpus, in_progress))))) = refl

pub dist_info_forth : (y : DistInfo) → dist_info_to (dist_info_of y) ≡ y
dist_info_forth (Disabled why) = refl
dist_info_forth (NotConnected url why) = refl
dist_info_forth (SchedulerStatus url num_servers num_cpus in_progress) = refl

abbrev pub dist_info : Codec DistInfo
dist_info =
    same_as dist_info_to dist_info_of dist_info_back dist_info_forth (variants
    (either 0 text
    (either 1 ((optional text) & text)
    (last 2 ((optional text) & (u64 & (u64 & u64))) (lit< tt)) (lit< tt) (lit< tt)) (lit< tt) (lit< tt)))
