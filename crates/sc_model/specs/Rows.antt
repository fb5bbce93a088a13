-- What each event counts, and the sums.
use Rattle.std.specs.Prelude.{ℕ, ◌-◌, Bool, true, false, ◌==◌, ◌&&◌, not, if◌then◌else◌, List, [], ◌∷◌, ◌++◌, length, Option, Some, None, slice_index_or, codes, bytes_eq, nat_lt}
use Rattle.sc_model.specs.Job.{At, Own}
use Rattle.sc_model.specs.Script.{Script, Setup, is_single}
use Rattle.sc_model.specs.Trace.{Given, about, all, left_writes, own_of, owned, request}
use Rattle.sc_model.specs.declared.event.Answer.{Answer}
use Rattle.sc_model.specs.declared.event.Answer.TheVariants.{Hit}
use Rattle.sc_model.specs.declared.event.DistType.{DistType}
use Rattle.sc_model.specs.declared.event.DistType.TheVariants.{Error as DistError, NoDist, Ok as DistOk}
use Rattle.sc_model.specs.declared.event.Event.{Event}
use Rattle.sc_model.specs.declared.event.MissType.{MissType}
use Rattle.sc_model.specs.declared.event.MissType.TheVariants.{CacheReadError, ForcedRecache, TimedOut}
use Rattle.sc_model.specs.declared.event.Mode.{Mode}
use Rattle.sc_model.specs.declared.event.Mode.TheVariants.{Raw, Whole}
use Rattle.sc_model.specs.declared.event.Owner.{Owner}
use Rattle.sc_model.specs.declared.event.Owner.TheVariants.{Request as OfRequest, Write as OfWrite}
use Rattle.sc_model.specs.declared.event.Parsed.{Parsed}
use Rattle.sc_model.specs.declared.event.Parsed.TheVariants.{CannotCache, NotCompile, Started, Unsupported}
use Rattle.sc_model.specs.declared.event.Task.{Task}
use Rattle.sc_model.specs.declared.event.Told.{Told}
use Rattle.sc_model.specs.declared.event.Told.TheVariants.{Compile as TellsCompile}
use Rattle.sc_model.specs.declared.event.Verdict.{Verdict}
use Rattle.sc_model.specs.declared.event.Verdict.TheVariants.{CacheHit, CacheMiss, CompileFailed, Error as KeyStepError, Fault as FatalFault, Http as HttpError, NotCacheable, NotCached, ProcessError as RunError}
use Rattle.sc_model.specs.declared.event.What.{What}
use Rattle.sc_model.specs.declared.event.What.TheVariants.{Asked, Began, Committed, Filled, Keyed, Outcome, Reserved, WriteEnded, Wrote}
use Rattle.sc_model.specs.declared.event.Written.{Written}
use Rattle.sc_model.specs.declared.event.Written.TheVariants.{Done as WriteDone, Refused as WriteRefused}
use Rattle.sc_model.specs.declared.level.Put.{Put}
use Rattle.sc_model.specs.declared.level.Put.TheVariants.{Done as PutDone}
use Rattle.sc_model.specs.declared.message.Request.{Request}
use Rattle.sc_model.specs.declared.message.Request.TheVariants.{Compile, RecordStats, ZeroStats}
use Rattle.sc_stats.specs.declared.counters.LevelStats.{LevelStats}
use Rattle.sc_stats.specs.declared.counters.PerLanguageCount.{PerLanguageCount}
use Rattle.sc_stats.specs.declared.counters.ServerStats.{ServerStats}
use Rattle.sc_stats.specs.Sums.{add_level, no_level_stats, no_stats, one_of, sum}

abbrev pub counted_language : Setup → Task → PerLanguageCount
counted_language s task = record { counts = one_of (s.compilers.kind_text task); adv_counts = one_of (s.compilers.full_text task) }

-- the reason that is counted for a compile that can't be cached
abbrev pub with_extra : Bool → List ℕ → List ℕ → List ℕ
with_extra true why extra = codes "crate-type (" ++ extra ++ codes ")"
with_extra false why extra = why

abbrev pub reason : List ℕ → Option (List ℕ) → List ℕ
reason why None = why
reason why (Some extra) = with_extra (bytes_eq why (codes "crate-type") && not (bytes_eq extra (codes "no crate-type passed"))) why extra

abbrev pub parsed_row : Parsed → ServerStats
parsed_row (Started task) = record no_stats { compile_requests = 1 }
parsed_row NotCompile = record no_stats { compile_requests = 1; requests_not_compile = 1 }
parsed_row (CannotCache why extra) = record no_stats { compile_requests = 1; requests_not_cacheable = 1; not_cached = one_of (reason why extra) }
parsed_row (Unsupported text) = record no_stats { compile_requests = 1; requests_unsupported_compiler = 1 }

abbrev pub began_row : Request → Told → ServerStats
began_row (Compile c) (TellsCompile p) = parsed_row p
began_row (RecordStats delta) told = delta
began_row _ told = no_stats

abbrev pub with_dist : DistType → ServerStats → ServerStats
with_dist NoDist row = row
with_dist (DistOk server) row = record row { dist_compiles = one_of server }
with_dist DistError row = record row { dist_errors = 1 }

abbrev pub missed_row : MissType → PerLanguageCount → ServerStats → ServerStats
missed_row ForcedRecache lang row = record row { forced_recaches = 1 }
missed_row TimedOut lang row = record row { cache_timeouts = 1 }
missed_row CacheReadError lang row = record row { cache_errors = lang }
missed_row _ lang row = row

abbrev pub verdict_row : Setup → Task → Verdict → ServerStats
verdict_row s task KeyStepError = record no_stats { cache_errors = counted_language s task }
verdict_row s task (CacheHit d) = record no_stats { cache_hits = counted_language s task; cache_read_hit_duration = d }
verdict_row s task (CacheMiss miss dist d) = with_dist dist (missed_row miss (counted_language s task) (record no_stats { compilations = 1; cache_misses = counted_language s task; compiler_write_duration = d }))
verdict_row s task (NotCached dist d) = with_dist dist (record no_stats { compilations = 1; compiler_write_duration = d })
verdict_row s task (NotCacheable dist d) = with_dist dist (record no_stats { compilations = 1; compiler_write_duration = d; non_cacheable_compilations = 1 })
verdict_row s task (CompileFailed dist d) = with_dist dist (record no_stats { compilations = 1; compiler_write_duration = d; compile_fails = 1 })
verdict_row s task RunError = record no_stats { compile_fails = 1 }
verdict_row s task HttpError = no_stats
verdict_row s task FatalFault = record no_stats { cache_errors = counted_language s task }

-- the moment of the outcome
abbrev pub outcome_at : List Own → ℕ
outcome_at [] = 0
outcome_at (At m (Outcome v task) ∷ own) = m
outcome_at (_ ∷ own) = outcome_at own

abbrev pub written_row : Request → ℕ → Put → ServerStats
written_row (Compile c) d PutDone = record no_stats { cache_writes = 1; cache_write_duration = d }
written_row (Compile c) d _ = record no_stats { cache_write_errors = 1 }
written_row _ d put = no_stats

-- what an event counts, by its request, the moment of its outcome and its own
abbrev pub row : Setup → Request → ℕ → ℕ → What → ServerStats
row s r since m (Began q told) = began_row r told
row s r since m (Keyed true client step) = record no_stats { requests_executed = 1 }
row s r since m (Outcome v task) = verdict_row s task v
row s r since m (WriteEnded put hs) = written_row r (m - since) put
row s r since m _ = no_stats

-- all start anew at the Began of ZeroStats
abbrev pub zeroes : What → Bool
zeroes (Began ZeroStats told) = true
zeroes _ = false

abbrev pub count : Bool → ServerStats → ServerStats → ServerStats
count true before row = no_stats
count false before row = sum before row

abbrev pub count_of_owner : Script → List Event → Owner → ℕ → What → ServerStats → ServerStats
count_of_owner s t (OfRequest c n) m x before = count (zeroes x) before (row s.setup (request (all s c) n) (outcome_at (owned n (about c t))) m x)
count_of_owner s t _ m x before = before

-- the daemon's counters
abbrev pub total : Script → List Event → ServerStats
total s [] = s.first
total s (e ∷ t) = count_of_owner s t e.owner e.moment e.what (total s t)

-- a level's counters
abbrev pub last_at : List Own → ℕ
last_at [] = 0
last_at (At m x ∷ own) = m

-- when the last reservation was made
abbrev pub reserved_since : List Own → ℕ
reserved_since [] = 0
reserved_since (At m (Reserved k key n WriteDone) ∷ own) = m
reserved_since (_ ∷ own) = reserved_since own

-- how a put of this owner counts: a request's own, a handed one, or a backfill
pub data Origin_of_put : Type 0 where
  Direct : Origin_of_put
  FromPut : (at : ℕ) → Origin_of_put
  Backfill : Origin_of_put

abbrev pub by_backfill : Bool → ℕ → Origin_of_put
by_backfill true at = Backfill
by_backfill false at = FromPut at

abbrev pub find_given : ℕ → List Given → Origin_of_put
find_given i [] = Direct
find_given i (g ∷ gs) = if g.number == i then by_backfill g.backfill g.at else find_given i gs

abbrev pub put_origin : Owner → List Event → Origin_of_put
put_origin (OfWrite i) t = find_given i (left_writes t)
put_origin _ t = Direct

abbrev pub done_row : Origin_of_put → ℕ → LevelStats
done_row Backfill d = record no_level_stats { backfills_to = 1 }
done_row _ d = record no_level_stats { writes = 1; write_duration = d }

abbrev pub refused_row : Origin_of_put → LevelStats
refused_row Backfill = no_level_stats
refused_row _ = record no_level_stats { write_failures = 1 }

-- since when a remote write is measured
abbrev pub wrote_since : Origin_of_put → ℕ → ℕ
wrote_since (FromPut at) last = at
wrote_since _ last = last

abbrev pub asked_row : ℕ → Mode → Answer → ℕ → LevelStats
asked_row l Whole (Hit b mark) d = record no_level_stats { hits = 1; backfills_from = l; hit_duration = d }
asked_row l Raw (Hit b mark) d = record no_level_stats { hits = 1; backfills_from = l; hit_duration = d }
asked_row l Whole _ d = record no_level_stats { misses = 1 }
asked_row l Raw _ d = record no_level_stats { misses = 1 }
asked_row l _ _ d = no_level_stats

abbrev pub written_level_row : Origin_of_put → ℕ → Written → LevelStats
written_level_row o d WriteDone = done_row o d
written_level_row o d (WriteRefused c) = refused_row o

-- what an event counts at the level that it names; last: the owner's event before, since: its last reservation
abbrev pub level_row : Origin_of_put → ℕ → ℕ → ℕ → What → LevelStats
level_row o last since m (Asked l k mode a hs) = asked_row l mode a (m - last)
level_row o last since m (Reserved l k n (WriteRefused c)) = refused_row o
level_row o last since m (Filled l k b mark (WriteRefused c)) = refused_row o
level_row o last since m (Committed l k b w) = written_level_row o (m - since) w
level_row o last since m (Wrote l k b Whole mark w) = written_level_row o (m - wrote_since o last) w
level_row o last since m _ = no_level_stats

abbrev pub level_named : What → Option ℕ
level_named (Asked l k mode a hs) = Some l
level_named (Reserved l k n w) = Some l
level_named (Filled l k b mark w) = Some l
level_named (Committed l k b w) = Some l
level_named (Wrote l k b mode mark w) = Some l
level_named _ = None

abbrev pub is_at : ℕ → ℕ → Option ℕ → Bool
is_at n l None = false
is_at n l (Some k) = nat_lt l n && (k == l)

abbrev pub first_level : Script → ℕ → LevelStats
first_level s l = slice_index_or s.first_levels l no_level_stats

abbrev pub level_total : Script → List Event → ℕ → LevelStats
level_total s [] l = first_level s l
level_total s (e ∷ t) l =
    if is_at (length s.setup.levels) l (level_named e.what) then add_level (level_total s t l) (level_row (put_origin e.owner t) (last_at (own_of e.owner t)) (reserved_since (own_of e.owner t)) e.moment e.what)
    else level_total s t l

-- what a level tells of its counters: a single store has none
abbrev pub counters_of : Script → List Event → ℕ → Option LevelStats
counters_of s t l = if is_single s.setup.policy then None else Some (level_total s t l)
