-- Worked rows, event by event, computed.
use Rattle.std.proofs.Common.{◌≡◌, ℕ, zero, suc, Bool, true, false, List, [], ◌∷◌, length, inr, Option, Some, None, refl, arith, pos, codes}
use Rattle.sc_model.specs.Devices.{Passed}
use Rattle.sc_model.specs.Afterwards.{notes_then}
use Rattle.sc_model.specs.Dues.{Over, ToDist, ToEnd, ToFinish, ToKey, ToPlace, ToTake}
use Rattle.sc_model.specs.Follows.{Lawful, due}
use Rattle.sc_model.specs.Job.{At, Own, entry_mark, put_bytes}
use Rattle.sc_model.specs.Ledgers.{direct_row, numbers}
use Rattle.sc_model.specs.Plain.{plain_finish}
use Rattle.sc_model.specs.Plan.{backfilled, background, goes_on, plan, pre_plan}
use Rattle.sc_model.specs.Rows.{Backfill, Direct, level_row, row, total}
use Rattle.sc_model.specs.Script.{IsOpen, Script, Setup, no_task}
use Rattle.sc_model.specs.Through.{IsThrough}
use Rattle.sc_model.specs.Asking.{Asks_remote_calls}
use Rattle.sc_model.specs.Containers.{Makes_next}
use Rattle.sc_model.specs.Levels.{Level, SetsMark}
use Rattle.sc_model.specs.World.{first_missing, placed_of}
use Rattle.sc_model.specs.WriteCauses.{early_cause}
use Rattle.sc_model.specs.Writing.{Puts_mark, Reaches}
use Rattle.sc_model.specs.declared.event.Answer.{Answer}
use Rattle.sc_model.specs.declared.event.Answer.TheVariants.{Hit, Miss, Refused}
use Rattle.sc_model.specs.declared.event.DistAnswer.TheVariants.{Done as DistDone, Http as DistHttp, Other as DistOther}
use Rattle.sc_model.specs.declared.event.DistType.{DistType}
use Rattle.sc_model.specs.declared.event.DistType.TheVariants.{Error as DistError, NoDist, Ok as DistOk}
use Rattle.sc_model.specs.declared.event.Event.{Event}
use Rattle.sc_entry.specs.declared.object.FileObjectSource.{FileObjectSource}
use Rattle.sc_model.specs.declared.event.KeyStep.TheVariants.{Key}
use Rattle.sc_model.specs.declared.event.MissType.{MissType}
use Rattle.sc_model.specs.declared.event.MissType.TheVariants.{CacheReadError, ForcedRecache, Normal, TimedOut}
use Rattle.sc_model.specs.declared.event.Mode.TheVariants.{Raw, Whole}
use Rattle.sc_entry.specs.declared.object.Object.{Object}
use Rattle.sc_model.specs.declared.event.Objects.TheVariants.{Collected}
use Rattle.sc_model.specs.declared.event.Owner.TheVariants.{Request as OfRequest}
use Rattle.sc_model.specs.declared.event.Parsed.TheVariants.{Started}
use Rattle.sc_model.specs.declared.event.Placing.TheVariants.{Done as PlaceDone, Missing}
use Rattle.sc_model.specs.declared.event.RunAnswer.TheVariants.{Output as RanOutput}
use Rattle.sc_model.specs.declared.event.Status.{Status}
use Rattle.sc_model.specs.declared.event.Status.TheVariants.{Code}
use Rattle.sc_model.specs.declared.event.Task.{Task}
use Rattle.sc_model.specs.declared.event.Told.TheVariants.{Compile as TellsCompile, Nothing as TellsNothing}
use Rattle.sc_model.specs.declared.event.Verdict.TheVariants.{CacheHit, CacheMiss, CompileFailed, Http as HttpError, NotCached}
use Rattle.sc_model.specs.declared.event.What.{What}
use Rattle.sc_model.specs.declared.event.What.TheVariants.{Asked, Began, Dist, Filled, Keyed, Outcome, Placed, Ran, Reserved, Sent, TokenTaken, WriteEnded, Wrote}
use Rattle.sc_model.specs.declared.event.Written.TheVariants.{Done as WriteDone, Refused as WriteRefused}
use Rattle.sc_model.specs.declared.level.Cause.TheVariants.{BadEntry, BadKey, Io, ReadOnly as ForReading, RemoteFault as RemoteRefused}
use Rattle.sc_model.specs.declared.level.LevelFacts.{LevelFacts}
use Rattle.sc_model.specs.declared.level.LevelKind.TheVariants.{Remote}
use Rattle.sc_model.specs.declared.level.LevelPolicy.TheVariants.{Background, Off, Required}
use Rattle.sc_model.specs.declared.level.Making.TheVariants.{Made as IsMade, Unreachable}
use Rattle.sc_model.specs.declared.level.Policy.TheVariants.{Levels, Single}
use Rattle.sc_model.specs.declared.level.Put.TheVariants.{Done as PutDone}
use Rattle.sc_model.specs.declared.level.RemoteFault.TheVariants.{Other as OtherFault}
use Rattle.sc_model.specs.declared.level.Store.TheVariants.{Remote as RemoteStore}
use Rattle.sc_entry.specs.declared.cache_mode.CacheMode.TheVariants.{ReadOnly as ModeReadOnly, ReadWrite as ModeReadWrite}
use Rattle.sc_model.specs.declared.message.ColorMode.TheVariants.{Auto as ColorAuto}
use Rattle.sc_model.specs.declared.message.CompileFinished.{CompileFinished}
use Rattle.sc_model.specs.declared.message.CompileResponse.TheVariants.{CompileStarted}
use Rattle.sc_model.specs.declared.message.Request.{Request}
use Rattle.sc_model.specs.declared.message.Request.TheVariants.{Compile, RecordStats, StoragePutRaw as PutRaw}
use Rattle.sc_model.specs.declared.message.Response.{Response}
use Rattle.sc_model.specs.declared.message.Response.TheVariants.{ArtifactNotification as Note, Compile as Answered, CompileFinished as Finished}
use Rattle.sc_model.specs.declared.message.Variable.{Variable}
use Rattle.sc_model.specs.declared.phase.Refusal.TheVariants.{At as RefusedAt}
use Rattle.sc_stats.specs.Sums.{no_level_stats, no_stats}

-- a single remote store, a compiler that reads all, replies of 40 bytes; entries: 1 holds obj and stdout, 2 stdout alone, 0 is none

abbrev name_obj : List ℕ
name_obj = codes "obj"

abbrev obj : Object
obj = record { name = name_obj; mode = None; bytes = 65 ∷ 66 ∷ [] }

abbrev out : Object
out = record { name = codes "stdout"; mode = None; bytes = 104 ∷ 105 ∷ [] }

abbrev read_entry : List ℕ → Option (List Object)
read_entry (suc zero ∷ []) = Some (obj ∷ out ∷ [])
read_entry (suc (suc zero) ∷ []) = Some (out ∷ [])
read_entry _ = None

abbrev variable : List ℕ → Variable
variable n = record { name = n; value = [] }

abbrev compile : List Variable → Request
compile vs = Compile (record { exe = codes "/cc"; cwd = codes "/"; args = []; env_vars = vs })

abbrev remote : LevelFacts
remote = record { kind = Remote; wrapped = false; configured = ModeReadWrite; mode = ModeReadWrite; capacity = 0; root = [] }

abbrev setup : Setup
setup = record {
  codec = record { payload = λ g. []; entry = λ os. 1 ∷ []; objects = read_entry };
  compilers = record { reads = λ c. None; keys = λ c k. None; color = λ c. ColorAuto; pretty = λ c. codes "/o"; is_note = λ c l. false; is_valid = λ b. true; kind_text = λ t. codes "C/C++"; full_text = λ t. codes "c [gcc]" };
  workshop = λ k rs os. None;
  placing = λ k. None;
  dist = λ k ds os. None;
  scheduler = record { url = None; retry_text = λ n. []; status = None };
  store = record { location = []; type_name = []; basedirs = []; basedir_texts = []; flag = false; max_size = None };
  levels = remote ∷ [];
  policy = Single;
  tokens = 1;
  limit = 100;
}

abbrev script : Request → Script
script r = record {
  setup = setup;
  inputs = [] ∷ [];
  reader = record { requests = λ b. r ∷ []; rest = λ b. []; ends = λ b c. IsOpen };
  first = no_stats;
  first_levels = no_level_stats ∷ [];
}

abbrev task : Task
task = no_task

abbrev key : List ℕ
key = codes "key1"

abbrev outputs : List FileObjectSource
outputs = (record { key = name_obj; path = codes "/o"; optional = false }) ∷ []

abbrev keyed : Bool → Bool → Bool → What
keyed first client locally = Keyed first client (Key (record { key = key; outputs = outputs; locally_preprocessed = locally; cacheable = true }))

abbrev ran : Status → What
ran st = Ran (RanOutput (record { output = record { status = st; stdout = 104 ∷ 105 ∷ []; stderr = [] }; objects = Collected (obj ∷ []) }))

abbrev reply : Request → Response
reply r = Finished (record { retcode = Some (pos 0); signal = None; stdout = 104 ∷ 105 ∷ []; stderr = []; color_mode = ColorAuto })

-- the first events of each compile, the newest first
abbrev begun : Request → Bool → Bool → List Own
begun r client locally = At 0 (keyed true client locally) ∷ At 0 (Sent (Answered CompileStarted)) ∷ At 0 (Began r (TellsCompile (Started task))) ∷ []

abbrev asked : Request → ℕ → Answer → List Own
asked r m a = At m (Asked 0 key Whole a []) ∷ begun r false true

-- a miss that is run and stored
abbrev stored_after : Request → MissType → DistType → ℕ → List Own → List Own
stored_after r miss dist m own =
    At m (Sent (reply r)) ∷ At m (WriteEnded PutDone []) ∷ At m (Wrote 0 key (1 ∷ []) Whole true WriteDone) ∷ At m (Outcome (CacheMiss miss dist 0) task) ∷ At m (ran (Code 0)) ∷ At m TokenTaken ∷ own

-- a miss that is run and stored: ten events, and then nothing more
stored_miss : due setup (compile []) (stored_after (compile []) Normal NoDist 0 (asked (compile []) 0 Miss)) ≡ Over
stored_miss = refl

stored_miss_count : length (stored_after (compile []) Normal NoDist 0 (asked (compile []) 0 Miss)) ≡ 10
stored_miss_count = refl

stored_miss_lawful : Lawful setup (compile []) (stored_after (compile []) Normal NoDist 0 (asked (compile []) 0 Miss))
stored_miss_lawful =
    ((refl, omega arith), ((refl, refl), ((refl, refl, refl, refl, refl), ((refl, refl), (tt, (tt, ((refl, refl, refl, refl), ((refl, tt), ((refl, omega arith), ((refl, tt), tt))))))))))

trace_of : List Own → List Event
trace_of [] = []
trace_of (At m x ∷ own) = (record { moment = m; owner = OfRequest 0 0; what = x }) ∷ trace_of own

-- the same compile again, a hit: seven events
abbrev hit_row : ℕ → List ℕ → List Own → List Own
hit_row m b own = At m (Sent (reply (compile []))) ∷ At m (Outcome (CacheHit m) task) ∷ At m (Placed PlaceDone) ∷ own

hit_lawful : Lawful setup (compile []) (hit_row 0 (1 ∷ []) (asked (compile []) 0 (Hit (1 ∷ []) true)))
hit_lawful = ((refl, omega arith), ((refl, refl), (tt, ((refl, refl, refl, refl), ((refl, tt), ((refl, omega arith), ((refl, tt), tt)))))))

hit_count : length (hit_row 0 (1 ∷ []) (asked (compile []) 0 (Hit (1 ∷ []) true))) ≡ 7
hit_count = refl

-- a run of status 1: eight events, and nothing is stored
abbrev failed_row : List Own
failed_row =
    At 0 (Outcome (CompileFailed NoDist 0) task) ∷ At 0 (Ran (RanOutput (record { output = record { status = Code 1; stdout = []; stderr = codes "bad" }; objects = Collected [] }))) ∷ At 0 TokenTaken ∷ asked (compile []) 0 Miss

failed_reply : due setup (compile []) failed_row ≡ ToFinish [] (record { retcode = Some (pos 1); signal = None; stdout = []; stderr = codes "bad"; color_mode = ColorAuto })
failed_reply = refl

failed_count : length failed_row ≡ 7
failed_count = refl

-- both variables: no lookup, no write
abbrev uncached : Request
uncached = compile (variable (codes "SCCACHE_NO_CACHE") ∷ variable (codes "SCCACHE_RECACHE") ∷ [])

uncached_runs : due setup uncached (begun uncached false true) ≡ ToTake
uncached_runs = refl

uncached_outcome : due setup uncached (At 0 (ran (Code 0)) ∷ At 0 TokenTaken ∷ begun uncached false true) ≡ ToEnd (NotCached NoDist 0) task
uncached_outcome = refl

-- bytes that spell no entry are a read error; a hit that lacks obj is one too
broken_entry_outcome : due setup (compile []) (At 0 (ran (Code 0)) ∷ At 0 TokenTaken ∷ asked (compile []) 0 (Refused BadEntry)) ≡ ToEnd (CacheMiss CacheReadError NoDist 0) task
broken_entry_outcome = refl

lacking_hit_outcome : due setup (compile []) (At 0 (ran (Code 0)) ∷ At 0 TokenTaken ∷ At 0 (Placed (Missing name_obj)) ∷ asked (compile []) 0 (Hit (2 ∷ []) false)) ≡ ToEnd (CacheMiss CacheReadError NoDist 0) task
lacking_hit_outcome = refl

lacking_hit_name : first_missing (read_entry (2 ∷ [])) (placed_of true outputs) ≡ Some name_obj
lacking_hit_name = refl

lacking_hit_count : length (stored_after (compile []) CacheReadError NoDist 0 (At 0 (Placed (Missing name_obj)) ∷ asked (compile []) 0 (Hit (2 ∷ []) false))) ≡ 11
lacking_hit_count = refl

-- a client and --dep: Keyed again, then distributed
abbrev distributed : List Own
distributed = At 0 (keyed false true false) ∷ At 0 (Asked 0 key Whole Miss []) ∷ begun (compile []) true false

distributed_keyed_again : due setup (compile []) (At 0 (Asked 0 key Whole Miss []) ∷ begun (compile []) true false) ≡ ToKey false
distributed_keyed_again = refl

distributed_due : due setup (compile []) distributed ≡ ToDist
distributed_due = refl

distributed_done : due setup (compile []) (At 0 (Dist (DistDone (codes "srv") (record { output = record { status = Code 0; stdout = 104 ∷ 105 ∷ []; stderr = [] }; objects = Collected (obj ∷ []) }))) ∷ distributed) ≡ ToEnd (CacheMiss ForcedRecache (DistOk (codes "srv")) 0) task
distributed_done = refl

distributed_lost : due setup (compile []) (At 0 (ran (Code 0)) ∷ At 0 TokenTaken ∷ At 0 (Dist (DistOther (codes "lost"))) ∷ distributed) ≡ ToEnd (CacheMiss ForcedRecache DistError 0) task
distributed_lost = refl

distributed_count : length (stored_after (compile []) ForcedRecache DistError 0 (At 0 (Dist (DistOther (codes "lost"))) ∷ distributed)) ≡ 12
distributed_count = refl

-- locally preprocessed, with a client: no second key step
distributed_http_reply : due setup (compile []) (At 0 (Outcome HttpError task) ∷ At 0 (Dist (DistHttp (codes "gone"))) ∷ At 0 (Asked 0 key Whole Miss []) ∷ begun (compile []) true true)
    ≡ ToFinish [] (record { retcode = Some (pos 1); signal = None; stdout = []; stderr = codes "[\"/o\"] http error status: gone"; color_mode = ColorAuto })
distributed_http_reply = refl

-- a hit later than 60 s, and just in time
late_hit_runs : due setup (compile []) (At 60000000001 (ran (Code 0)) ∷ At 60000000001 TokenTaken ∷ asked (compile []) 60000000001 (Hit (1 ∷ []) true)) ≡ ToEnd (CacheMiss TimedOut NoDist 0) task
late_hit_runs = refl

hit_in_time_places : due setup (compile []) (asked (compile []) 60000000000 (Hit (1 ∷ []) true)) ≡ ToPlace
hit_in_time_places = refl

-- which levels are written, and which writes are handed on
abbrev three : List LevelFacts
three = remote ∷ remote ∷ remote ∷ []

all_levels_written : plan (Levels (Required ∷ Required ∷ Required ∷ [])) three ≡ 0 ∷ 1 ∷ 2 ∷ []
all_levels_written = refl

third_level_backfills : backfilled (Levels (Required ∷ Required ∷ Required ∷ [])) three 2 ≡ 0 ∷ 1 ∷ []
third_level_backfills = refl

refused_level_hands_none : goes_on (RefusedAt 0 Io) (background (Levels (Required ∷ Background ∷ [])) (remote ∷ remote ∷ [])) ≡ []
refused_level_hands_none = refl

read_only_level_skipped : plan (Levels (Required ∷ Required ∷ [])) (record remote { mode = ModeReadOnly } ∷ remote ∷ []) ≡ 1 ∷ []
read_only_level_skipped = refl

required_level_alone : plan (Levels (Required ∷ Off ∷ Background ∷ [])) three ≡ 0 ∷ []
required_level_alone = refl

background_level_handed : background (Levels (Required ∷ Off ∷ Background ∷ [])) three ≡ 2 ∷ []
background_level_handed = refl

-- the scalar counters of that stored miss
stored_miss_writes : (total (script (compile [])) (trace_of (stored_after (compile []) Normal NoDist 0 (asked (compile []) 0 Miss)))).cache_writes ≡ 1
unfolding trace_of
stored_miss_writes = refl

stored_miss_compilations : (total (script (compile [])) (trace_of (stored_after (compile []) Normal NoDist 0 (asked (compile []) 0 Miss)))).compilations ≡ 1
unfolding trace_of
stored_miss_compilations = refl

stored_miss_write_errors : (total (script (compile [])) (trace_of (stored_after (compile []) Normal NoDist 0 (asked (compile []) 0 Miss)))).cache_write_errors ≡ 0
unfolding trace_of
stored_miss_write_errors = refl

-- a row of each table of what is counted
lost_job_counts : (row setup (compile []) 0 0 (Outcome (CacheMiss ForcedRecache DistError 0) task)).dist_errors ≡ 1
lost_job_counts = refl

lost_job_forces : (row setup (compile []) 0 0 (Outcome (CacheMiss ForcedRecache DistError 0) task)).forced_recaches ≡ 1
lost_job_forces = refl

third_level_hit_counts : (level_row Direct 0 0 0 (Asked 2 key Raw (Hit (1 ∷ []) false) [])).backfills_from ≡ 2
third_level_hit_counts = refl

backfill_counts : (level_row Backfill 0 0 0 (Wrote 0 key (1 ∷ []) Whole false WriteDone)).backfills_to ≡ 1
backfill_counts = refl

record_sets_all : numbers setup (RecordStats no_stats) 0 0 (Began (RecordStats no_stats) TellsNothing) ≡ 0 ∷ 0 ∷ 0 ∷ 0 ∷ 0 ∷ 0 ∷ 0 ∷ 0 ∷ 0 ∷ 0 ∷ 0 ∷ 0 ∷ 0 ∷ 0 ∷ 1 ∷ []
record_sets_all = refl

compile_is_a_request : (row setup (compile []) 0 0 (Began (compile []) (TellsCompile (Started task)))).compile_requests ≡ 1
compile_is_a_request = refl

direct_compile_is_none : (direct_row setup (compile []) 0 0 (Began (compile []) (TellsCompile (Started task)))).compile_requests ≡ 0
direct_compile_is_none = refl

-- why a write is refused before its device is called
read_only_first : early_cause Single (record remote { configured = ModeReadOnly; mode = ModeReadOnly }) (codes "a") ≡ Some (ForReading RemoteStore)
read_only_first = refl

bad_key_next : early_cause Single remote (codes "a") ≡ Some BadKey
bad_key_next = refl

-- a put of a request says of its bytes that no run made them, and a run that it did
raw_put_unmarked : (put_bytes (PutRaw key (1 ∷ []))).run ≡ false
raw_put_unmarked = refl

refused_put_unmarked : (v w : Level) → Puts_mark (WriteRefused (RemoteRefused OtherFault)) key true v w ≡ SetsMark key false v w
refused_put_unmarked v w = refl

second_fill_unmarks : entry_mark (At 0 (Filled 0 key (1 ∷ []) true WriteDone) ∷ At 0 (Filled 0 key (1 ∷ []) true WriteDone) ∷ At 0 (Reserved 0 key 1 WriteDone) ∷ []) ≡ false
second_fill_unmarks = refl

first_fill_marks : entry_mark (At 0 (Filled 0 key (1 ∷ []) true WriteDone) ∷ At 0 (Reserved 0 key 1 WriteDone) ∷ []) ≡ true
first_fill_marks = refl

-- levels that are off take no preprocessor entry and no backfill
off_level_takes_none : pre_plan (Levels (Required ∷ Off ∷ Background ∷ [])) three ≡ 0 ∷ 2 ∷ []
off_level_takes_none = refl

off_level_has_no_backfill : backfilled (Levels (Off ∷ Required ∷ Required ∷ [])) three 2 ≡ 1 ∷ []
off_level_has_no_backfill = refl

-- notifications before the last reply
notes_come_first : (last : CompileFinished) → notes_then (codes "a" ∷ codes "b" ∷ []) last ≡ Note (codes "a") ∷ Note (codes "b") ∷ Finished last ∷ []
notes_come_first last = refl

-- what reached what is behind a remote, once
done_write_reaches : Reaches WriteDone key (1 ∷ []) (Some []) (Some ((key, 1 ∷ []) ∷ []))
done_write_reaches = refl

-- which calls were made: one of a remote's device, and none for a bad key
remote_read_calls : Asks_remote_calls Whole Miss (Passed 1)
remote_read_calls = refl

bad_key_calls_none : Asks_remote_calls Whole (Refused BadKey) (Passed 0)
bad_key_calls_none = refl

-- a maker's answers in turn, and behind the last each client is made
makes_the_next : Makes_next (Some (Unreachable ∷ [])) Unreachable (Some [])
makes_the_next = (refl, refl)

makes_each_then : Makes_next (Some []) IsMade (Some [])
makes_each_then = (refl, refl)

-- what a compile gets with no store
plain_stdout : (plain_finish setup (compile []) task (Key (record { key = key; outputs = outputs; locally_preprocessed = true; cacheable = true })) (RanOutput (record { output = record { status = Code 0; stdout = 104 ∷ 105 ∷ []; stderr = [] }; objects = Collected (obj ∷ []) }))).stdout ≡ 104 ∷ 105 ∷ []
plain_stdout = refl

-- what a level writes is what is put behind it
writes_through : IsThrough (trace_of (At 0 (Wrote 1 key (1 ∷ []) Whole false WriteDone) ∷ At 0 (Wrote 1 key (2 ∷ []) Whole false (WriteRefused Io)) ∷ [])) (trace_of (At 0 (Began (PutRaw key (1 ∷ [])) TellsNothing) ∷ [])) 1
unfolding trace_of
writes_through = inr (refl, refl)
