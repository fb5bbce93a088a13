-- What is due after an event.
use Rattle.std.specs.Prelude.{ℕ, suc, ◌-◌, Bool, true, false, ◌&&◌, not, if◌then◌else◌, List, [], ◌∷◌, ◌++◌, Some, None, Ok, Err, codes}
use Rattle.sc_model.specs.Finishing.{finish, notes_of}
use Rattle.sc_model.specs.Job.{Own, asked_at, bytes_of, is_late, job_of, miss_of, put_bytes, refused, sized, stats_of, task_of, work_from}
use Rattle.sc_model.specs.Judging.{judge, judged_verdict}
use Rattle.sc_model.specs.Plan.{cause_text, plan, pre_plan, put_result}
use Rattle.sc_model.specs.Script.{Control, Default, Setup, control, counted_task}
use Rattle.sc_model.specs.declared.event.Answer.{Answer}
use Rattle.sc_model.specs.declared.event.Answer.TheVariants.{Found as FoundAt, Hit, Refused, Size as SizeIs}
use Rattle.sc_model.specs.declared.event.DistAnswer.{DistAnswer}
use Rattle.sc_model.specs.declared.event.DistAnswer.TheVariants.{Done as DistDone, Http as DistHttp, Other as DistOther}
use Rattle.sc_model.specs.declared.event.DistType.TheVariants.{Ok as DistOk}
use Rattle.sc_model.specs.declared.event.KeyStep.{KeyStep}
use Rattle.sc_model.specs.declared.event.KeyStep.TheVariants.{Fault as KeyFault, Key, ProcessError as KeyError}
use Rattle.sc_model.specs.declared.event.MissType.{MissType}
use Rattle.sc_model.specs.declared.event.Mode.{Mode}
use Rattle.sc_model.specs.declared.event.Mode.TheVariants.{Path, Pre, Raw, Size as Sizes, Whole}
use Rattle.sc_model.specs.declared.event.Parsed.{Parsed}
use Rattle.sc_model.specs.declared.event.Parsed.TheVariants.{CannotCache, NotCompile, Started, Unsupported}
use Rattle.sc_model.specs.declared.event.Placing.{Placing}
use Rattle.sc_model.specs.declared.event.Placing.TheVariants.{Done as PlaceDone, Fault as PlaceFault, Missing}
use Rattle.sc_model.specs.declared.event.Told.{Told}
use Rattle.sc_model.specs.declared.event.Told.TheVariants.{Compile as TellsCompile, Dist as TellsDist, Handshake as TellsHandshake, Nothing as TellsNothing, Stats as TellsStats, Valid as TellsValid}
use Rattle.sc_model.specs.declared.event.Verdict.{Verdict}
use Rattle.sc_model.specs.declared.event.Verdict.TheVariants.{CacheHit, CacheMiss, Error as KeyStepError, Fault as FatalFault, Http as HttpError}
use Rattle.sc_model.specs.declared.level.Put.{Put}
use Rattle.sc_model.specs.declared.message.CompileFinished.{CompileFinished}
use Rattle.sc_model.specs.declared.message.CompileResponse.TheVariants.{CompileStarted, UnhandledCompile, UnsupportedCompiler}
use Rattle.sc_entry.specs.declared.get_path_result.GetPathResult.TheVariants.{Found as PathFound, Miss as PathMiss, Unsupported as PathUnsupported}
use Rattle.sc_model.specs.declared.message.Request.{Request}
use Rattle.sc_model.specs.declared.message.Request.TheVariants.{Compile, DistStatus, GetStats, RecordStats, Shutdown, StorageGetPath as GetPath, StorageGetPreprocessorEntry as GetPre, StorageGetRaw as GetRaw, StorageHandshake as Handshake, StoragePutPreprocessorEntry as PutPre, StoragePutRaw as PutRaw, ZeroStats}
use Rattle.sc_model.specs.declared.message.Response.{Response}
use Rattle.sc_model.specs.declared.message.Response.TheVariants.{ArtifactNotification as Note, Compile as Answered, CompileFinished as Finished, DistStatus as DistTold, RecordStats as Recorded, StorageGetPath as PathReply, StorageGetPreprocessorEntry as PreReply, StorageGetRaw as RawReply, StorageHandshake as Shaken, StoragePutPreprocessorEntry as PrePutReply, StoragePutRaw as PutReply, ZeroStats as Zeroed}
use Rattle.sc_model.specs.declared.phase.Job.{Job}
use Rattle.sc_model.specs.declared.phase.Refusal.TheVariants.{NoneYet}
use Rattle.sc_model.specs.declared.phase.Sized.{Sized}
use Rattle.sc_stats.specs.declared.counters.ServerStats.{ServerStats}
use Rattle.sc_model.specs.Describing.{server_info, stats_reply}
use Rattle.sc_model.specs.Dues.{Due, ToSend, ToFinish, ToKey, ToAsk, ToPlace, ToDist, ToTake, ToEnd, Over, Stopped, next_write, next_pre, left, left_pre, ask_next, is_disk_alone}

abbrev pub begin_pre : Setup → Bool → Request → Due
begin_pre s true r = next_pre s (put_bytes r) NoneYet (pre_plan s.policy s.levels)
begin_pre s false r = ToSend (PrePutReply (Err (codes "bad preprocessor entry")))

abbrev pub begin_compile : Parsed → Due
begin_compile (Started task) = ToSend (Answered CompileStarted)
begin_compile NotCompile = ToSend (Answered UnhandledCompile)
begin_compile (CannotCache why extra) = ToSend (Answered UnhandledCompile)
begin_compile (Unsupported text) = ToSend (Answered (UnsupportedCompiler text))

abbrev pub after_began : Setup → Request → Told → Due
after_began s (Compile c) (TellsCompile p) = begin_compile p
after_began s (GetRaw k) _ = ask_next s Raw 0 k (ToSend (RawReply None))
after_began s (PutRaw k b) _ = next_write s (put_bytes (PutRaw k b)) NoneYet (plan s.policy s.levels)
after_began s (GetPath k) _ = if is_disk_alone s.policy s.levels then ToAsk Path 0 k else ToSend (PathReply PathUnsupported)
after_began s (GetPre k) _ = ask_next s Pre 0 k (ToSend (PreReply (Ok None)))
after_began s (PutPre k b) (TellsValid v) = begin_pre s v (PutPre k b)
after_began s GetStats (TellsStats stats) = ask_next s Sizes 0 [] (ToSend (stats_reply GetStats (server_info s stats [])))
after_began s Shutdown (TellsStats stats) = ask_next s Sizes 0 [] (ToSend (stats_reply Shutdown (server_info s stats [])))
after_began s DistStatus (TellsDist info) = ToSend (DistTold info)
after_began s Handshake (TellsHandshake info) = ToSend (Shaken info)
after_began s ZeroStats TellsNothing = ToSend Zeroed
after_began s (RecordStats stats) TellsNothing = ToSend Recorded
after_began s _ _ = Over

-- a run is due: first the distributed client's, where there is one
abbrev pub start_work : Job → Due
start_work job = if job.client then ToDist else ToTake

-- a miss at the default control
abbrev pub missed : Job → Due
missed job = if not job.found.locally_preprocessed && job.client then ToKey false else start_work job

abbrev pub after_control : Setup → Control → Job → Due
after_control s Default job = ask_next s Whole 0 job.found.key (missed job)
after_control s _ job = start_work job

abbrev pub after_key : Setup → Request → List Own → ℕ → Bool → Bool → KeyStep → Due
after_key s r own m first client (Key found) = after_control s (control r first) (record { task = task_of own; found = found; at = m; client = client; first = first })
after_key s r own m first client (KeyError out) = ToEnd KeyStepError (counted_task r (task_of own))
after_key s r own m first client (KeyFault chain) = ToEnd FatalFault (counted_task r (task_of own))

abbrev pub after_whole : Setup → Job → ℕ → ℕ → Answer → Due
after_whole s job m l (Hit b mark) = if is_late job m then missed job else ToPlace
after_whole s job m l _ = ask_next s Whole (suc l) job.found.key (missed job)

abbrev pub after_raw : Setup → ℕ → List ℕ → Answer → Due
after_raw s l k (Hit b mark) = ToSend (RawReply (Some b))
after_raw s l k _ = ask_next s Raw (suc l) k (ToSend (RawReply None))

abbrev pub after_path : Answer → Due
after_path (FoundAt p) = ToSend (PathReply (PathFound p))
after_path _ = ToSend (PathReply PathMiss)

abbrev pub after_pre : Setup → ℕ → List ℕ → Answer → Due
after_pre s l k (Hit b mark) = ToSend (PreReply (Ok (Some b)))
after_pre s l k (Refused c) = ToSend (PreReply (Err (cause_text c)))
after_pre s l k _ = ask_next s Pre (suc l) k (ToSend (PreReply (Ok None)))

abbrev pub with_size : List Sized → Answer → List Sized
with_size zs (SizeIs n c) = zs ++ (record { size = n; counters = c }) ∷ []
with_size zs _ = zs

abbrev pub after_size : Setup → Request → ServerStats → List Sized → ℕ → List ℕ → Due
after_size s r stats zs l k = ask_next s Sizes (suc l) k (ToSend (stats_reply r (server_info s stats zs)))

abbrev pub after_asked : Setup → Request → List Own → ℕ → ℕ → List ℕ → Mode → Answer → Due
after_asked s r own m l k Whole a = after_whole s (job_of own) m l a
after_asked s r own m l k Raw a = after_raw s l k a
after_asked s r own m l k Path a = after_path a
after_asked s r own m l k Pre a = after_pre s l k a
after_asked s r own m l k Sizes a = after_size s r (stats_of own) (with_size (sized own) a) l k

abbrev pub after_placed : Request → List Own → Placing → Due
after_placed r own PlaceDone = ToEnd (CacheHit (asked_at own - (job_of own).at)) (counted_task r (task_of own))
after_placed r own (Missing name) = missed (job_of own)
after_placed r own (PlaceFault chain) = ToEnd FatalFault (counted_task r (task_of own))

abbrev pub dist_verdict : Job → MissType → ℕ → DistAnswer → Verdict
dist_verdict job miss d (DistDone server out) = judged_verdict (judge job miss out) miss (DistOk server) d
dist_verdict job miss d (DistHttp text) = HttpError
dist_verdict job miss d _ = FatalFault

abbrev pub after_dist : Setup → Request → List Own → ℕ → DistAnswer → Due
after_dist s r own m (DistOther text) = ToTake
after_dist s r own m d = ToEnd (dist_verdict (job_of own) (miss_of s r own) (m - work_from own) d) (counted_task r (task_of own))

abbrev pub after_outcome : Setup → Request → List Own → Verdict → Due
after_outcome s r own (CacheMiss miss dist d) = next_write s (bytes_of s r own) NoneYet (plan s.policy s.levels)
after_outcome s r own _ = ToFinish (notes_of s r own) (finish s r own)

abbrev pub after_wrote : Setup → Request → List Own → Mode → Due
after_wrote s r own Pre = next_pre s (bytes_of s r own) (refused own) (left_pre s own)
after_wrote s r own _ = next_write s (bytes_of s r own) (refused own) (left s own)

abbrev pub after_write : Setup → Request → List Own → Put → Due
after_write s (Compile c) own put = ToFinish (notes_of s (Compile c) own) (finish s (Compile c) own)
after_write s _ own put = ToSend (PutReply (put_result put))

abbrev pub after_sent : Response → Due
after_sent (Answered CompileStarted) = ToKey true
after_sent _ = Over

abbrev pub after_send : Response → Due → Due
after_send g (ToFinish [] last) = Over
after_send g (ToFinish (n ∷ ns) last) = ToFinish ns last
after_send g _ = after_sent g

abbrev pub notes_then : List (List ℕ) → CompileFinished → List Response
notes_then [] last = Finished last ∷ []
notes_then (n ∷ ns) last = Note n ∷ notes_then ns last

-- the first reply that is due, and all of them
abbrev pub first_reply : List (List ℕ) → CompileFinished → Response
first_reply [] last = Finished last
first_reply (n ∷ ns) last = Note n

abbrev pub stop : Due → Due
stop (ToSend f) = Stopped (f ∷ [])
stop (ToFinish ns last) = Stopped (notes_then ns last)
stop _ = Over
