-- At which phase the code keeps a request after an event. No promise speaks of it.
use Rattle.std.specs.Prelude.{ℕ, suc, ◌-◌, Bool, true, false, ◌&&◌, not, if◌then◌else◌, List, [], ◌∷◌, length, Option, Some, None, Ok, Err, codes, nat_lt}
use Rattle.sc_model.specs.Afterwards.{dist_verdict, notes_then, with_size}
use Rattle.sc_model.specs.Describing.{server_info, stats_reply}
use Rattle.sc_model.specs.Dues.{Due, ToFinish, ToSend, is_disk_alone}
use Rattle.sc_model.specs.Finishing.{finish_dist, finish_fatal, finish_hit, finish_output, finish_run, run_notes}
use Rattle.sc_model.specs.Job.{by_answer, forced, if_late, is_late, put_bytes, run_bytes}
use Rattle.sc_model.specs.Judging.{IsStored, Judged, judge, run_verdict}
use Rattle.sc_model.specs.Plan.{cause_text, goes_on, note, plan, pre_plan, put_result}
use Rattle.sc_model.specs.Script.{Control, Default, Setup, control}
use Rattle.sc_model.specs.declared.event.Answer.{Answer}
use Rattle.sc_model.specs.declared.event.Answer.TheVariants.{Found as FoundAt, Hit, Refused}
use Rattle.sc_model.specs.declared.event.DistAnswer.{DistAnswer}
use Rattle.sc_model.specs.declared.event.DistAnswer.TheVariants.{Done as DistDone, Other as DistOther}
use Rattle.sc_model.specs.declared.event.DistType.TheVariants.{Error as DistError, NoDist}
use Rattle.sc_model.specs.declared.event.KeyStep.{KeyStep}
use Rattle.sc_model.specs.declared.event.KeyStep.TheVariants.{Fault as KeyFault, Key, ProcessError as KeyError}
use Rattle.sc_model.specs.declared.event.MissType.{MissType}
use Rattle.sc_model.specs.declared.event.MissType.TheVariants.{CacheReadError, Normal}
use Rattle.sc_model.specs.declared.event.Parsed.{Parsed}
use Rattle.sc_model.specs.declared.event.Parsed.TheVariants.{CannotCache, NotCompile, Started, Unsupported}
use Rattle.sc_model.specs.declared.event.Placing.{Placing}
use Rattle.sc_model.specs.declared.event.Placing.TheVariants.{Done as PlaceDone, Fault as PlaceFault, Missing}
use Rattle.sc_model.specs.declared.event.RunAnswer.{RunAnswer}
use Rattle.sc_model.specs.declared.event.RunAnswer.TheVariants.{Output as RanOutput}
use Rattle.sc_model.specs.declared.event.Task.{Task}
use Rattle.sc_model.specs.declared.event.Told.{Told}
use Rattle.sc_model.specs.declared.event.Told.TheVariants.{Compile as TellsCompile, Dist as TellsDist, Handshake as TellsHandshake, Nothing as TellsNothing, Stats as TellsStats, Valid as TellsValid}
use Rattle.sc_model.specs.declared.event.Verdict.{Verdict}
use Rattle.sc_model.specs.declared.event.Verdict.TheVariants.{CacheHit, Error as KeyStepError, Fault as FatalFault}
use Rattle.sc_model.specs.declared.event.What.{What}
use Rattle.sc_model.specs.declared.event.What.TheVariants.{Asked, Began, Committed, Dist, Filled, Keyed, Outcome, Placed, Ran, Reserved, Sent, TokenTaken, TooLong, WriteEnded, Wrote}
use Rattle.sc_model.specs.declared.event.Written.{Written}
use Rattle.sc_model.specs.declared.event.Written.TheVariants.{Done as WriteDone, Refused as WriteRefused}
use Rattle.sc_model.specs.declared.level.Put.{Put}
use Rattle.sc_model.specs.declared.message.CompileFinished.{CompileFinished}
use Rattle.sc_model.specs.declared.message.CompileResponse.TheVariants.{UnhandledCompile, UnsupportedCompiler}
use Rattle.sc_entry.specs.declared.get_path_result.GetPathResult.TheVariants.{Found as PathFound, Miss as PathMiss, Unsupported as PathUnsupported}
use Rattle.sc_model.specs.declared.message.Request.{Request}
use Rattle.sc_model.specs.declared.message.Request.TheVariants.{Compile, DistStatus, GetStats, RecordStats, Shutdown, StorageGetPath as GetPath, StorageGetPreprocessorEntry as GetPre, StorageGetRaw as GetRaw, StorageHandshake as Handshake, StoragePutPreprocessorEntry as PutPre, StoragePutRaw as PutRaw, ZeroStats}
use Rattle.sc_model.specs.declared.message.Response.TheVariants.{Compile as Answered, DistStatus as DistTold, RecordStats as Recorded, StorageGetPath as PathReply, StorageGetPreprocessorEntry as PreReply, StorageGetRaw as RawReply, StorageHandshake as Shaken, StoragePutPreprocessorEntry as PrePutReply, StoragePutRaw as PutReply, ZeroStats as Zeroed}
use Rattle.sc_model.specs.declared.phase.Bytes.{Bytes}
use Rattle.sc_model.specs.declared.phase.Ending.{Ending}
use Rattle.sc_model.specs.declared.phase.Job.{Job}
use Rattle.sc_model.specs.declared.phase.Phase.{Phase}
use Rattle.sc_model.specs.declared.phase.Phase.TheVariants.{AtAsk, AtBegin, AtCommit, AtDist, AtEnd, AtEnded, AtFill, AtFinish, AtKey, AtOver, AtPlace, AtRun, AtSend, AtStarted, AtStore, AtTake, AtWrite, PathAsk, PreAsk, PrePut, RawAsk, SizeAsk}
use Rattle.sc_model.specs.declared.phase.Refusal.{Refusal}
use Rattle.sc_model.specs.declared.phase.Refusal.TheVariants.{NoneYet}
use Rattle.sc_model.specs.declared.phase.Sized.{Sized}
use Rattle.sc_model.specs.declared.phase.Work.{Work}
use Rattle.sc_stats.specs.declared.counters.ServerStats.{ServerStats}
use Rattle.sc_model.specs.DueAt.{due_at}

-- the phase after an answer: a lookup's next level, or what comes after the last
abbrev pub phase_next : Setup → ℕ → Phase → Phase → Phase
phase_next s l next last = if nat_lt l (length s.levels) then next else last

abbrev pub begin_compile_phase : Parsed → Phase
begin_compile_phase (Started task) = AtStarted task
begin_compile_phase NotCompile = AtSend (Answered UnhandledCompile)
begin_compile_phase (CannotCache why extra) = AtSend (Answered UnhandledCompile)
begin_compile_phase (Unsupported text) = AtSend (Answered (UnsupportedCompiler text))

abbrev pub begin_pre_phase : Setup → Bool → Request → Phase
begin_pre_phase s true r = PrePut (put_bytes r) (pre_plan s.policy s.levels) NoneYet
begin_pre_phase s false r = AtSend (PrePutReply (Err (codes "bad preprocessor entry")))

abbrev pub begin_phase : Setup → Request → Told → Phase
begin_phase s (Compile c) (TellsCompile p) = begin_compile_phase p
begin_phase s (GetRaw k) _ = phase_next s 0 (RawAsk 0 k) (AtSend (RawReply None))
begin_phase s (PutRaw k b) _ = AtWrite (put_bytes (PutRaw k b)) (plan s.policy s.levels) NoneYet None
begin_phase s (GetPath k) _ = if is_disk_alone s.policy s.levels then PathAsk k else AtSend (PathReply PathUnsupported)
begin_phase s (GetPre k) _ = phase_next s 0 (PreAsk 0 k) (AtSend (PreReply (Ok None)))
begin_phase s (PutPre k b) (TellsValid v) = begin_pre_phase s v (PutPre k b)
begin_phase s GetStats (TellsStats stats) = phase_next s 0 (SizeAsk 0 stats []) (AtSend (stats_reply GetStats (server_info s stats [])))
begin_phase s Shutdown (TellsStats stats) = phase_next s 0 (SizeAsk 0 stats []) (AtSend (stats_reply Shutdown (server_info s stats [])))
begin_phase s DistStatus (TellsDist info) = AtSend (DistTold info)
begin_phase s Handshake (TellsHandshake info) = AtSend (Shaken info)
begin_phase s ZeroStats TellsNothing = AtSend Zeroed
begin_phase s (RecordStats stats) TellsNothing = AtSend Recorded
begin_phase s _ _ = AtOver

-- a job goes on to its run; m: the moment of its last event
abbrev pub work_of : Job → MissType → ℕ → Work
work_of job miss m = record { job = job; miss = miss; dist = NoDist; from = m }

abbrev pub work_phase : Job → MissType → ℕ → Phase
work_phase job miss m = if job.client then AtDist (work_of job miss m) else AtTake (work_of job miss m)

abbrev pub missed_phase : Job → MissType → ℕ → Phase
missed_phase job miss m = if not job.found.locally_preprocessed && job.client then AtKey job.task false else work_phase job miss m

abbrev pub control_phase : Setup → Control → Job → ℕ → Phase
control_phase s Default job m = phase_next s 0 (AtAsk job 0) (missed_phase job Normal m)
control_phase s c job m = work_phase job (forced c) m

abbrev pub ending_of : List (List ℕ) → CompileFinished → Ending
ending_of ns last = record { notes = ns; last = last }

abbrev pub key_phase : Setup → Request → Task → ℕ → Bool → Bool → KeyStep → Phase
key_phase s r task m first client (Key found) = control_phase s (control r first) (record { task = task; found = found; at = m; client = client; first = first }) m
key_phase s r task m first client (KeyError out) = AtEnd KeyStepError task (ending_of [] (finish_output s r out))
key_phase s r task m first client (KeyFault chain) = AtEnd FatalFault task (ending_of [] (finish_fatal s r chain))

-- the miss that a lookup's last answer makes
abbrev pub asked_miss : Setup → Job → ℕ → Answer → MissType
asked_miss s job m a = if_late (is_late job m) (by_answer s.policy a)

abbrev pub whole_phase : Setup → Job → ℕ → ℕ → Answer → Phase
whole_phase s job m l (Hit b mark) = if is_late job m then missed_phase job (asked_miss s job m (Hit b mark)) m else AtPlace job b (m - job.at)
whole_phase s job m l a = phase_next s (suc l) (AtAsk job (suc l)) (missed_phase job (asked_miss s job m a) m)

abbrev pub raw_phase : Setup → ℕ → List ℕ → Answer → Phase
raw_phase s l k (Hit b mark) = AtSend (RawReply (Some b))
raw_phase s l k _ = phase_next s (suc l) (RawAsk (suc l) k) (AtSend (RawReply None))

abbrev pub path_phase : Answer → Phase
path_phase (FoundAt p) = AtSend (PathReply (PathFound p))
path_phase _ = AtSend (PathReply PathMiss)

abbrev pub pre_phase : Setup → ℕ → List ℕ → Answer → Phase
pre_phase s l k (Hit b mark) = AtSend (PreReply (Ok (Some b)))
pre_phase s l k (Refused c) = AtSend (PreReply (Err (cause_text c)))
pre_phase s l k _ = phase_next s (suc l) (PreAsk (suc l) k) (AtSend (PreReply (Ok None)))

abbrev pub size_phase : Setup → Request → ServerStats → List Sized → ℕ → Phase
size_phase s r stats zs l = phase_next s (suc l) (SizeAsk (suc l) stats zs) (AtSend (stats_reply r (server_info s stats zs)))

abbrev pub placed_phase : Setup → Request → Job → List ℕ → ℕ → ℕ → Placing → Phase
placed_phase s r job b d m PlaceDone = AtEnd (CacheHit d) job.task (ending_of [] (finish_hit s r b))
placed_phase s r job b d m (Missing name) = missed_phase job CacheReadError m
placed_phase s r job b d m (PlaceFault chain) = AtEnd FatalFault job.task (ending_of [] (finish_fatal s r chain))

-- after a run: to be stored, or just told
abbrev pub judged_phase : Judged → Verdict → Task → Bytes → Ending → Phase
judged_phase (IsStored os) v task b ending = AtStore v task b ending
judged_phase _ v task b ending = AtEnd v task ending

abbrev pub ran_phase : Setup → Request → Work → ℕ → RunAnswer → Phase
ran_phase s r work m (RanOutput out) =
    judged_phase (judge work.job work.miss out) (run_verdict work.job work.miss work.dist (m - work.from) (RanOutput out)) work.job.task
    (run_bytes s work.job true out) (ending_of (run_notes s r work.job.task (RanOutput out)) (finish_run s r work.job work.miss (RanOutput out)))
ran_phase s r work m a = AtEnd (run_verdict work.job work.miss work.dist (m - work.from) a) work.job.task (ending_of (run_notes s r work.job.task a) (finish_run s r work.job work.miss a))

abbrev pub dist_phase : Setup → Request → Work → ℕ → DistAnswer → Phase
dist_phase s r work m (DistDone server out) =
    judged_phase (judge work.job work.miss out) (dist_verdict work.job work.miss (m - work.from) (DistDone server out)) work.job.task
    (run_bytes s work.job false out) (ending_of [] (finish_dist s r work.job work.miss (DistDone server out)))
dist_phase s r work m (DistOther text) = AtTake (record work { dist = DistError })
dist_phase s r work m d = AtEnd (dist_verdict work.job work.miss (m - work.from) d) work.job.task (ending_of [] (finish_dist s r work.job work.miss d))

abbrev pub ended_phase : Ending → Phase
ended_phase ending = AtFinish ending.notes ending.last

abbrev pub next_writes : Bytes → Refusal → List ℕ → Option Ending → Phase
next_writes b f ls ending = AtWrite b (goes_on f ls) f ending

abbrev pub noted : Written → Refusal → ℕ → Refusal
noted WriteDone f l = f
noted (WriteRefused c) f l = note f l c

abbrev pub reserved_phase : Bytes → ℕ → List ℕ → Refusal → Option Ending → Written → Phase
reserved_phase b l ls f ending WriteDone = AtFill b l ls f ending
reserved_phase b l ls f ending (WriteRefused c) = next_writes b (note f l c) ls ending

abbrev pub filled_phase : Bytes → ℕ → List ℕ → Refusal → Option Ending → Written → Phase
filled_phase b l ls f ending WriteDone = AtCommit b l ls f ending
filled_phase b l ls f ending (WriteRefused c) = next_writes b (note f l c) ls ending

abbrev pub end_write_phase : Option Ending → Put → Phase
end_write_phase None put = AtSend (PutReply (put_result put))
end_write_phase (Some ending) put = ended_phase ending

abbrev pub stopped : Due → Phase
stopped (ToSend f) = AtEnded (f ∷ [])
stopped (ToFinish ns last) = AtEnded (notes_then ns last)
stopped _ = AtOver

-- the phase after an event of this moment
abbrev pub after : Setup → Request → Phase → ℕ → What → Phase
after s r AtBegin m (Began q told) = begin_phase s r told
after s r (AtSend f) m (Sent g) = AtOver
after s r (AtStarted task) m (Sent g) = AtKey task true
after s r (AtKey task again) m (Keyed first client step) = key_phase s r task m first client step
after s r (AtAsk job l) m (Asked j k mode a hs) = whole_phase s job m l a
after s r (AtPlace job b d) m (Placed p) = placed_phase s r job b d m p
after s r (AtDist work) m (Dist d) = dist_phase s r work m d
after s r (AtTake work) m TokenTaken = AtRun work
after s r (AtRun work) m (Ran a) = ran_phase s r work m a
after s r (AtEnd v task ending) m (Outcome w t) = ended_phase ending
after s r (AtStore v task b ending) m (Outcome w t) = AtWrite b (plan s.policy s.levels) NoneYet (Some ending)
after s r (AtWrite b (l ∷ ls) f ending) m (Reserved j k n w) = reserved_phase b l ls f ending w
after s r (AtWrite b (l ∷ ls) f ending) m (Wrote j k d mode mark w) = next_writes b (noted w f l) ls ending
after s r (AtWrite b [] f ending) m (WriteEnded put hs) = end_write_phase ending put
after s r (AtFill b l ls f ending) m (Filled j k d mark w) = filled_phase b l ls f ending w
after s r (AtCommit b l ls f ending) m (Committed j k d w) = next_writes b (noted w f l) ls ending
after s r (AtFinish [] last) m (Sent g) = AtOver
after s r (AtFinish (n ∷ ns) last) m (Sent g) = AtFinish ns last
after s r (RawAsk l k) m (Asked j i mode a hs) = raw_phase s l k a
after s r (PathAsk k) m (Asked j i mode a hs) = path_phase a
after s r (PreAsk l k) m (Asked j i mode a hs) = pre_phase s l k a
after s r (PrePut b (l ∷ ls) f) m (Wrote j k d mode mark w) = PrePut b ls (noted w f l)
after s r (PrePut b [] f) m (Sent g) = AtOver
after s r (SizeAsk l stats zs) m (Asked j k mode a hs) = size_phase s r stats (with_size zs a) l
after s r p m (TooLong n) = stopped (due_at s r p)
after s r p m x = p
