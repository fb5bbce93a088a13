-- One request: what the code keeps is what its events tell.
use Rattle.std.proofs.Common.{◌≡◌, ℕ, suc, ◌-◌, Bool, true, false, cond, ◌&&◌, List, [], ◌∷◌, length, drop, Option, Some, None, refl, ap, ◌∙◌, not, nat_lt, Ok}
use Rattle.sc_model.specs.Afterwards.{after_began, after_control, after_dist, after_key, after_path, after_placed, after_pre, after_raw, after_sent, after_size, after_whole, dist_verdict, missed, start_work}
use Rattle.sc_model.specs.Describing.{server_info, stats_reply}
use Rattle.sc_model.specs.Dues.{Due, Over, ToAsk, ToEnd, ToKey, ToPlace, ToSend, ask_next, is_disk_alone, left, left_pre}
use Rattle.sc_model.specs.Headline.{Carries, HasHit, IsStorable, Stores, asks_store}
use Rattle.sc_model.specs.Finishing.{finish, notes_of}
use Rattle.sc_model.specs.Job.{Own, asked_at, bytes_of, dist_of, entry_mark, fills_of, hit_of, is_late, job_of, miss_of, over, refused, sized, stats_of, task_of, work_from}
use Rattle.sc_model.specs.Judging.{IsStored, Judged, judge, run_verdict}
use Rattle.sc_model.specs.DueAt.{due_at}
use Rattle.sc_model.specs.Phases.{asked_miss, begin_phase, control_phase, dist_phase, judged_phase, key_phase, missed_phase, path_phase, phase_next, placed_phase, pre_phase, ran_phase, raw_phase, size_phase, whole_phase, work_of, work_phase}
use Rattle.sc_model.specs.Origin.{PutBy}
use Rattle.sc_model.specs.Plan.{plan}
use Rattle.sc_model.specs.Script.{Control, Default, ForceNoCache, ForceRecache, Setup, control, counted_task}
use Rattle.sc_model.specs.declared.event.Answer.{Answer}
use Rattle.sc_model.specs.declared.event.Answer.TheVariants.{Found as FoundAt, Hit, Miss, Refused, Size as SizeIs}
use Rattle.sc_model.specs.declared.event.DistAnswer.{DistAnswer}
use Rattle.sc_model.specs.declared.event.DistAnswer.TheVariants.{Done as DistDone, Http as DistHttp, Other as DistOther, TooLarge as DistTooLarge}
use Rattle.sc_model.specs.declared.event.KeyStep.{KeyStep}
use Rattle.sc_model.specs.declared.event.KeyStep.TheVariants.{Fault as KeyFault, Key, ProcessError as KeyError}
use Rattle.sc_model.specs.declared.event.MissType.{MissType}
use Rattle.sc_model.specs.declared.event.MissType.TheVariants.{CacheReadError, ForcedNoCache, ForcedRecache, Normal}
use Rattle.sc_model.specs.declared.event.Mode.{Mode}
use Rattle.sc_model.specs.declared.event.Mode.TheVariants.{Pre, Raw, Size as Sizes, Whole}
use Rattle.sc_model.specs.declared.event.Parsed.TheVariants.{CannotCache, NotCompile, Started, Unsupported}
use Rattle.sc_model.specs.declared.event.Placing.{Placing}
use Rattle.sc_model.specs.declared.event.Placing.TheVariants.{Done as PlaceDone, Fault as PlaceFault, Missing}
use Rattle.sc_model.specs.declared.event.RunAnswer.{RunAnswer}
use Rattle.sc_model.specs.declared.event.RunAnswer.TheVariants.{Fault as RanFault, Output as RanOutput, ProcessError as RanError}
use Rattle.sc_model.specs.declared.event.Task.{Task}
use Rattle.sc_model.specs.declared.event.Told.{Told}
use Rattle.sc_model.specs.declared.event.Told.TheVariants.{Compile as TellsCompile, Dist as TellsDist, Handshake as TellsHandshake, Nothing as TellsNothing, Stats as TellsStats, Valid as TellsValid}
use Rattle.sc_model.specs.declared.event.Verdict.{Verdict}
use Rattle.sc_model.specs.declared.event.Verdict.TheVariants.{CacheHit, CacheMiss, Error as KeyStepError, Fault as FatalFault, Http as HttpError}
use Rattle.sc_model.specs.declared.message.CompileFinished.{CompileFinished}
use Rattle.sc_model.specs.declared.message.CompileResponse.TheVariants.{CompileStarted, UnhandledCompile, UnsupportedCompiler}
use Rattle.sc_entry.specs.declared.get_path_result.GetPathResult.TheVariants.{Unsupported as PathUnsupported}
use Rattle.sc_model.specs.declared.message.Request.{Request}
use Rattle.sc_model.specs.declared.message.Request.TheVariants.{Compile, DistStatus, GetStats, RecordStats, Shutdown, StorageGetPath as GetPath, StorageGetPreprocessorEntry as GetPre, StorageGetRaw as GetRaw, StorageHandshake as Handshake, StoragePutPreprocessorEntry as PutPre, StoragePutRaw as PutRaw, ZeroStats}
use Rattle.sc_model.specs.declared.message.Response.{Response}
use Rattle.sc_model.specs.declared.message.Response.TheVariants.{ArtifactNotification as Note, Compile as Answered, CompileFinished as Finished, StorageGetPath as PathReply, StorageGetPreprocessorEntry as PreReply, StorageGetRaw as RawReply}
use Rattle.sc_model.specs.declared.phase.Bytes.{Bytes}
use Rattle.sc_model.specs.declared.phase.Ending.{Ending}
use Rattle.sc_model.specs.declared.phase.Job.{Job}
use Rattle.sc_model.specs.declared.phase.Phase.{Phase}
use Rattle.sc_model.specs.declared.phase.Phase.TheVariants.{AtAsk, AtBegin, AtCommit, AtDist, AtEnd, AtEnded, AtFill, AtFinish, AtKey, AtOver, AtPlace, AtRun, AtSend, AtStarted, AtStore, AtTake, AtWrite, PathAsk, PreAsk, PrePut, RawAsk, SizeAsk}
use Rattle.sc_model.specs.declared.phase.Sized.{Sized}
use Rattle.sc_model.specs.declared.phase.Work.{Work}
use Rattle.sc_stats.specs.declared.counters.ServerStats.{ServerStats}

abbrev pub IsCompile : Request → Type 0
IsCompile (Compile c) = Unit {0}
IsCompile _ = ⊥

abbrev pub IsPutRaw : Request → Type 0
IsPutRaw (PutRaw k b) = Unit {0}
IsPutRaw _ = ⊥

abbrev pub IsMiss : Verdict → Type 0
IsMiss (CacheMiss miss dist d) = Unit {0}
IsMiss _ = ⊥

abbrev pub NotMiss : Verdict → Type 0
NotMiss (CacheMiss miss dist d) = ⊥
NotMiss _ = Unit {0}

pub record HasJob (r : Request) (own : List Own) (job : Job) : Type 0 where
  pub compile : IsCompile r
  pub job_is : job_of own ≡ job
  pub task_is : task_of own ≡ job.task

pub record HasWork (s : Setup) (r : Request) (own : List Own) (w : Work) : Type 0 where
  pub has : HasJob r own w.job
  pub miss_is : miss_of s r own ≡ w.miss
  pub from_is : work_from own ≡ w.from
  pub dist_is : dist_of own ≡ w.dist
  -- a miss that came of the control
  pub forced : w.miss ≡ ForcedNoCache → asks_store (control r w.job.first) ≡ false

pub record Ends (s : Setup) (r : Request) (own : List Own) (ending : Ending) : Type 0 where
  pub compile : IsCompile r
  pub last_is : finish s r own ≡ ending.last
  pub notes_are : notes_of s r own ≡ ending.notes
  pub carries : Carries s r ending.last own

pub record EndsIn (s : Setup) (r : Request) (own : List Own) (last : CompileFinished) : Type 0 where
  pub compile : IsCompile r
  pub last_is : finish s r own ≡ last
  pub carries : Carries s r last own
  pub stores : Stores s r own

abbrev pub EndsBy : Setup → Request → List Own → Option Ending → Type 0
EndsBy s r own None = IsPutRaw r
EndsBy s r own (Some ending) = Ends s r own ending

-- a reply that ends its request, and is no compile's last
abbrev pub IsPlain : Response → Type 0
IsPlain (Answered CompileStarted) = ⊥
IsPlain (Finished f) = ⊥
IsPlain (Note line) = ⊥
IsPlain _ = Unit {0}

pub plain_over : (f : Response) → IsPlain f → after_sent f ≡ Over
plain_over (Answered CompileStarted) h = absurd h
plain_over (Answered UnhandledCompile) h = refl
plain_over (Answered (UnsupportedCompiler text)) h = refl
plain_over _ h = refl

-- what a phase keeps is what the events tell
abbrev pub Keeps : Setup → Request → List Own → Phase → Type 0
Keeps s r own AtBegin = own ≡ []
Keeps s r own (AtSend f) = IsPlain f
Keeps s r own (AtStarted task) = IsCompile r × (task_of own ≡ task)
Keeps s r own (AtKey task again) = IsCompile r × (task_of own ≡ task)
Keeps s r own (AtAsk job l) = HasJob r own job
Keeps s r own (AtPlace job b d) = HasJob r own job × (hit_of own ≡ b) × (asked_at own - (job_of own).at ≡ d) × HasHit job.found.key b own
Keeps s r own (AtDist work) = HasWork s r own work
Keeps s r own (AtTake work) = HasWork s r own work
Keeps s r own (AtRun work) = HasWork s r own work
Keeps s r own (AtEnd v task ending) = NotMiss v × Ends s r own ending × (IsStorable r own → ⊥)
Keeps s r own (AtStore v task b ending) = IsMiss v × Ends s r own ending × (bytes_of s r own ≡ b) × PutBy s r own b.key b.bytes
Keeps s r own (AtWrite b ls f ending) = (left s own ≡ ls) × (refused own ≡ f) × (bytes_of s r own ≡ b) × PutBy s r own b.key b.bytes × EndsBy s r own ending
Keeps s r own (AtFill b l ls f ending) = (drop (over own) (plan s.policy s.levels) ≡ l ∷ ls) × (refused own ≡ f) × (bytes_of s r own ≡ b) × PutBy s r own b.key b.bytes × EndsBy s r own ending × (fills_of own ≡ None)
Keeps s r own (AtCommit b l ls f ending) = (drop (over own) (plan s.policy s.levels) ≡ l ∷ ls) × (refused own ≡ f) × (bytes_of s r own ≡ b) × PutBy s r own b.key b.bytes × EndsBy s r own ending × (entry_mark own ≡ b.run)
Keeps s r own (AtFinish ns last) = EndsIn s r own last
Keeps s r own (RawAsk l k) = Unit {0}
Keeps s r own (PathAsk k) = Unit {0}
Keeps s r own (PreAsk l k) = Unit {0}
Keeps s r own (PrePut b ls f) = (left_pre s own ≡ ls) × (refused own ≡ f) × (bytes_of s r own ≡ b)
Keeps s r own (SizeAsk l stats zs) = (stats_of own ≡ stats) × (sized own ≡ zs)
Keeps s r own (AtEnded left) = Unit {0}
Keeps s r own AtOver = Unit {0}

-- choices
pub due_cond : (s : Setup) (r : Request) (b : Bool) (p q : Phase) → cond b (due_at s r p) (due_at s r q) ≡ due_at s r (cond b p q)
due_cond s r true p q = refl
due_cond s r false p q = refl

pub keeps_cond : (s : Setup) (r : Request) (own : List Own) (b : Bool) (p q : Phase) → Keeps s r own p → Keeps s r own q → Keeps s r own (cond b p q)
keeps_cond s r own true p q x y = x
keeps_cond s r own false p q x y = y

choose : (b : Bool) (x : Due) (y z : Due) → y ≡ z → cond b x y ≡ cond b x z
choose b x y z e = ap (λ v. cond b x v) e

choose_first : (b : Bool) (x y z : Due) → x ≡ y → cond b x z ≡ cond b y z
choose_first b x y z e = ap (λ v. cond b v z) e

module _ (s : Setup) where
  pub work_due : (r : Request) (job : Job) (miss : MissType) (m : ℕ) → start_work job ≡ due_at s r (work_phase job miss m)
  work_due r job miss m = due_cond s r job.client (AtDist (work_of job miss m)) (AtTake (work_of job miss m))

  pub missed_due : (r : Request) (job : Job) (miss : MissType) (m : ℕ) → missed job ≡ due_at s r (missed_phase job miss m)
  missed_due r job miss m =
      let b = not job.found.locally_preprocessed && job.client in
      choose b (ToKey false) (start_work job) (due_at s r (work_phase job miss m)) (work_due r job miss m) ∙ due_cond s r b (AtKey job.task false) (work_phase job miss m)

  pub next_due : (r : Request) (mode : Mode) (l : ℕ) (k : List ℕ) (last : Due) (p q : Phase) → ToAsk mode l k ≡ due_at s r p → last ≡ due_at s r q → ask_next s mode l k last ≡ due_at s r (phase_next s l p q)
  next_due r mode l k last p q e f =
      let b = nat_lt l (length s.levels) in
      choose b (ToAsk mode l k) last (due_at s r q) f ∙ choose_first b (ToAsk mode l k) (due_at s r p) (due_at s r q) e ∙ due_cond s r b p q

  pub control_due : (r : Request) (c : Control) (job : Job) (m : ℕ) → after_control s c job ≡ due_at s r (control_phase s c job m)
  control_due r Default job m = next_due r Whole 0 job.found.key (missed job) (AtAsk job 0) (missed_phase job Normal m) refl (missed_due r job Normal m)
  control_due r ForceNoCache job m = work_due r job ForcedNoCache m
  control_due r ForceRecache job m = work_due r job ForcedRecache m

  pub whole_due : (r : Request) (job : Job) (m l : ℕ) (a : Answer) → after_whole s job m l a ≡ due_at s r (whole_phase s job m l a)
  whole_due r job m l (Hit b mark) =
      let late = is_late job m in
      let miss = asked_miss s job m (Hit b mark) in
      choose_first late (missed job) (due_at s r (missed_phase job miss m)) ToPlace (missed_due r job miss m) ∙ due_cond s r late (missed_phase job miss m) (AtPlace job b (m - job.at))
  whole_due r job m l Miss = next_due r Whole (suc l) job.found.key (missed job) (AtAsk job (suc l)) (missed_phase job (asked_miss s job m Miss) m) refl (missed_due r job (asked_miss s job m Miss) m)
  whole_due r job m l (Refused c) = next_due r Whole (suc l) job.found.key (missed job) (AtAsk job (suc l)) (missed_phase job (asked_miss s job m (Refused c)) m) refl (missed_due r job (asked_miss s job m (Refused c)) m)
  whole_due r job m l (FoundAt p) = next_due r Whole (suc l) job.found.key (missed job) (AtAsk job (suc l)) (missed_phase job (asked_miss s job m (FoundAt p)) m) refl (missed_due r job (asked_miss s job m (FoundAt p)) m)
  whole_due r job m l (SizeIs n c) = next_due r Whole (suc l) job.found.key (missed job) (AtAsk job (suc l)) (missed_phase job (asked_miss s job m (SizeIs n c)) m) refl (missed_due r job (asked_miss s job m (SizeIs n c)) m)

  pub raw_due : (r : Request) (l : ℕ) (k : List ℕ) (a : Answer) → after_raw s l k a ≡ due_at s r (raw_phase s l k a)
  raw_due r l k (Hit b mark) = refl
  raw_due r l k _ = next_due r Raw (suc l) k (ToSend (RawReply None)) (RawAsk (suc l) k) (AtSend (RawReply None)) refl refl

  pub path_due : (r : Request) (a : Answer) → after_path a ≡ due_at s r (path_phase a)
  path_due r (FoundAt p) = refl
  path_due r _ = refl

  pub pre_due : (r : Request) (l : ℕ) (k : List ℕ) (a : Answer) → after_pre s l k a ≡ due_at s r (pre_phase s l k a)
  pre_due r l k (Hit b mark) = refl
  pre_due r l k (Refused c) = refl
  pre_due r l k _ = next_due r Pre (suc l) k (ToSend (PreReply (Ok None))) (PreAsk (suc l) k) (AtSend (PreReply (Ok None))) refl refl

  pub size_due : (r : Request) (stats : ServerStats) (zs : List Sized) (l : ℕ) → after_size s r stats zs l [] ≡ due_at s r (size_phase s r stats zs l)
  size_due r stats zs l = next_due r Sizes (suc l) [] (ToSend (stats_reply r (server_info s stats zs))) (SizeAsk (suc l) stats zs) (AtSend (stats_reply r (server_info s stats zs))) refl refl

  pub begin_due : (r : Request) (told : Told) → after_began s r told ≡ due_at s r (begin_phase s r told)
  begin_due (Compile c) (TellsCompile (Started task)) = refl
  begin_due (Compile c) (TellsCompile NotCompile) = refl
  begin_due (Compile c) (TellsCompile (CannotCache why extra)) = refl
  begin_due (Compile c) (TellsCompile (Unsupported text)) = refl
  begin_due (GetRaw k) told = next_due (GetRaw k) Raw 0 k (ToSend (RawReply None)) (RawAsk 0 k) (AtSend (RawReply None)) refl refl
  begin_due (PutRaw k b) told = refl
  begin_due (GetPath k) told = due_cond s (GetPath k) (is_disk_alone s.policy s.levels) (PathAsk k) (AtSend (PathReply PathUnsupported))
  begin_due (GetPre k) told = next_due (GetPre k) Pre 0 k (ToSend (PreReply (Ok None))) (PreAsk 0 k) (AtSend (PreReply (Ok None))) refl refl
  begin_due (PutPre k b) (TellsValid true) = refl
  begin_due (PutPre k b) (TellsValid false) = refl
  begin_due GetStats (TellsStats stats) = next_due GetStats Sizes 0 [] (ToSend (stats_reply GetStats (server_info s stats []))) (SizeAsk 0 stats []) (AtSend (stats_reply GetStats (server_info s stats []))) refl refl
  begin_due Shutdown (TellsStats stats) = next_due Shutdown Sizes 0 [] (ToSend (stats_reply Shutdown (server_info s stats []))) (SizeAsk 0 stats []) (AtSend (stats_reply Shutdown (server_info s stats []))) refl refl
  begin_due DistStatus (TellsDist info) = refl
  begin_due Handshake (TellsHandshake info) = refl
  begin_due ZeroStats TellsNothing = refl
  begin_due (RecordStats stats) TellsNothing = refl
  begin_due _ _ = refl

  pub key_due : (r : Request) (own : List Own) (task : Task) (m : ℕ) (first client : Bool) (step : KeyStep) → task_of own ≡ task → after_key s r own m first client step ≡ due_at s r (key_phase s r task m first client step)
  key_due r own task m first client (Key found) e =
      ap (λ (v : Task). after_control s (control r first) (record { task = v; found = found; at = m; client = client; first = first })) e
      ∙ control_due r (control r first) (record { task = task; found = found; at = m; client = client; first = first }) m
  key_due r own task m first client (KeyError out) e = ap (λ v. ToEnd KeyStepError (counted_task r v)) e
  key_due r own task m first client (KeyFault chain) e = ap (λ v. ToEnd FatalFault (counted_task r v)) e

  pub placed_due : (r : Request) (own : List Own) (job : Job) (b : List ℕ) (d m : ℕ) (p : Placing) → HasJob r own job → asked_at own - (job_of own).at ≡ d → after_placed r own p ≡ due_at s r (placed_phase s r job b d m p)
  placed_due r own job b d m PlaceDone h e = ap (λ v. ToEnd (CacheHit v) (counted_task r (task_of own))) e ∙ ap (λ v. ToEnd (CacheHit d) (counted_task r v)) h.task_is
  placed_due r own job b d m (Missing name) h e = ap missed h.job_is ∙ missed_due r job CacheReadError m
  placed_due r own job b d m (PlaceFault chain) h e = ap (λ v. ToEnd FatalFault (counted_task r v)) h.task_is

  pub judged_due : (r : Request) (j : Judged) (v : Verdict) (task : Task) (b : Bytes) (ending : Ending) → ToEnd v (counted_task r task) ≡ due_at s r (judged_phase j v task b ending)
  judged_due r (IsStored os) v task b ending = refl
  judged_due r _ v task b ending = refl

  run_same : (r : Request) (own : List Own) (work : Work) (m : ℕ) (a : RunAnswer) → HasWork s r own work → run_verdict (job_of own) (miss_of s r own) (dist_of own) (m - work_from own) a ≡ run_verdict work.job work.miss work.dist (m - work.from) a
  run_same r own work m a h =
      ap (λ v. run_verdict v (miss_of s r own) (dist_of own) (m - work_from own) a) h.has.job_is ∙ ap (λ v. run_verdict work.job v (dist_of own) (m - work_from own) a) h.miss_is
      ∙ ap (λ v. run_verdict work.job work.miss v (m - work_from own) a) h.dist_is ∙ ap (λ v. run_verdict work.job work.miss work.dist (m - v) a) h.from_is

  pub ran_due : (r : Request) (own : List Own) (work : Work) (m : ℕ) (a : RunAnswer) → HasWork s r own work → ToEnd (run_verdict (job_of own) (miss_of s r own) (dist_of own) (m - work_from own) a) (counted_task r (task_of own)) ≡ due_at s r (ran_phase s r work m a)
  ran_due r own work m a h =
      ap (λ v. ToEnd v (counted_task r (task_of own))) (run_same r own work m a h) ∙ ap (λ v. ToEnd (run_verdict work.job work.miss work.dist (m - work.from) a) (counted_task r v)) h.has.task_is ∙ last a
    where
      last : (a : RunAnswer) → ToEnd (run_verdict work.job work.miss work.dist (m - work.from) a) (counted_task r work.job.task) ≡ due_at s r (ran_phase s r work m a)
      last (RanOutput out) = judged_due r (judge work.job work.miss out) _ work.job.task _ _
      last (RanError out) = refl
      last (RanFault chain) = refl

  dist_same : (r : Request) (own : List Own) (work : Work) (m : ℕ) (d : DistAnswer) → HasWork s r own work → dist_verdict (job_of own) (miss_of s r own) (m - work_from own) d ≡ dist_verdict work.job work.miss (m - work.from) d
  dist_same r own work m d h =
      ap (λ v. dist_verdict v (miss_of s r own) (m - work_from own) d) h.has.job_is ∙ ap (λ v. dist_verdict work.job v (m - work_from own) d) h.miss_is ∙ ap (λ v. dist_verdict work.job work.miss (m - v) d) h.from_is

  pub dist_due : (r : Request) (own : List Own) (work : Work) (m : ℕ) (d : DistAnswer) → HasWork s r own work → after_dist s r own m d ≡ due_at s r (dist_phase s r work m d)
  dist_due r own work m (DistDone server out) h =
      ap (λ v. ToEnd v (counted_task r (task_of own))) (dist_same r own work m (DistDone server out) h) ∙ ap (λ v. ToEnd (dist_verdict work.job work.miss (m - work.from) (DistDone server out)) (counted_task r v)) h.has.task_is
      ∙ judged_due r (judge work.job work.miss out) _ work.job.task _ _
  dist_due r own work m (DistHttp text) h = ap (λ v. ToEnd HttpError (counted_task r v)) h.has.task_is
  dist_due r own work m (DistTooLarge text) h = ap (λ v. ToEnd FatalFault (counted_task r v)) h.has.task_is
  dist_due r own work m (DistOther text) h = refl
