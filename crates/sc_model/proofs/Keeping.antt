-- One step of a request: the phase keeps what the events tell.
use Rattle.std.proofs.Common.{◌≡◌, ℕ, zero, suc, ◌-◌, ◌⊎◌, ⊎_elim, inl, inr, Bool, true, false, ◌&&◌, List, [], ◌∷◌, length, drop, Option, Some, None, refl, sym, ap, ◌∙◌, subst, not, nat_lt, Ok}
use Rattle.sc_model.proofs.Requests.{Ends, EndsBy, HasJob, HasWork, IsCompile, IsPlain, Keeps, keeps_cond}
use Rattle.sc_model.proofs.Steps.{committed_refused, drop_one, due_step, goes_same, left_next, note_is, reserve_is, start_is, wrote_is, wrote_refused}
use Rattle.sc_model.specs.Afterwards.{with_size}
use Rattle.sc_model.specs.Describing.{server_info, stats_reply}
use Rattle.sc_model.specs.Dues.{is_disk_alone, kind_at, left, left_pre}
use Rattle.sc_model.specs.Follows.{Begins, Fits, Lawful, due}
use Rattle.sc_model.specs.Headline.{Carries, HasHit, IsKept, IsStorable, asks_store}
use Rattle.sc_model.specs.Finishing.{finish, finish_dist, finish_fatal, finish_hit, finish_judged, finish_output, finish_run, notes_of, run_notes}
use Rattle.sc_model.specs.Job.{after_fill, At, Own, by_answer, bytes_of, dist_of, entry_of, forced, hit_of, if_late, is_late, job_of, miss_of, over, refused, run_bytes, sized, stats_of, task_of, work_from}
use Rattle.sc_model.specs.Judging.{IsBroken, IsFailed, IsNotCacheable, IsNotCached, IsStored, Judged, judge, judge_cacheable, judge_status, judged_verdict}
use Rattle.sc_model.specs.DueAt.{due_at}
use Rattle.sc_model.specs.Phases.{after, asked_miss, begin_phase, control_phase, dist_phase, end_write_phase, ending_of, judged_phase, key_phase, missed_phase, noted, path_phase, placed_phase, pre_phase, ran_phase, raw_phase, size_phase, whole_phase, work_of, work_phase}
use Rattle.sc_model.specs.Origin.{HasRun, IsCollected, PutBy}
use Rattle.sc_model.specs.Plan.{note, plan, pre_plan}
use Rattle.sc_model.specs.Script.{Control, Default, ForceNoCache, ForceRecache, Setup, control}
use Rattle.sc_model.specs.declared.event.Answer.{Answer}
use Rattle.sc_model.specs.declared.event.Answer.TheVariants.{Found as FoundAt, Hit, Miss, Refused, Size as SizeIs}
use Rattle.sc_model.specs.declared.event.DistAnswer.{DistAnswer}
use Rattle.sc_model.specs.declared.event.DistAnswer.TheVariants.{Done as DistDone, Http as DistHttp, Other as DistOther, TooLarge as DistTooLarge}
use Rattle.sc_model.specs.declared.event.DistType.{DistType}
use Rattle.sc_model.specs.declared.event.DistType.TheVariants.{NoDist, Ok as DistOk}
use Rattle.sc_model.specs.declared.event.KeyStep.{KeyStep}
use Rattle.sc_model.specs.declared.event.KeyStep.TheVariants.{Fault as KeyFault, Key, ProcessError as KeyError}
use Rattle.sc_model.specs.declared.event.MissType.{MissType}
use Rattle.sc_model.specs.declared.event.MissType.TheVariants.{CacheReadError, ForcedNoCache, ForcedRecache, Normal, TimedOut}
use Rattle.sc_model.specs.declared.event.Mode.{Mode}
use Rattle.sc_model.specs.declared.event.Mode.TheVariants.{Whole}
use Rattle.sc_entry.specs.declared.object.Object.{Object}
use Rattle.sc_model.specs.declared.event.Objects.{Objects}
use Rattle.sc_model.specs.declared.event.Objects.TheVariants.{Broken, Collected}
use Rattle.sc_model.specs.declared.event.Output.{Output}
use Rattle.sc_model.specs.declared.event.Parsed.TheVariants.{CannotCache, NotCompile, Started, Unsupported}
use Rattle.sc_model.specs.declared.event.Placing.{Placing}
use Rattle.sc_model.specs.declared.event.Placing.TheVariants.{Done as PlaceDone, Fault as PlaceFault, Missing}
use Rattle.sc_model.specs.declared.event.RunAnswer.{RunAnswer}
use Rattle.sc_model.specs.declared.event.RunOutput.{RunOutput}
use Rattle.sc_model.specs.declared.event.RunAnswer.TheVariants.{Fault as RanFault, Output as RanOutput, ProcessError as RanError}
use Rattle.sc_model.specs.declared.event.Status.{Status}
use Rattle.sc_model.specs.declared.event.Status.TheVariants.{Code, Neither, Signal}
use Rattle.sc_model.specs.declared.event.Task.{Task}
use Rattle.sc_model.specs.declared.event.Told.{Told}
use Rattle.sc_model.specs.declared.event.Told.TheVariants.{Compile as TellsCompile, Dist as TellsDist, Handshake as TellsHandshake, Nothing as TellsNothing, Stats as TellsStats, Valid as TellsValid}
use Rattle.sc_model.specs.declared.event.What.{What}
use Rattle.sc_model.specs.declared.event.What.TheVariants.{Asked, Began, Committed, Dist, Filled, Keyed, Outcome, Placed, Ran, Reserved, Sent, TokenTaken, TooLong, WriteEnded, Wrote}
use Rattle.sc_model.specs.declared.event.Written.TheVariants.{Done as WriteDone, Refused as WriteRefused}
use Rattle.sc_model.specs.declared.level.Handed.{Handed}
use Rattle.sc_model.specs.declared.level.Policy.{Policy}
use Rattle.sc_model.specs.declared.level.Policy.TheVariants.{Levels, Single}
use Rattle.sc_model.specs.declared.level.Put.{Put}
use Rattle.sc_model.specs.declared.message.CompileFinished.{CompileFinished}
use Rattle.sc_entry.specs.declared.get_path_result.GetPathResult.TheVariants.{Unsupported as PathUnsupported}
use Rattle.sc_model.specs.declared.message.Request.{Request}
use Rattle.sc_model.specs.declared.message.Request.TheVariants.{Compile, DistStatus, GetStats, RecordStats, Shutdown, StorageGetPath as GetPath, StorageGetPreprocessorEntry as GetPre, StorageGetRaw as GetRaw, StorageHandshake as Handshake, StoragePutPreprocessorEntry as PutPre, StoragePutRaw as PutRaw, ZeroStats}
use Rattle.sc_model.specs.declared.message.Response.TheVariants.{StorageGetPath as PathReply, StorageGetPreprocessorEntry as PreReply, StorageGetRaw as RawReply}
use Rattle.sc_model.specs.declared.phase.Bytes.{Bytes}
use Rattle.sc_model.specs.declared.phase.Ending.{Ending}
use Rattle.sc_model.specs.declared.phase.Job.{Job}
use Rattle.sc_model.specs.declared.phase.Phase.{Phase}
use Rattle.sc_model.specs.declared.phase.Phase.TheVariants.{AtAsk, AtBegin, AtCommit, AtDist, AtEnd, AtFill, AtFinish, AtKey, AtPlace, AtRun, AtSend, AtStarted, AtStore, AtTake, AtWrite, PathAsk, PreAsk, PrePut, RawAsk, SizeAsk}
use Rattle.sc_model.specs.declared.phase.Sized.{Sized}
use Rattle.sc_model.specs.declared.phase.Work.{Work}
use Rattle.sc_stats.specs.declared.counters.ServerInfo.{ServerInfo}
use Rattle.sc_stats.specs.declared.counters.ServerStats.{ServerStats}

broken_is : (st : Status) (miss : MissType) (c : Bool) (os : Objects) (chain : List (List ℕ)) → judge_status st miss c os ≡ IsBroken chain → os ≡ Broken chain
broken_is (Code zero) ForcedNoCache c os chain e = (cc)
broken_is (Code zero) _ false os chain e = (cc)
broken_is (Code zero) _ true (Collected xs) chain e = (cc)
broken_is (Code zero) _ true (Broken xs) chain e = (cc)
broken_is (Code (suc n)) miss c os chain e = (cc)
broken_is (Signal n) miss c os chain e = (cc)
broken_is Neither miss c os chain e = (cc)

collected_is : (st : Status) (miss : MissType) (c : Bool) (os : Objects) (xs : List Object) → judge_status st miss c os ≡ IsStored xs → IsCollected os
collected_is st miss c (Collected ys) xs e = tt
collected_is (Code zero) ForcedNoCache c (Broken chain) xs e = (cc)
collected_is (Code zero) _ false (Broken chain) xs e = (cc)
collected_is (Code zero) _ true (Broken chain) xs e = (cc)
collected_is (Code (suc n)) miss c (Broken chain) xs e = (cc)
collected_is (Signal n) miss c (Broken chain) xs e = (cc)
collected_is Neither miss c (Broken chain) xs e = (cc)

-- what is to be stored is judged so
cacheable_stored : (miss : MissType) (c : Bool) (xs : List Object) → c ≡ true → (miss ≡ ForcedNoCache → ⊥) → judge_status (Code 0) miss c (Collected xs) ≡ IsStored xs
cacheable_stored ForcedNoCache c xs e f = absurd (f refl)
cacheable_stored Normal c xs e f = ap (λ v. judge_cacheable v (Collected xs)) e
cacheable_stored ForcedRecache c xs e f = ap (λ v. judge_cacheable v (Collected xs)) e
cacheable_stored TimedOut c xs e f = ap (λ v. judge_cacheable v (Collected xs)) e
cacheable_stored CacheReadError c xs e f = ap (λ v. judge_cacheable v (Collected xs)) e

judged_stored : (st : Status) (miss : MissType) (c : Bool) (os : Objects) → st ≡ Code 0 → c ≡ true → IsCollected os → (miss ≡ ForcedNoCache → ⊥) → (xs : List Object) × (judge_status st miss c os ≡ IsStored xs)
judged_stored st miss c (Collected xs) e f h g = (xs, ap (λ v. judge_status v miss c (Collected xs)) e ∙ cacheable_stored miss c xs f g)
judged_stored st miss c (Broken chain) e f h g = absurd h

-- a lookup makes no miss of the control
late_not : (late : Bool) (miss : MissType) → (miss ≡ ForcedNoCache → ⊥) → if_late late miss ≡ ForcedNoCache → ⊥
late_not true miss h e = (cc)
late_not false miss h e = h e

by_not : (p : Policy) (a : Answer) → by_answer p a ≡ ForcedNoCache → ⊥
by_not Single (Refused c) e = (cc)
by_not Single (Hit b mark) e = (cc)
by_not Single Miss e = (cc)
by_not Single (FoundAt p) e = (cc)
by_not Single (SizeIs n c) e = (cc)
by_not (Levels ps) a e = (cc)

stored_is : (st : Status) (miss : MissType) (c : Bool) (os : Objects) (xs : List Object) → judge_status st miss c os ≡ IsStored xs → st ≡ Code 0
stored_is (Code zero) miss c os xs e = refl
stored_is (Code (suc n)) miss c os xs e = (cc)
stored_is (Signal n) miss c os xs e = (cc)
stored_is Neither miss c os xs e = (cc)

stats_over : (r : Request) (info : ServerInfo) → IsPlain (stats_reply r info)
stats_over GetStats info = tt
stats_over _ info = tt

sized_is : (own : List Own) (m j : ℕ) (k : List ℕ) (mode : Mode) (a : Answer) (hs : List Handed) → sized (At m (Asked j k mode a hs) ∷ own) ≡ with_size (sized own) a
sized_is own m j k mode (SizeIs n c) hs = refl
sized_is own m j k mode _ hs = refl

module _ (s : Setup) where
  put_compile : (r : Request) (own : List Own) (k b : List ℕ) → IsCompile r → (job_of own).found.key ≡ k → HasRun s b own → PutBy s r own k b
  put_compile (Compile c) own k b h e i = (e, i)
  put_compile _ own k b h e i = absurd h

  put_same : (r : Request) (own own2 : List Own) (k b : List ℕ) → job_of own2 ≡ job_of own → (HasRun s b own → HasRun s b own2) → PutBy s r own k b → PutBy s r own2 k b
  put_same (Compile c) own own2 k b e i h = (ap (λ v. v.found.key) e ∙ h.0, i h.1)
  put_same (PutRaw key bytes) own own2 k b e i h = h
  put_same _ own own2 k b e i h = h

  ends_same : (r : Request) (own own2 : List Own) (ending : Option Ending) → finish s r own2 ≡ finish s r own → notes_of s r own2 ≡ notes_of s r own → ((f : CompileFinished) → Carries s r f own → Carries s r f own2) → EndsBy s r own ending → EndsBy s r own2 ending
  ends_same r own own2 None e n i h = h
  ends_same r own own2 (Some ending) e n i h = record { compile = h.compile; last_is = e ∙ h.last_is; notes_are = n ∙ h.notes_are; carries = i ending.last h.carries }

  work_keeps : (r : Request) (own : List Own) (job : Job) (miss : MissType) (m : ℕ) → HasJob r own job → miss_of s r own ≡ miss → work_from own ≡ m → dist_of own ≡ NoDist → (miss ≡ ForcedNoCache → asks_store (control r job.first) ≡ false)
      → Keeps s r own (work_phase job miss m)
  work_keeps r own job miss m h e f d g =
      keeps_cond s r own job.client (AtDist (work_of job miss m)) (AtTake (work_of job miss m)) (record { has = h; miss_is = e; from_is = f; dist_is = d; forced = g }) (record { has = h; miss_is = e; from_is = f; dist_is = d; forced = g })

  missed_keeps : (r : Request) (own : List Own) (job : Job) (miss : MissType) (m : ℕ) → HasJob r own job → miss_of s r own ≡ miss → work_from own ≡ m → dist_of own ≡ NoDist → (miss ≡ ForcedNoCache → ⊥)
      → Keeps s r own (missed_phase job miss m)
  missed_keeps r own job miss m h e f d g =
      keeps_cond s r own (not job.found.locally_preprocessed && job.client) (AtKey job.task false) (work_phase job miss m) (h.compile, h.task_is) (work_keeps r own job miss m h e f d (λ z. absurd (g z)))

  control_keeps : (r : Request) (own : List Own) (c : Control) (job : Job) (m : ℕ) → HasJob r own job → miss_of s r own ≡ forced c → work_from own ≡ m → dist_of own ≡ NoDist → control r job.first ≡ c → Keeps s r own (control_phase s c job m)
  control_keeps r own Default job m h e f d g = keeps_cond s r own (nat_lt 0 (length s.levels)) (AtAsk job 0) (missed_phase job Normal m) h (missed_keeps r own job Normal m h e f d (λ z. (cc)))
  control_keeps r own ForceNoCache job m h e f d g = work_keeps r own job ForcedNoCache m h e f d (λ z. ap asks_store g)
  control_keeps r own ForceRecache job m h e f d g = work_keeps r own job ForcedRecache m h e f d (λ z. (cc))

  key_keeps : (r : Request) (own : List Own) (task : Task) (m : ℕ) (first client : Bool) (step : KeyStep) → IsCompile r → task_of own ≡ task → Keeps s r (At m (Keyed first client step) ∷ own) (key_phase s r task m first client step)
  key_keeps r own task m first client (Key found) h e =
      let own2 = At m (Keyed first client (Key found)) ∷ own in
      let job : Job = record { task = task; found = found; at = m; client = client; first = first } in
      control_keeps r own2 (control r first) job m (record { compile = h; job_is = ap (λ (v : Task). record { task = v; found = found; at = m; client = client; first = first }) e; task_is = e }) refl refl refl refl
  key_keeps r own task m first client (KeyError out) h e = (tt, record { compile = h; last_is = refl; notes_are = refl; carries = inl (inl (inl refl)) }, λ i. i)
  key_keeps r own task m first client (KeyFault chain) h e = (tt, record { compile = h; last_is = refl; notes_are = refl; carries = inr (inl refl) }, λ i. i)

  asked_not : (job : Job) (m : ℕ) (a : Answer) → asked_miss s job m a ≡ ForcedNoCache → ⊥
  asked_not job m a e = late_not (is_late job m) (by_answer s.policy a) (by_not s.policy a) e

  whole_keeps : (r : Request) (own : List Own) (job : Job) (m l j : ℕ) (k : List ℕ) (mode : Mode) (a : Answer) (hs : List Handed) → HasJob r own job → k ≡ job.found.key → mode ≡ Whole → Keeps s r (At m (Asked j k mode a hs) ∷ own) (whole_phase s job m l a)
  whole_keeps r own job m l j k mode a hs h ek em =
      let own2 = At m (Asked j k mode a hs) ∷ own in
      let has : HasJob r own2 job = record { compile = h.compile; job_is = h.job_is; task_is = h.task_is } in
      let miss : miss_of s r own2 ≡ asked_miss s job m a = ap (λ v. if_late (is_late v m) (by_answer s.policy a)) h.job_is in
      pick_one a has miss
    where
      pick_one : (a : Answer) → HasJob r (At m (Asked j k mode a hs) ∷ own) job → miss_of s r (At m (Asked j k mode a hs) ∷ own) ≡ asked_miss s job m a → Keeps s r (At m (Asked j k mode a hs) ∷ own) (whole_phase s job m l a)
      pick_one (Hit b mark) has miss =
          let own2 = At m (Asked j k mode (Hit b mark) hs) ∷ own in
          keeps_cond s r own2 (is_late job m) (missed_phase job (asked_miss s job m (Hit b mark)) m) (AtPlace job b (m - job.at))
          (missed_keeps r own2 job (asked_miss s job m (Hit b mark)) m has miss refl refl (asked_not job m (Hit b mark)))
          (has, refl, ap (λ v. m - v.at) h.job_is, subst (λ v. HasHit job.found.key b (At m (Asked j k v (Hit b mark) hs) ∷ own)) (sym em) (ek, refl))
      pick_one Miss has miss =
          let own2 = At m (Asked j k mode Miss hs) ∷ own in
          keeps_cond s r own2 (nat_lt (suc l) (length s.levels)) (AtAsk job (suc l)) (missed_phase job (asked_miss s job m Miss) m) has (missed_keeps r own2 job (asked_miss s job m Miss) m has miss refl refl (asked_not job m Miss))
      pick_one (Refused c) has miss =
          let own2 = At m (Asked j k mode (Refused c) hs) ∷ own in
          keeps_cond s r own2 (nat_lt (suc l) (length s.levels)) (AtAsk job (suc l)) (missed_phase job (asked_miss s job m (Refused c)) m) has (missed_keeps r own2 job (asked_miss s job m (Refused c)) m has miss refl refl (asked_not job m (Refused c)))
      pick_one (FoundAt p) has miss =
          let own2 = At m (Asked j k mode (FoundAt p) hs) ∷ own in
          keeps_cond s r own2 (nat_lt (suc l) (length s.levels)) (AtAsk job (suc l)) (missed_phase job (asked_miss s job m (FoundAt p)) m) has (missed_keeps r own2 job (asked_miss s job m (FoundAt p)) m has miss refl refl (asked_not job m (FoundAt p)))
      pick_one (SizeIs n c) has miss =
          let own2 = At m (Asked j k mode (SizeIs n c) hs) ∷ own in
          keeps_cond s r own2 (nat_lt (suc l) (length s.levels)) (AtAsk job (suc l)) (missed_phase job (asked_miss s job m (SizeIs n c)) m) has (missed_keeps r own2 job (asked_miss s job m (SizeIs n c)) m has miss refl refl (asked_not job m (SizeIs n c)))

  placed_keeps : (r : Request) (own : List Own) (job : Job) (b : List ℕ) (d m : ℕ) (p : Placing) → HasJob r own job → hit_of own ≡ b → HasHit job.found.key b own → Keeps s r (At m (Placed p) ∷ own) (placed_phase s r job b d m p)
  placed_keeps r own job b d m PlaceDone h e hit =
      (tt, record { compile = h.compile; last_is = ap (finish_hit s r) e; notes_are = refl; carries = inl (inr (b, subst (λ v. HasHit v.found.key b own) (sym h.job_is) hit, refl)) }, λ i. i)
  placed_keeps r own job b d m (Missing name) h e hit =
      missed_keeps r (At m (Placed (Missing name)) ∷ own) job CacheReadError m (record { compile = h.compile; job_is = h.job_is; task_is = h.task_is }) refl refl refl (λ z. (cc))
  placed_keeps r own job b d m (PlaceFault chain) h e hit = (tt, record { compile = h.compile; last_is = refl; notes_are = refl; carries = inr (inl refl) }, λ i. i)

  judged_keeps : (r : Request) (own : List Own) (j : Judged) (miss : MissType) (dist : DistType) (d : ℕ) (task : Task) (b : Bytes) (ending : Ending) → Ends s r own ending → ((xs : List Object) → j ≡ IsStored xs → (bytes_of s r own ≡ b) × PutBy s r own b.key b.bytes)
      → (IsStorable r own → (xs : List Object) × (j ≡ IsStored xs)) → Keeps s r own (judged_phase j (judged_verdict j miss dist d) task b ending)
  judged_keeps r own (IsStored xs) miss dist d task b ending e h k = let p = h xs refl in (tt, e, p.0, p.1)
  judged_keeps r own IsFailed miss dist d task b ending e h k = (tt, e, λ i. let q = (k i).1 in (cc))
  judged_keeps r own IsNotCached miss dist d task b ending e h k = (tt, e, λ i. let q = (k i).1 in (cc))
  judged_keeps r own IsNotCacheable miss dist d task b ending e h k = (tt, e, λ i. let q = (k i).1 in (cc))
  judged_keeps r own (IsBroken chain) miss dist d task b ending e h k = (tt, e, λ i. let q = (k i).1 in (cc))

  -- a run that is to be stored is judged so
  kept_stored : (r : Request) (own : List Own) (work : Work) (out : RunOutput) → HasWork s r own work → IsKept r (job_of own) out → (xs : List Object) × (judge work.job work.miss out ≡ IsStored xs)
  kept_stored r own work out h i =
      let k = subst (λ v. IsKept r v out) h.has.job_is i in
      judged_stored out.output.status work.miss work.job.found.cacheable out.objects k.0 k.1 k.2 (λ z. let a = h.forced z in let b = k.3 in (cc))

  judged_carries : (r : Request) (j : Judged) (out : Output) (os : Objects) → ((chain : List (List ℕ)) → j ≡ IsBroken chain → os ≡ Broken chain) → (finish_judged s r j out ≡ finish_output s r out) ⊎ ((chain : List (List ℕ)) × (os ≡ Broken chain) × (finish_judged s r j out ≡ finish_fatal s r chain))
  judged_carries r (IsBroken chain) out os h = inr (chain, h chain refl, refl)
  judged_carries r (IsStored xs) out os h = inl refl
  judged_carries r IsFailed out os h = inl refl
  judged_carries r IsNotCached out os h = inl refl
  judged_carries r IsNotCacheable out os h = inl refl

  ran_keeps : (r : Request) (own : List Own) (work : Work) (m : ℕ) (a : RunAnswer) → HasWork s r own work → Keeps s r (At m (Ran a) ∷ own) (ran_phase s r work m a)
  ran_keeps r own work m (RanOutput out) h =
      let own2 = At m (Ran (RanOutput out)) ∷ own in
      let j = judge work.job work.miss out in
      let job = h.has.job_is in
      judged_keeps r own2 j work.miss work.dist (m - work.from) work.job.task (run_bytes s work.job true out)
      (ending_of (run_notes s r work.job.task (RanOutput out)) (finish_run s r work.job work.miss (RanOutput out)))
      (record {
        compile = h.has.compile;
        last_is = ap (λ v. finish_run s r v (miss_of s r own) (RanOutput out)) job ∙ ap (λ v. finish_run s r work.job v (RanOutput out)) h.miss_is;
        notes_are = ap (λ v. run_notes s r v (RanOutput out)) h.has.task_is;
        carries = ⊎_elim (λ (e : finish_judged s r j out.output ≡ finish_output s r out.output). inl (inl (inl e)))
            (λ (e : (chain : List (List ℕ)) × (out.objects ≡ Broken chain) × (finish_judged s r j out.output ≡ finish_fatal s r chain)). inr (inl e))
            (judged_carries r j out.output out.objects (λ chain e. broken_is out.output.status work.miss work.job.found.cacheable out.objects chain e));
      })
      (λ xs e. (ap (λ v. run_bytes s v true out) job, put_compile r own2 work.job.found.key (entry_of s out) h.has.compile (ap (λ v. v.found.key) job) (inl (stored_is out.output.status work.miss work.job.found.cacheable out.objects xs e, collected_is out.output.status work.miss work.job.found.cacheable out.objects xs e, refl))))
      (kept_stored r own work out h)
  ran_keeps r own work m (RanError out) h = (tt, record { compile = h.has.compile; last_is = refl; notes_are = ap (λ v. run_notes s r v (RanError out)) h.has.task_is; carries = inl (inl (inl refl)) }, λ i. i)
  ran_keeps r own work m (RanFault chain) h = (tt, record { compile = h.has.compile; last_is = refl; notes_are = ap (λ v. run_notes s r v (RanFault chain)) h.has.task_is; carries = inr (inl refl) }, λ i. i)

  dist_keeps : (r : Request) (own : List Own) (work : Work) (m : ℕ) (d : DistAnswer) → HasWork s r own work → Keeps s r (At m (Dist d) ∷ own) (dist_phase s r work m d)
  dist_keeps r own work m (DistDone server out) h =
      let own2 = At m (Dist (DistDone server out)) ∷ own in
      let j = judge work.job work.miss out in
      let job = h.has.job_is in
      judged_keeps r own2 j work.miss (DistOk server) (m - work.from) work.job.task (run_bytes s work.job false out)
      (ending_of [] (finish_dist s r work.job work.miss (DistDone server out)))
      (record {
        compile = h.has.compile;
        last_is = ap (λ v. finish_dist s r v (miss_of s r own) (DistDone server out)) job ∙ ap (λ v. finish_dist s r work.job v (DistDone server out)) h.miss_is;
        notes_are = refl;
        carries = ⊎_elim (λ (e : finish_judged s r j out.output ≡ finish_output s r out.output). inl (inl (inl e)))
            (λ (e : (chain : List (List ℕ)) × (out.objects ≡ Broken chain) × (finish_judged s r j out.output ≡ finish_fatal s r chain)). inr (inl e))
            (judged_carries r j out.output out.objects (λ chain e. broken_is out.output.status work.miss work.job.found.cacheable out.objects chain e));
      })
      (λ xs e. (ap (λ v. run_bytes s v false out) job, put_compile r own2 work.job.found.key (entry_of s out) h.has.compile (ap (λ v. v.found.key) job) (inl (stored_is out.output.status work.miss work.job.found.cacheable out.objects xs e, collected_is out.output.status work.miss work.job.found.cacheable out.objects xs e, refl))))
      (kept_stored r own work out h)
  dist_keeps r own work m (DistHttp text) h = (tt, record { compile = h.has.compile; last_is = refl; notes_are = refl; carries = inr (inl refl) }, λ i. i)
  dist_keeps r own work m (DistTooLarge text) h = (tt, record { compile = h.has.compile; last_is = refl; notes_are = refl; carries = inr (inl refl) }, λ i. i)
  dist_keeps r own work m (DistOther text) h = record { has = record { compile = h.has.compile; job_is = h.has.job_is; task_is = h.has.task_is }; miss_is = h.miss_is; from_is = h.from_is; dist_is = refl; forced = h.forced }

  begin_keeps : (r : Request) (q : Request) (told : Told) (own : List Own) (m : ℕ) → own ≡ [] → Begins s r told → Keeps s r (At m (Began q told) ∷ own) (begin_phase s r told)
  begin_keeps (Compile c) q (TellsCompile (Started task)) own m e b = (tt, refl)
  begin_keeps (Compile c) q (TellsCompile NotCompile) own m e b = tt
  begin_keeps (Compile c) q (TellsCompile (CannotCache why extra)) own m e b = tt
  begin_keeps (Compile c) q (TellsCompile (Unsupported text)) own m e b = tt
  begin_keeps (GetRaw k) q told own m e b = keeps_cond s (GetRaw k) _ (nat_lt 0 (length s.levels)) (RawAsk 0 k) (AtSend (RawReply None)) tt tt
  begin_keeps (PutRaw k d) q told own m e b = (ap (left s) e, ap refused e, ap (bytes_of s (PutRaw k d)) e, (refl, refl), tt)
  begin_keeps (GetPath k) q told own m e b = keeps_cond s (GetPath k) _ (is_disk_alone s.policy s.levels) (PathAsk k) (AtSend (PathReply PathUnsupported)) tt tt
  begin_keeps (GetPre k) q told own m e b = keeps_cond s (GetPre k) _ (nat_lt 0 (length s.levels)) (PreAsk 0 k) (AtSend (PreReply (Ok None))) tt tt
  begin_keeps (PutPre k d) q (TellsValid true) own m e b = (ap (left_pre s) e, ap refused e, ap (bytes_of s (PutPre k d)) e)
  begin_keeps (PutPre k d) q (TellsValid false) own m e b = tt
  begin_keeps GetStats q (TellsStats stats) own m e b = keeps_cond s GetStats _ (nat_lt 0 (length s.levels)) (SizeAsk 0 stats []) (AtSend (stats_reply GetStats (server_info s stats []))) (refl, ap sized e) tt
  begin_keeps Shutdown q (TellsStats stats) own m e b = keeps_cond s Shutdown _ (nat_lt 0 (length s.levels)) (SizeAsk 0 stats []) (AtSend (stats_reply Shutdown (server_info s stats []))) (refl, ap sized e) tt
  begin_keeps DistStatus q (TellsDist info) own m e b = tt
  begin_keeps Handshake q (TellsHandshake info) own m e b = tt
  begin_keeps ZeroStats q TellsNothing own m e b = tt
  begin_keeps (RecordStats stats) q TellsNothing own m e b = tt
  begin_keeps _ q _ own m e b = absurd b

  raw_keeps : (r : Request) (own : List Own) (l : ℕ) (k : List ℕ) (a : Answer) → Keeps s r own (raw_phase s l k a)
  raw_keeps r own l k (Hit b mark) = tt
  raw_keeps r own l k _ = keeps_cond s r own (nat_lt (suc l) (length s.levels)) (RawAsk (suc l) k) (AtSend (RawReply None)) tt tt

  path_keeps : (r : Request) (own : List Own) (a : Answer) → Keeps s r own (path_phase a)
  path_keeps r own (FoundAt p) = tt
  path_keeps r own _ = tt

  pre_keeps : (r : Request) (own : List Own) (l : ℕ) (k : List ℕ) (a : Answer) → Keeps s r own (pre_phase s l k a)
  pre_keeps r own l k (Hit b mark) = tt
  pre_keeps r own l k (Refused c) = tt
  pre_keeps r own l k _ = keeps_cond s r own (nat_lt (suc l) (length s.levels)) (PreAsk (suc l) k) (AtSend (PreReply (Ok None))) tt tt

  size_keeps : (r : Request) (own : List Own) (stats : ServerStats) (zs : List Sized) (l : ℕ) → stats_of own ≡ stats → sized own ≡ zs → Keeps s r own (size_phase s r stats zs l)
  size_keeps r own stats zs l e f =
      keeps_cond s r own (nat_lt (suc l) (length s.levels)) (SizeAsk (suc l) stats zs) (AtSend (stats_reply r (server_info s stats zs))) (e, f) (stats_over r (server_info s stats zs))

  finish_keeps : (r : Request) (own : List Own) (ending : Option Ending) (m : ℕ) (put : Put) (hs : List Handed) → left s own ≡ [] → EndsBy s r own ending → Keeps s r (At m (WriteEnded put hs) ∷ own) (end_write_phase ending put)
  finish_keeps r own None m put hs e h = tt
  finish_keeps r own (Some ending) m put hs e h = record { compile = h.compile; last_is = h.last_is; carries = h.carries; stores = λ i. (tt, e) }

  pub keeps_step : (r : Request) (own : List Own) (p : Phase) (m : ℕ) (x : What) → Keeps s r own p → Fits s r (due_at s r p) x → Keeps s r (At m x ∷ own) (after s r p m x)
  keeps_step r own AtBegin m (Began q told) kp f = begin_keeps r q told own m kp f.1
  keeps_step r own (AtSend g) m (Sent h) kp f = tt
  keeps_step r own (AtSend g) m (TooLong n) kp f = tt
  keeps_step r own (AtStarted task) m (Sent g) kp f = kp
  keeps_step r own (AtStarted task) m (TooLong n) kp f = tt
  keeps_step r own (AtKey task again) m (Keyed first client step) kp f = key_keeps r own task m first client step kp.0 kp.1
  keeps_step r own (AtAsk job l) m (Asked j k mode a hs) kp f = whole_keeps r own job m l j k mode a hs kp f.1 f.2
  keeps_step r own (AtPlace job b d) m (Placed p) kp f = placed_keeps r own job b d m p kp.0 kp.1 kp.3
  keeps_step r own (AtDist work) m (Dist d) kp f = dist_keeps r own work m d kp
  keeps_step r own (AtTake work) m TokenTaken kp f = record { has = record { compile = kp.has.compile; job_is = kp.has.job_is; task_is = kp.has.task_is }; miss_is = kp.miss_is; from_is = kp.from_is; dist_is = kp.dist_is; forced = kp.forced }
  keeps_step r own (AtRun work) m (Ran a) kp f = ran_keeps r own work m a kp
  keeps_step r own (AtEnd v task ending) m (Outcome w t) kp f =
      record { compile = kp.1.compile; last_is = kp.1.last_is; carries = kp.1.carries; stores = λ i. absurd (kp.2 i) }
  keeps_step r own (AtStore v task b ending) m (Outcome w t) kp f =
      (refl, refl, kp.2, put_same r own (At m (Outcome w t) ∷ own) b.key b.bytes refl (λ h. h) kp.3, record { compile = kp.1.compile; last_is = kp.1.last_is; notes_are = kp.1.notes_are; carries = kp.1.carries })
  keeps_step r own (AtWrite b (l ∷ ls) g ending) m (Reserved j k n WriteDone) kp f = (
    goes_same (refused own) (drop (over own) (plan s.policy s.levels)) l ls kp.0,
    kp.1,
    kp.2,
    put_same r own (At m (Reserved j k n WriteDone) ∷ own) b.key b.bytes refl (λ h. h) kp.3,
    ends_same r own (At m (Reserved j k n WriteDone) ∷ own) ending refl refl (λ v h. h) kp.4,
    refl,
  )
  keeps_step r own (AtWrite b (l ∷ ls) g ending) m (Reserved j k n (WriteRefused c)) kp f =
      let own2 = At m (Reserved j k n (WriteRefused c)) ∷ own in
      let e = note_is s own g j l c kp.1 (reserve_is s r (kind_at s.levels l) l b j k n (WriteRefused c) f).0 in (
        left_next s own own2 l ls (note g l c) refl e (goes_same (refused own) (drop (over own) (plan s.policy s.levels)) l ls kp.0),
        e,
        kp.2,
        put_same r own own2 b.key b.bytes refl (λ h. h) kp.3,
        ends_same r own own2 ending refl refl (λ v h. h) kp.4,
      )
  keeps_step r own (AtWrite b (l ∷ ls) g ending) m (Wrote j k d mode mark w) kp f =
      let own2 = At m (Wrote j k d mode mark w) ∷ own in
      let e = wrote_refused s own g m j l k d mode mark w kp.1 (wrote_is s r (kind_at s.levels l) l b j k d mode mark w f).0 in (
        left_next s own own2 l ls (noted w g l) refl e (goes_same (refused own) (drop (over own) (plan s.policy s.levels)) l ls kp.0),
        e,
        kp.2,
        put_same r own own2 b.key b.bytes refl (λ h. h) kp.3,
        ends_same r own own2 ending refl refl (λ v h. h) kp.4,
      )
  keeps_step r own (AtWrite b (l ∷ ls) g ending) m x kp f = absurd (start_is s r (kind_at s.levels l) l b x f)
  keeps_step r own (AtWrite b [] g ending) m (WriteEnded put hs) kp f = finish_keeps r own ending m put hs kp.0 kp.4
  keeps_step r own (AtFill b l ls g ending) m (Filled j k d mark WriteDone) kp f =
      (kp.0, kp.1, kp.2, put_same r own (At m (Filled j k d mark WriteDone) ∷ own) b.key b.bytes refl (λ h. h) kp.3, ends_same r own (At m (Filled j k d mark WriteDone) ∷ own) ending refl refl (λ v h. h) kp.4, ap (λ v. after_fill v mark) kp.5 ∙ f.3)
  keeps_step r own (AtFill b l ls g ending) m (Filled j k d mark (WriteRefused c)) kp f =
      let own2 = At m (Filled j k d mark (WriteRefused c)) ∷ own in
      let e = note_is s own g j l c kp.1 f.0 in
      (left_next s own own2 l ls (note g l c) refl e kp.0, e, kp.2, put_same r own own2 b.key b.bytes refl (λ h. h) kp.3, ends_same r own own2 ending refl refl (λ v h. h) kp.4)
  keeps_step r own (AtCommit b l ls g ending) m (Committed j k d w) kp f =
      let own2 = At m (Committed j k d w) ∷ own in
      let e = committed_refused s own g m j l k d w kp.1 f.0 in
      (left_next s own own2 l ls (noted w g l) refl e kp.0, e, kp.2, put_same r own own2 b.key b.bytes refl (λ h. h) kp.3, ends_same r own own2 ending refl refl (λ v h. h) kp.4)
  keeps_step r own (AtFinish [] last) m (Sent g) kp f = tt
  keeps_step r own (AtFinish (n ∷ ns) last) m (Sent g) kp f = record { compile = kp.compile; last_is = kp.last_is; carries = kp.carries; stores = kp.stores }
  keeps_step r own (AtFinish [] last) m (TooLong z) kp f = tt
  keeps_step r own (AtFinish (n ∷ ns) last) m (TooLong z) kp f = tt
  keeps_step r own (RawAsk l k) m (Asked j i mode a hs) kp f = raw_keeps r _ l k a
  keeps_step r own (PathAsk k) m (Asked j i mode a hs) kp f = path_keeps r _ a
  keeps_step r own (PreAsk l k) m (Asked j i mode a hs) kp f = pre_keeps r _ l k a
  keeps_step r own (PrePut b (l ∷ ls) g) m (Wrote j k d mode mark w) kp f =
      (drop_one (over own) (pre_plan s.policy s.levels) l ls kp.0, wrote_refused s own g m j l k d mode mark w kp.1 f.0, kp.2)
  keeps_step r own (PrePut b [] g) m (Sent h) kp f = tt
  keeps_step r own (PrePut b [] g) m (TooLong n) kp f = tt
  keeps_step r own (SizeAsk l stats zs) m (Asked j k mode a hs) kp f =
      size_keeps r (At m (Asked j k mode a hs) ∷ own) stats (with_size zs a) l kp.0 (sized_is own m j k mode a hs ∙ ap (λ v. with_size v a) kp.1)
  keeps_step _ _ _ _ _ kp f = absurd f

  pub record Ties (r : Request) (own : List Own) (p : Phase) : Type 0 where
    pub is_due : due s r own ≡ due_at s r p
    pub keeps : Keeps s r own p
    pub lawful : Lawful s r own

  pub ties_new : (r : Request) → Ties r [] AtBegin
  ties_new r = record { is_due = refl; keeps = refl; lawful = tt }

  pub ties_fits : (r : Request) (own : List Own) (p : Phase) (x : What) → Ties r own p → Fits s r (due_at s r p) x → Fits s r (due s r own) x
  ties_fits r own p x t f = subst (λ v. Fits s r v x) (sym t.is_due) f

  pub ties_step : (r : Request) (own : List Own) (p : Phase) (m : ℕ) (x : What) → Ties r own p → Fits s r (due_at s r p) x → Ties r (At m x ∷ own) (after s r p m x)
  ties_step r own p m x t f = record { is_due = due_step s r own p m x t.is_due t.keeps f; keeps = keeps_step r own p m x t.keeps f; lawful = (ties_fits r own p x t f, t.lawful) }

  abbrev pub phase_of : Request → List Own → Phase
  phase_of r [] = AtBegin
  phase_of r (At m x ∷ own) = after s r (phase_of r own) m x

  pub lawful_ties : (r : Request) (own : List Own) → Lawful s r own → Ties r own (phase_of r own)
  lawful_ties r [] l = ties_new r
  lawful_ties r (At m x ∷ own) l =
      let t = lawful_ties r own l.1 in
      ties_step r own (phase_of r own) m x t (subst (λ v. Fits s r v x) t.is_due l.0)
