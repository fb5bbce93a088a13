-- How many events a request has: each one makes what can still come less.
use Rattle.std.proofs.Common.{◌≡◌, ℕ, zero, suc, ◌+◌, ◌*◌, ◌-◌, ◌<◌, ◌≤◌, ⊎_elim, Bool, true, false, cond, ◌&&◌, not, true≢false, List, [], ◌∷◌, length, Some, None, refl, sym, subst, arith, nat_lt}
use Rattle.std.proofs.lemmas.Bool.{cases_lt, le-ltb, lt-ltb}
use Rattle.sc_model.proofs.Keeping.{lawful_ties, phase_of}
use Rattle.sc_model.proofs.Steps.{start_is}
use Rattle.sc_model.specs.Afterwards.{dist_verdict, with_size}
use Rattle.sc_model.specs.Dues.{Due, ToFinish, ToKey, ToSend, is_disk_alone, kind_at}
use Rattle.sc_model.specs.Follows.{Fits, Lawful}
use Rattle.sc_model.specs.Headline.{AreFew, notes_sent}
use Rattle.sc_model.specs.Finishing.{finish_dist}
use Rattle.sc_model.specs.Job.{At, Own, forced, is_late, run_bytes}
use Rattle.sc_model.specs.Judging.{IsStored, Judged, judge}
use Rattle.sc_model.specs.DueAt.{due_at}
use Rattle.sc_model.specs.Machine.{IsOneWhereSingle}
use Rattle.sc_model.specs.Phases.{after, asked_miss, begin_phase, control_phase, dist_phase, end_write_phase, judged_phase, key_phase, missed_phase, noted, path_phase, placed_phase, pre_phase, ran_phase, raw_phase, size_phase, stopped, whole_phase, work_phase}
use Rattle.sc_model.specs.Plan.{goes_on, is_required, levels_of, note, plan, pre_plan, takes_writes, reads_only, first_policy, rest_policies}
use Rattle.sc_model.specs.Script.{Control, Default, ForceNoCache, ForceRecache, Setup, control, is_single}
use Rattle.sc_model.specs.declared.event.Answer.{Answer}
use Rattle.sc_model.specs.declared.event.Answer.TheVariants.{Found as FoundAt, Hit, Miss, Refused, Size as SizeIs}
use Rattle.sc_model.specs.declared.event.DistAnswer.{DistAnswer}
use Rattle.sc_model.specs.declared.event.DistAnswer.TheVariants.{Done as DistDone, Http as DistHttp, Other as DistOther, TooLarge as DistTooLarge}
use Rattle.sc_model.specs.declared.event.KeyStep.{KeyStep}
use Rattle.sc_model.specs.declared.event.KeyStep.TheVariants.{Fault as KeyFault, Key, ProcessError as KeyError}
use Rattle.sc_model.specs.declared.event.MissType.{MissType}
use Rattle.sc_model.specs.declared.event.MissType.TheVariants.{CacheReadError, Normal}
use Rattle.sc_model.specs.declared.event.Parsed.TheVariants.{CannotCache, NotCompile, Started, Unsupported}
use Rattle.sc_model.specs.declared.event.Placing.{Placing}
use Rattle.sc_model.specs.declared.event.Placing.TheVariants.{Done as PlaceDone, Fault as PlaceFault, Missing}
use Rattle.sc_model.specs.declared.event.RunAnswer.{RunAnswer}
use Rattle.sc_model.specs.declared.event.RunAnswer.TheVariants.{Fault as RanFault, Output as RanOutput, ProcessError as RanError}
use Rattle.sc_model.specs.declared.event.Task.{Task}
use Rattle.sc_model.specs.declared.event.Told.{Told}
use Rattle.sc_model.specs.declared.event.Told.TheVariants.{Compile as TellsCompile, Dist as TellsDist, Handshake as TellsHandshake, Nothing as TellsNothing, Stats as TellsStats, Valid as TellsValid}
use Rattle.sc_model.specs.declared.event.Verdict.{Verdict}
use Rattle.sc_model.specs.declared.event.What.{What}
use Rattle.sc_model.specs.declared.event.What.TheVariants.{Asked, Began, Committed, Dist, Filled, Keyed, Outcome, Placed, Ran, Reserved, Sent, TokenTaken, TooLong, WriteEnded, Wrote}
use Rattle.sc_model.specs.declared.event.Written.TheVariants.{Done as WriteDone, Refused as WriteRefused}
use Rattle.sc_model.specs.declared.level.LevelFacts.{LevelFacts}
use Rattle.sc_model.specs.declared.level.LevelPolicy.{LevelPolicy}
use Rattle.sc_model.specs.declared.level.Policy.{Policy}
use Rattle.sc_model.specs.declared.level.Policy.TheVariants.{Levels, Single}
use Rattle.sc_model.specs.declared.level.Put.{Put}
use Rattle.sc_model.specs.declared.message.Request.{Request}
use Rattle.sc_model.specs.declared.message.Request.TheVariants.{Compile, DistStatus, GetStats, RecordStats, Shutdown, StorageGetPath as GetPath, StorageGetPreprocessorEntry as GetPre, StorageGetRaw as GetRaw, StorageHandshake as Handshake, StoragePutPreprocessorEntry as PutPre, StoragePutRaw as PutRaw, ZeroStats}
use Rattle.sc_model.specs.declared.message.Response.{Response}
use Rattle.sc_model.specs.declared.message.Response.TheVariants.{ArtifactNotification as Note}
use Rattle.sc_model.specs.declared.phase.Bytes.{Bytes}
use Rattle.sc_model.specs.declared.phase.Ending.{Ending}
use Rattle.sc_model.specs.declared.phase.Job.{Job}
use Rattle.sc_model.specs.declared.phase.Phase.{Phase}
use Rattle.sc_model.specs.declared.phase.Phase.TheVariants.{AtAsk, AtBegin, AtCommit, AtDist, AtEnd, AtEnded, AtFill, AtFinish, AtKey, AtOver, AtPlace, AtRun, AtSend, AtStarted, AtStore, AtTake, AtWrite, PathAsk, PreAsk, PrePut, RawAsk, SizeAsk}
use Rattle.sc_model.specs.declared.phase.Refusal.{Refusal}
use Rattle.sc_model.specs.declared.phase.Refusal.TheVariants.{At as RefusedAt, NoneYet}
use Rattle.sc_model.specs.declared.phase.Sized.{Sized}
use Rattle.sc_model.specs.declared.phase.Work.{Work}
use Rattle.sc_stats.specs.declared.counters.ServerStats.{ServerStats}

-- how many events can still come at a phase, notifications aside, where there are n levels
abbrev pub weight : ℕ → Phase → ℕ
weight n AtBegin = 11 + 4 * n
weight n (AtSend f) = 1
weight n (AtStarted task) = 10 + 4 * n
weight n (AtKey task true) = 9 + 4 * n
weight n (AtKey task false) = 7 + 3 * n
weight n (AtAsk job l) = 9 + 3 * n + (n - suc l)
weight n (AtPlace job b d) = 8 + 3 * n
weight n (AtDist work) = 6 + 3 * n
weight n (AtTake work) = 5 + 3 * n
weight n (AtRun work) = 4 + 3 * n
weight n (AtEnd v task ending) = 2
weight n (AtStore v task b ending) = 3 + 3 * n
weight n (AtWrite b ls f ending) = 2 + 3 * length ls
weight n (AtFill b l ls f ending) = 4 + 3 * length ls
weight n (AtCommit b l ls f ending) = 3 + 3 * length ls
weight n (AtFinish ns last) = 1
weight n (RawAsk l k) = 2 + (n - suc l)
weight n (PathAsk k) = 2
weight n (PreAsk l k) = 2 + (n - suc l)
weight n (PrePut b ls f) = 1 + length ls
weight n (SizeAsk l stats zs) = 2 + (n - suc l)
weight n (AtEnded left) = 0
weight n AtOver = 0

-- each event but a notification counts
abbrev cost : What → ℕ
cost (Sent (Note line)) = 0
cost _ = 1

cost_few : (x : What) → cost x ≤ 1
cost_few (Sent (Note line)) = omega arith
cost_few (Sent _) = omega arith
cost_few _ = omega arith

notes_more : (m : ℕ) (x : What) (own : List Own) → notes_sent (At m x ∷ own) + cost x ≡ suc (notes_sent own)
notes_more m (Sent (Note line)) own = omega arith
notes_more m (Sent _) own = omega arith
notes_more m _ own = omega arith

-- of two phases the one that is taken
of_two : (n k : ℕ) (b : Bool) (p q : Phase) → weight n p ≤ k → weight n q ≤ k → weight n (cond b p q) ≤ k
of_two n k true p q x y = x
of_two n k false p q x y = y

-- the next level, where there is one
of_next : (n l k : ℕ) (p q : Phase) → (l < n → weight n p ≤ k) → weight n q ≤ k → weight n (cond (nat_lt l n) p q) ≤ k
of_next n l k p q x y =
    ⊎_elim (λ (h : l < n). subst (λ b. weight n (cond b p q) ≤ k) (sym (lt-ltb l n h)) (x h))
    (λ (h : n ≤ l). subst (λ b. weight n (cond b p q) ≤ k) (sym (le-ltb l n h)) y) (cases_lt l n)

stopped_none : (n : ℕ) (d : Due) → weight n (stopped d) ≡ 0
stopped_none n (ToSend f) = refl
stopped_none n (ToFinish ns last) = refl
stopped_none n _ = refl

goes_few : (f : Refusal) (ls : List ℕ) → length (goes_on f ls) ≤ length ls
goes_few NoneYet ls = omega arith
goes_few (RefusedAt zero c) ls = omega arith
goes_few (RefusedAt (suc l) c) ls = omega arith

cond_few : (b : Bool) (l : ℕ) (ls : List ℕ) (k : ℕ) → length ls ≤ k → length (cond b (l ∷ ls) ls) ≤ suc k
cond_few true l ls k h = omega (arith, h)
cond_few false l ls k h = omega (arith, h)

levels_few : (test : LevelPolicy → Bool) (n : ℕ) (ps : List LevelPolicy) (fs : List LevelFacts) → length (levels_of test n ps fs) ≤ length fs
levels_few test n ps [] = omega arith
levels_few test n ps (f ∷ fs) =
    cond_few (not (reads_only f.mode) && test (first_policy ps)) n (levels_of test (suc n) (rest_policies ps) fs) (length fs) (levels_few test (suc n) (rest_policies ps) fs)

module _ (s : Setup) (one : IsOneWhereSingle s) where
  abbrev n : ℕ
  n = length s.levels

  plan_few : (p : Policy) → s.policy ≡ p → length (plan p s.levels) ≤ n
  plan_few Single e = omega (arith, one (subst (λ v. is_single v ≡ true) (sym e) refl))
  plan_few (Levels ps) e = levels_few is_required 0 ps s.levels

  pre_plan_few : (p : Policy) → s.policy ≡ p → length (pre_plan p s.levels) ≤ n
  pre_plan_few Single e = omega (arith, one (subst (λ v. is_single v ≡ true) (sym e) refl))
  pre_plan_few (Levels ps) e = levels_few takes_writes 0 ps s.levels

  work_few : (job : Job) (miss : MissType) (m : ℕ) → weight n (work_phase job miss m) ≤ 6 + 3 * n
  work_few job miss m = of_two n (6 + 3 * n) job.client _ _ (omega arith) (omega arith)

  missed_few : (job : Job) (miss : MissType) (m : ℕ) → weight n (missed_phase job miss m) ≤ 7 + 3 * n
  missed_few job miss m = of_two n (7 + 3 * n) (not job.found.locally_preprocessed && job.client) _ _ (omega arith) (omega (arith, work_few job miss m))

  control_few : (c : Control) (job : Job) (m : ℕ) → weight n (control_phase s c job m) ≤ 8 + 4 * n
  control_few Default job m = of_next n 0 (8 + 4 * n) _ _ (λ h. omega (arith, h)) (omega (arith, missed_few job Normal m))
  control_few ForceNoCache job m = omega (arith, work_few job (forced ForceNoCache) m)
  control_few ForceRecache job m = omega (arith, work_few job (forced ForceRecache) m)

  first_few : (r : Request) (task : Task) (m : ℕ) (client : Bool) (step : KeyStep) → weight n (key_phase s r task m true client step) ≤ 8 + 4 * n
  first_few r task m client (Key found) = control_few (control r true) _ m
  first_few r task m client (KeyError out) = omega arith
  first_few r task m client (KeyFault chain) = omega arith

  again_few : (c : _) (task : Task) (m : ℕ) (client : Bool) (step : KeyStep) → weight n (key_phase s (Compile c) task m false client step) ≤ 6 + 3 * n
  again_few c task m client (Key found) = work_few _ (forced ForceRecache) m
  again_few c task m client (KeyError out) = omega arith
  again_few c task m client (KeyFault chain) = omega arith

  key_few : (r : Request) (task : Task) (m : ℕ) (again first client : Bool) (step : KeyStep) → Fits s r (ToKey again) (Keyed first client step) → weight n (key_phase s r task m first client step) + 1 ≤ weight n (AtKey task again)
  key_few r task m true true client step f = omega (arith, first_few r task m client step)
  key_few (Compile c) task m false false client step f = omega (arith, again_few c task m client step)
  key_few _ task m true false client step f = absurd (true≢false (sym f.0))
  key_few _ task m false true client step f = absurd (true≢false f.0)
  key_few _ task m false false client step f = absurd f.1

  asks_few : (job : Job) (m l : ℕ) (a : Answer) → weight n (cond (nat_lt (suc l) n) (AtAsk job (suc l)) (missed_phase job (asked_miss s job m a) m)) ≤ 8 + 3 * n + (n - suc l)
  asks_few job m l a = of_next n (suc l) (8 + 3 * n + (n - suc l)) _ _ (λ h. omega (arith, h)) (omega (arith, missed_few job (asked_miss s job m a) m))

  whole_few : (job : Job) (m l : ℕ) (a : Answer) → weight n (whole_phase s job m l a) ≤ 8 + 3 * n + (n - suc l)
  whole_few job m l (Hit b mark) =
      of_two n (8 + 3 * n + (n - suc l)) (is_late job m) _ _ (omega (arith, missed_few job (asked_miss s job m (Hit b mark)) m)) (omega arith)
  whole_few job m l Miss = asks_few job m l Miss
  whole_few job m l (Refused c) = asks_few job m l (Refused c)
  whole_few job m l (FoundAt p) = asks_few job m l (FoundAt p)
  whole_few job m l (SizeIs k c) = asks_few job m l (SizeIs k c)

  next_few : (l : ℕ) (p : Phase) (f : Response) → weight n p ≡ 2 + (n - suc (suc l)) → weight n (cond (nat_lt (suc l) n) p (AtSend f)) ≤ 1 + (n - suc l)
  next_few l p f e = of_next n (suc l) (1 + (n - suc l)) p (AtSend f) (λ h. omega (arith, h, e)) (omega arith)

  raw_few : (l : ℕ) (k : List ℕ) (a : Answer) → weight n (raw_phase s l k a) ≤ 1 + (n - suc l)
  raw_few l k (Hit b mark) = omega arith
  raw_few l k _ = next_few l (RawAsk (suc l) k) _ refl

  path_few : (a : Answer) → weight n (path_phase a) ≤ 1
  path_few (FoundAt p) = omega arith
  path_few _ = omega arith

  pre_few : (l : ℕ) (k : List ℕ) (a : Answer) → weight n (pre_phase s l k a) ≤ 1 + (n - suc l)
  pre_few l k (Hit b mark) = omega arith
  pre_few l k (Refused c) = omega arith
  pre_few l k _ = next_few l (PreAsk (suc l) k) _ refl

  size_few : (r : Request) (stats : ServerStats) (zs : List Sized) (l : ℕ) → weight n (size_phase s r stats zs l) ≤ 1 + (n - suc l)
  size_few r stats zs l = next_few l (SizeAsk (suc l) stats zs) _ refl

  begins_few : (p : Phase) (f : Response) → weight n p ≡ 2 + (n - 1) → weight n (cond (nat_lt 0 n) p (AtSend f)) ≤ 10 + 4 * n
  begins_few p f e = of_next n 0 (10 + 4 * n) p (AtSend f) (λ h. omega (arith, h, e)) (omega arith)

  begin_few : (r : Request) (told : Told) → weight n (begin_phase s r told) ≤ 10 + 4 * n
  begin_few (Compile c) (TellsCompile (Started task)) = omega arith
  begin_few (Compile c) (TellsCompile NotCompile) = omega arith
  begin_few (Compile c) (TellsCompile (CannotCache why extra)) = omega arith
  begin_few (Compile c) (TellsCompile (Unsupported text)) = omega arith
  begin_few (GetRaw k) told = begins_few (RawAsk 0 k) _ refl
  begin_few (PutRaw k b) told = omega (arith, plan_few s.policy refl)
  begin_few (GetPath k) told = of_two n (10 + 4 * n) (is_disk_alone s.policy s.levels) _ _ (omega arith) (omega arith)
  begin_few (GetPre k) told = begins_few (PreAsk 0 k) _ refl
  begin_few (PutPre k b) (TellsValid true) = omega (arith, pre_plan_few s.policy refl)
  begin_few (PutPre k b) (TellsValid false) = omega arith
  begin_few GetStats (TellsStats stats) = begins_few (SizeAsk 0 stats []) _ refl
  begin_few Shutdown (TellsStats stats) = begins_few (SizeAsk 0 stats []) _ refl
  begin_few DistStatus (TellsDist info) = omega arith
  begin_few Handshake (TellsHandshake info) = omega arith
  begin_few ZeroStats TellsNothing = omega arith
  begin_few (RecordStats stats) TellsNothing = omega arith
  begin_few _ _ = omega arith

  placed_few : (r : Request) (job : Job) (b : List ℕ) (d m : ℕ) (p : Placing) → weight n (placed_phase s r job b d m p) ≤ 7 + 3 * n
  placed_few r job b d m PlaceDone = omega arith
  placed_few r job b d m (Missing name) = missed_few job CacheReadError m
  placed_few r job b d m (PlaceFault chain) = omega arith

  judged_few : (j : Judged) (v : Verdict) (task : Task) (b : Bytes) (ending : Ending) → weight n (judged_phase j v task b ending) ≤ 3 + 3 * n
  judged_few (IsStored os) v task b ending = omega arith
  judged_few _ v task b ending = omega arith

  ran_few : (r : Request) (work : Work) (m : ℕ) (a : RunAnswer) → weight n (ran_phase s r work m a) ≤ 3 + 3 * n
  ran_few r work m (RanOutput out) = judged_few (judge work.job work.miss out) _ work.job.task _ _
  ran_few r work m (RanError out) = omega arith
  ran_few r work m (RanFault chain) = omega arith

  dist_few : (r : Request) (work : Work) (m : ℕ) (d : DistAnswer) → weight n (dist_phase s r work m d) ≤ 5 + 3 * n
  dist_few r work m (DistDone server out) = omega (arith, judged_few (judge work.job work.miss out) (dist_verdict work.job work.miss (m - work.from) (DistDone server out)) work.job.task (run_bytes s work.job false out) (record { notes = []; last = finish_dist s r work.job work.miss (DistDone server out) }))
  dist_few r work m (DistHttp text) = omega arith
  dist_few r work m (DistTooLarge text) = omega arith
  dist_few r work m (DistOther text) = omega arith

  ended_few : (e : _) (put : Put) → weight n (end_write_phase e put) ≤ 1
  ended_few None put = omega arith
  ended_few (Some ending) put = omega arith

  step_few : (r : Request) (p : Phase) (m : ℕ) (x : What) → Fits s r (due_at s r p) x → weight n (after s r p m x) + cost x ≤ weight n p
  step_few r AtBegin m (Began q told) f = omega (arith, begin_few r told)
  step_few r (AtSend g) m (Sent h) f = omega (arith, cost_few (Sent h))
  step_few r (AtSend g) m (TooLong z) f = omega arith
  step_few r (AtStarted task) m (Sent g) f = omega (arith, cost_few (Sent g))
  step_few r (AtStarted task) m (TooLong z) f = omega arith
  step_few r (AtKey task again) m (Keyed first client step) f = key_few r task m again first client step f
  step_few r (AtAsk job l) m (Asked j k mode a hs) f = omega (arith, whole_few job m l a)
  step_few r (AtPlace job b d) m (Placed p) f = omega (arith, placed_few r job b d m p)
  step_few r (AtDist work) m (Dist d) f = omega (arith, dist_few r work m d)
  step_few r (AtTake work) m TokenTaken f = omega arith
  step_few r (AtRun work) m (Ran a) f = omega (arith, ran_few r work m a)
  step_few r (AtEnd v task ending) m (Outcome w t) f = omega arith
  step_few r (AtStore v task b ending) m (Outcome w t) f = omega (arith, plan_few s.policy refl)
  step_few r (AtWrite b (l ∷ ls) g ending) m (Reserved j k z WriteDone) f = omega arith
  step_few r (AtWrite b (l ∷ ls) g ending) m (Reserved j k z (WriteRefused c)) f = omega (arith, goes_few (note g l c) ls)
  step_few r (AtWrite b (l ∷ ls) g ending) m (Wrote j k d mode mark w) f = omega (arith, goes_few (noted w g l) ls)
  step_few r (AtWrite b (l ∷ ls) g ending) m x f = absurd (start_is s r (kind_at s.levels l) l b x f)
  step_few r (AtWrite b [] g ending) m (WriteEnded put hs) f = omega (arith, ended_few ending put)
  step_few r (AtFill b l ls g ending) m (Filled j k d mark WriteDone) f = omega arith
  step_few r (AtFill b l ls g ending) m (Filled j k d mark (WriteRefused c)) f = omega (arith, goes_few (note g l c) ls)
  step_few r (AtCommit b l ls g ending) m (Committed j k d w) f = omega (arith, goes_few (noted w g l) ls)
  step_few r (AtFinish [] last) m (Sent g) f = omega (arith, cost_few (Sent g))
  step_few r (AtFinish (line ∷ ns) last) m (Sent g) f = subst (λ v. 1 + cost (Sent v) ≤ 1) (sym f.0) (omega arith)
  step_few r (AtFinish [] last) m (TooLong z) f = omega arith
  step_few r (AtFinish (line ∷ ns) last) m (TooLong z) f = omega arith
  step_few r (RawAsk l k) m (Asked j i mode a hs) f = omega (arith, raw_few l k a)
  step_few r (PathAsk k) m (Asked j i mode a hs) f = omega (arith, path_few a)
  step_few r (PreAsk l k) m (Asked j i mode a hs) f = omega (arith, pre_few l k a)
  step_few r (PrePut b (l ∷ ls) g) m (Wrote j k d mode mark w) f = omega arith
  step_few r (PrePut b [] g) m (Sent h) f = omega (arith, cost_few (Sent h))
  step_few r (PrePut b [] g) m (TooLong z) f = omega arith
  step_few r (SizeAsk l stats zs) m (Asked j k mode a hs) f = omega (arith, size_few r stats (with_size zs a) l)
  step_few _ _ _ _ f = absurd f

  pub all_few : (r : Request) (own : List Own) → Lawful s r own → length own + weight n (phase_of s r own) ≤ 11 + 4 * n + notes_sent own
  all_few r [] l = omega arith
  all_few r (At m x ∷ own) l =
      let t = lawful_ties s r own l.1 in
      let p = phase_of s r own in
      let fits : Fits s r (due_at s r p) x = subst (λ v. Fits s r v x) t.is_due l.0 in
      omega (arith, step_few r p m x fits, all_few r own l.1, notes_more m x own)

  pub few_events : (r : Request) (own : List Own) → Lawful s r own → AreFew s own
  few_events r own l = omega (arith, all_few r own l)
