-- A job goes on, and comes to its end.
use Rattle.std.proofs.Common.{◌≡◌, ℕ, zero, suc, ◌+◌, ◌-◌, ◌*◌, ◌<◌, ◌≤◌, Bool, true, false, cond, not, ◌&&◌, nat_lt, List, [], ◌∷◌, length, Some, None, refl, arith}
use Rattle.std.proofs.lemmas.Bool.{ltb-true}
use Rattle.sc_model.specs.Dues.{kind_at, start_write}
use Rattle.sc_model.specs.Follows.{Fits}
use Rattle.sc_model.specs.Job.{forced, is_late}
use Rattle.sc_model.specs.Judging.{IsBroken, IsFailed, IsNotCacheable, IsNotCached, IsStored, Judged, judge}
use Rattle.sc_model.specs.DueAt.{due_at}
use Rattle.sc_model.specs.Phases.{after, asked_miss, control_phase, dist_phase, judged_phase, key_phase, missed_phase, next_writes, noted, placed_phase, ran_phase, reserved_phase, filled_phase, whole_phase, work_of, work_phase}
use Rattle.sc_model.specs.Plan.{goes_on, note, plan}
use Rattle.sc_model.specs.Script.{Control, Default, ForceNoCache, ForceRecache, Setup, control}
use Rattle.sc_model.specs.declared.event.Answer.{Answer}
use Rattle.sc_model.specs.declared.event.Answer.TheVariants.{Found, Hit, Miss, Refused, Size}
use Rattle.sc_model.specs.declared.event.DistAnswer.{DistAnswer}
use Rattle.sc_model.specs.declared.event.DistAnswer.TheVariants.{Done as DistDone, Http as DistHttp, Other as DistOther, TooLarge as DistTooLarge}
use Rattle.sc_model.specs.declared.event.KeyStep.{KeyStep}
use Rattle.sc_model.specs.declared.event.KeyStep.TheVariants.{Fault as KeyFault, Key, ProcessError as KeyError}
use Rattle.sc_model.specs.declared.event.MissType.{MissType}
use Rattle.sc_model.specs.declared.event.MissType.TheVariants.{CacheReadError, Normal}
use Rattle.sc_model.specs.declared.event.Placing.{Placing}
use Rattle.sc_model.specs.declared.event.Placing.TheVariants.{Done as PlaceDone, Fault as PlaceFault, Missing}
use Rattle.sc_model.specs.declared.event.RunAnswer.{RunAnswer}
use Rattle.sc_model.specs.declared.event.RunAnswer.TheVariants.{Fault as RanFault, Output as RanOutput, ProcessError as RanError}
use Rattle.sc_model.specs.declared.event.Task.{Task}
use Rattle.sc_model.specs.declared.event.Verdict.{Verdict}
use Rattle.sc_model.specs.declared.event.What.{What}
use Rattle.sc_model.specs.declared.event.What.TheVariants.{Asked, Committed, Dist, Filled, Keyed, Outcome, Placed, Ran, Reserved, TokenTaken, WriteEnded, Wrote}
use Rattle.sc_model.specs.declared.event.Written.{Written}
use Rattle.sc_model.specs.declared.event.Written.TheVariants.{Done as WriteDone, Refused as WriteRefused}
use Rattle.sc_model.specs.declared.level.LevelKind.{LevelKind}
use Rattle.sc_model.specs.declared.level.LevelKind.TheVariants.{Disk, Remote}
use Rattle.sc_model.specs.declared.message.Compile.{Compile as CompileRequest}
use Rattle.sc_model.specs.declared.message.Request.{Request}
use Rattle.sc_model.specs.declared.message.Request.TheVariants.{Compile}
use Rattle.sc_model.specs.declared.phase.Bytes.{Bytes}
use Rattle.sc_model.specs.declared.phase.Ending.{Ending}
use Rattle.sc_model.specs.declared.phase.Job.{Job}
use Rattle.sc_model.specs.declared.phase.Phase.{Phase}
use Rattle.sc_model.specs.declared.phase.Phase.TheVariants.{AtAsk, AtBegin, AtCommit, AtDist, AtEnd, AtEnded, AtFill, AtFinish, AtKey, AtOver, AtPlace, AtRun, AtSend, AtStarted, AtStore, AtTake, AtWrite, PathAsk, PreAsk, PrePut, RawAsk, SizeAsk}
use Rattle.sc_model.specs.declared.phase.Refusal.{Refusal}
use Rattle.sc_model.specs.declared.phase.Refusal.TheVariants.{At as RefusedAt, NoneYet}
use Rattle.sc_model.specs.declared.phase.Work.{Work}
use Rattle.sc_compile_direct.specs.Running.{is_over}

-- a job that was begun and is to be told how it ended
abbrev pub IsJob : Phase → Type 0
IsJob (AtKey task first) = Unit {0}
IsJob (AtAsk job l) = Unit {0}
IsJob (AtPlace job b d) = Unit {0}
IsJob (AtDist work) = Unit {0}
IsJob (AtTake work) = Unit {0}
IsJob (AtRun work) = Unit {0}
IsJob (AtEnd v task ending) = Unit {0}
IsJob (AtStore v task b ending) = Unit {0}
IsJob (AtWrite b ls f (Some ending)) = Unit {0}
IsJob (AtFill b l ls f (Some ending)) = Unit {0}
IsJob (AtCommit b l ls f (Some ending)) = Unit {0}
IsJob (AtFinish ns last) = Unit {0}
IsJob _ = ⊥

-- the most steps of a write at so many levels
abbrev pub writes_in : ℕ → ℕ
writes_in n = 3 * n + 1

abbrev pub all_writes : Setup → ℕ
all_writes s = writes_in (length (plan s.policy s.levels))

-- the most steps that are left
abbrev pub left_at : Setup → Phase → ℕ
left_at s (AtKey task true) = all_writes s + 8 + length s.levels
left_at s (AtKey task false) = all_writes s + 5
left_at s (AtAsk job l) = all_writes s + 7 + (length s.levels - l)
left_at s (AtPlace job b d) = all_writes s + 6
left_at s (AtDist work) = all_writes s + 4
left_at s (AtTake work) = all_writes s + 3
left_at s (AtRun work) = all_writes s + 2
left_at s (AtStore v task b ending) = all_writes s + 1
left_at s (AtEnd v task ending) = 1
left_at s (AtWrite b ls f ending) = writes_in (length ls)
left_at s (AtFill b l ls f ending) = writes_in (length ls) + 2
left_at s (AtCommit b l ls f ending) = writes_in (length ls) + 1
left_at s p = 0

-- a phase of a job with so many steps left at most
abbrev pub Within : Setup → ℕ → Phase → Type 0
Within s n p = IsJob p × (left_at s p ≤ n)

within_cond : (s : Setup) (n : ℕ) (b : Bool) (p q : Phase) → (b ≡ true → Within s n p) → Within s n q → Within s n (cond b p q)
within_cond s n true p q x y = x refl
within_cond s n false p q x y = y

goes_le : (f : Refusal) (ls : List ℕ) → length (goes_on f ls) ≤ length ls
goes_le NoneYet ls = omega arith
goes_le (RefusedAt zero c) ls = omega arith
goes_le (RefusedAt (suc l) c) ls = omega arith

abbrev pub IsStart : What → Type 0
IsStart (Reserved l k n w) = Unit {0}
IsStart (Wrote l k b mode mark w) = Unit {0}
IsStart _ = ⊥

pub start_is : (s : Setup) (r : Request) (kind : LevelKind) (l : ℕ) (b : Bytes) (x : What) → Fits s r (start_write kind l b) x → IsStart x
start_is s r kind l b (Reserved j k n w) f = tt
start_is s r kind l b (Wrote j k d mode mark w) f = tt
start_is s r Disk l b _ f = absurd f
start_is s r Remote l b _ f = absurd f

module _ (s : Setup) where
  work_within : (job : Job) (miss : MissType) (m : ℕ) → Within s (all_writes s + 4) (work_phase job miss m)
  work_within job miss m = within_cond s (all_writes s + 4) job.client (AtDist (work_of job miss m)) (AtTake (work_of job miss m)) (λ e. (tt, omega arith)) (tt, omega arith)

  more_within : (n k : ℕ) (p : Phase) → n ≤ k → Within s n p → Within s k p
  more_within n k p le w = let is = w.1 in (w.0, omega arith)

  missed_within : (job : Job) (miss : MissType) (m : ℕ) → Within s (all_writes s + 5) (missed_phase job miss m)
  missed_within job miss m =
      within_cond s (all_writes s + 5) (not job.found.locally_preprocessed && job.client) (AtKey job.task false) (work_phase job miss m) (λ e. (tt, omega arith))
      (more_within (all_writes s + 4) (all_writes s + 5) (work_phase job miss m) (omega arith) (work_within job miss m))

  control_within : (c : Control) (job : Job) (m : ℕ) → Within s (all_writes s + 7 + length s.levels) (control_phase s c job m)
  control_within Default job m =
      within_cond s (all_writes s + 7 + length s.levels) (nat_lt 0 (length s.levels)) (AtAsk job 0) (missed_phase job Normal m) (λ e. (tt, omega arith))
      (more_within (all_writes s + 5) (all_writes s + 7 + length s.levels) (missed_phase job Normal m) (omega arith) (missed_within job Normal m))
  control_within ForceNoCache job m = more_within (all_writes s + 4) (all_writes s + 7 + length s.levels) (work_phase job (forced ForceNoCache) m) (omega arith) (work_within job (forced ForceNoCache) m)
  control_within ForceRecache job m = more_within (all_writes s + 4) (all_writes s + 7 + length s.levels) (work_phase job (forced ForceRecache) m) (omega arith) (work_within job (forced ForceRecache) m)

  next_within : (job : Job) (m l : ℕ) (miss : MissType) → Within s (all_writes s + 6 + (length s.levels - l)) (cond (nat_lt (suc l) (length s.levels)) (AtAsk job (suc l)) (missed_phase job miss m))
  next_within job m l miss =
      within_cond s (all_writes s + 6 + (length s.levels - l)) (nat_lt (suc l) (length s.levels)) (AtAsk job (suc l)) (missed_phase job miss m)
      (λ e. let lt = ltb-true (suc l) (length s.levels) e in (tt, omega arith))
      (more_within (all_writes s + 5) (all_writes s + 6 + (length s.levels - l)) (missed_phase job miss m) (omega arith) (missed_within job miss m))

  whole_within : (job : Job) (m l : ℕ) (a : Answer) → Within s (all_writes s + 6 + (length s.levels - l)) (whole_phase s job m l a)
  whole_within job m l (Hit b mark) =
      within_cond s (all_writes s + 6 + (length s.levels - l)) (is_late job m) (missed_phase job (asked_miss s job m (Hit b mark)) m) (AtPlace job b (m - job.at))
      (λ e. more_within (all_writes s + 5) (all_writes s + 6 + (length s.levels - l)) (missed_phase job (asked_miss s job m (Hit b mark)) m) (omega arith) (missed_within job (asked_miss s job m (Hit b mark)) m))
      (tt, omega arith)
  whole_within job m l Miss = next_within job m l (asked_miss s job m Miss)
  whole_within job m l (Refused c) = next_within job m l (asked_miss s job m (Refused c))
  whole_within job m l (Found p) = next_within job m l (asked_miss s job m (Found p))
  whole_within job m l (Size n c) = next_within job m l (asked_miss s job m (Size n c))

  placed_within : (r : Request) (job : Job) (b : List ℕ) (d m : ℕ) (p : Placing) → Within s (all_writes s + 5) (placed_phase s r job b d m p)
  placed_within r job b d m PlaceDone = (tt, omega arith)
  placed_within r job b d m (Missing name) = missed_within job CacheReadError m
  placed_within r job b d m (PlaceFault chain) = (tt, omega arith)

  judged_within : (j : Judged) (v : Verdict) (task : Task) (b : Bytes) (ending : Ending) → Within s (all_writes s + 1) (judged_phase j v task b ending)
  judged_within (IsStored os) v task b ending = (tt, omega arith)
  judged_within IsFailed v task b ending = (tt, omega arith)
  judged_within IsNotCached v task b ending = (tt, omega arith)
  judged_within IsNotCacheable v task b ending = (tt, omega arith)
  judged_within (IsBroken chain) v task b ending = (tt, omega arith)

  ran_within : (r : Request) (work : Work) (m : ℕ) (a : RunAnswer) → Within s (all_writes s + 1) (ran_phase s r work m a)
  ran_within r work m (RanOutput out) = judged_within (judge work.job work.miss out) _ work.job.task _ _
  ran_within r work m (RanError out) = (tt, omega arith)
  ran_within r work m (RanFault chain) = (tt, omega arith)

  dist_within : (r : Request) (work : Work) (m : ℕ) (d : DistAnswer) → Within s (all_writes s + 3) (dist_phase s r work m d)
  dist_within r work m (DistDone server out) =
      more_within (all_writes s + 1) (all_writes s + 3) (dist_phase s r work m (DistDone server out)) (omega arith) (judged_within (judge work.job work.miss out) _ work.job.task _ _)
  dist_within r work m (DistHttp text) = (tt, omega arith)
  dist_within r work m (DistTooLarge text) = (tt, omega arith)
  dist_within r work m (DistOther text) = (tt, omega arith)

  writes_within : (b : Bytes) (f : Refusal) (ls : List ℕ) (ending : Ending) → Within s (writes_in (length ls)) (next_writes b f ls (Some ending))
  writes_within b f ls ending = let le = goes_le f ls in (tt, omega arith)

  reserved_within : (b : Bytes) (l : ℕ) (ls : List ℕ) (f : Refusal) (ending : Ending) (w : Written) → Within s (writes_in (length ls) + 2) (reserved_phase b l ls f (Some ending) w)
  reserved_within b l ls f ending WriteDone = (tt, omega arith)
  reserved_within b l ls f ending (WriteRefused c) = more_within (writes_in (length ls)) (writes_in (length ls) + 2) (next_writes b (note f l c) ls (Some ending)) (omega arith) (writes_within b (note f l c) ls ending)

  filled_within : (b : Bytes) (l : ℕ) (ls : List ℕ) (f : Refusal) (ending : Ending) (w : Written) → Within s (writes_in (length ls) + 1) (filled_phase b l ls f (Some ending) w)
  filled_within b l ls f ending WriteDone = (tt, omega arith)
  filled_within b l ls f ending (WriteRefused c) = more_within (writes_in (length ls)) (writes_in (length ls) + 1) (next_writes b (note f l c) ls (Some ending)) (omega arith) (writes_within b (note f l c) ls ending)

  -- a job's phase that has fewer steps left than another
  abbrev pub Goes : Phase → Phase → Type 0
  Goes p q = IsJob q × (left_at s q < left_at s p)

  goes_by : (n : ℕ) (p q : Phase) → n < left_at s p → Within s n q → Goes p q
  goes_by n p q lt w = let le = w.1 in (w.0, omega arith)

  key_goes : (c : CompileRequest) (task : Task) (m : ℕ) (again first client : Bool) (step : KeyStep) → first ≡ again → Goes (AtKey task again) (key_phase s (Compile c) task m first client step)
  key_goes c task m true true client (Key found) e =
      goes_by (all_writes s + 7 + length s.levels) (AtKey task true) _ (omega arith) (control_within (control (Compile c) true) (record { task = task; found = found; at = m; client = client; first = true }) m)
  key_goes c task m false false client (Key found) e =
      goes_by (all_writes s + 4) (AtKey task false) _ (omega arith) (work_within (record { task = task; found = found; at = m; client = client; first = false }) (forced ForceRecache) m)
  key_goes c task m true true client (KeyError out) e = (tt, omega arith)
  key_goes c task m true true client (KeyFault chain) e = (tt, omega arith)
  key_goes c task m false false client (KeyError out) e = (tt, omega arith)
  key_goes c task m false false client (KeyFault chain) e = (tt, omega arith)
  key_goes c task m true false client step e = absurd (cc)
  key_goes c task m false true client step e = absurd (cc)

  pub job_goes : (c : CompileRequest) (p : Phase) (m : ℕ) (x : What) → IsJob p → is_over p ≡ false → Fits s (Compile c) (due_at s (Compile c) p) x → Goes p (after s (Compile c) p m x)
  job_goes c (AtKey task again) m (Keyed first client step) j o f = key_goes c task m again first client step f.0
  job_goes c (AtAsk job l) m (Asked i k mode a hs) j o f = goes_by (all_writes s + 6 + (length s.levels - l)) (AtAsk job l) _ (omega arith) (whole_within job m l a)
  job_goes c (AtPlace job b d) m (Placed p) j o f = goes_by (all_writes s + 5) (AtPlace job b d) _ (omega arith) (placed_within (Compile c) job b d m p)
  job_goes c (AtDist work) m (Dist d) j o f = goes_by (all_writes s + 3) (AtDist work) _ (omega arith) (dist_within (Compile c) work m d)
  job_goes c (AtTake work) m TokenTaken j o f = (tt, omega arith)
  job_goes c (AtRun work) m (Ran a) j o f = goes_by (all_writes s + 1) (AtRun work) _ (omega arith) (ran_within (Compile c) work m a)
  job_goes c (AtEnd v task ending) m (Outcome w t) j o f = (tt, omega arith)
  job_goes c (AtStore v task b ending) m (Outcome w t) j o f = (tt, omega arith)
  job_goes c (AtWrite b (l ∷ ls) g (Some ending)) m (Reserved i k n w) j o f = goes_by (writes_in (length ls) + 2) (AtWrite b (l ∷ ls) g (Some ending)) _ (omega arith) (reserved_within b l ls g ending w)
  job_goes c (AtWrite b (l ∷ ls) g (Some ending)) m (Wrote i k d mode mark w) j o f = goes_by (writes_in (length ls)) (AtWrite b (l ∷ ls) g (Some ending)) (next_writes b (noted w g l) ls (Some ending)) (omega arith) (writes_within b (noted w g l) ls ending)
  job_goes c (AtWrite b (l ∷ ls) g (Some ending)) m x j o f = absurd (start_is s (Compile c) (kind_at s.levels l) l b x f)
  job_goes c (AtWrite b [] g (Some ending)) m (WriteEnded put hs) j o f = (tt, omega arith)
  job_goes c (AtFill b l ls g (Some ending)) m (Filled i k d mark w) j o f = goes_by (writes_in (length ls) + 1) (AtFill b l ls g (Some ending)) _ (omega arith) (filled_within b l ls g ending w)
  job_goes c (AtCommit b l ls g (Some ending)) m (Committed i k d w) j o f = goes_by (writes_in (length ls)) (AtCommit b l ls g (Some ending)) (next_writes b (noted w g l) ls (Some ending)) (omega arith) (writes_within b (noted w g l) ls ending)
  job_goes c (AtFinish ns last) m x j o f = absurd (cc)
  job_goes c AtBegin m x j o f = absurd j
  job_goes c (AtSend g) m x j o f = absurd j
  job_goes c (AtStarted task) m x j o f = absurd j
  job_goes c (AtWrite b ls g None) m x j o f = absurd j
  job_goes c (AtFill b l ls g None) m x j o f = absurd j
  job_goes c (AtCommit b l ls g None) m x j o f = absurd j
  job_goes c (RawAsk l k) m x j o f = absurd j
  job_goes c (PathAsk k) m x j o f = absurd j
  job_goes c (PreAsk l k) m x j o f = absurd j
  job_goes c (PrePut b ls g) m x j o f = absurd j
  job_goes c (SizeAsk l stats zs) m x j o f = absurd j
  job_goes c (AtEnded left) m x j o f = absurd j
  job_goes c AtOver m x j o f = absurd j
  job_goes c _ m x j o f = absurd f
