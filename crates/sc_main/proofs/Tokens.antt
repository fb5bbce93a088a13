-- A token is held just while a run is open: of the first request's phases only that before a Ran holds one.
use Rattle.std.proofs.Common.{◌≡◌, ℕ, suc, ◌+◌, ◌<◌, Bool, true, false, cond, ◌&&◌, not, List, [], ◌∷◌, length, Some, None, refl, arith, nat_lt}
use Rattle.sc_daemon.specs.Standings.{standing_of}
use Rattle.sc_daemon.specs.declared.standing.Standing.TheVariants.{Takes}
use Rattle.sc_main.specs.Progress.{held_token}
use Rattle.sc_model.proofs.Steps.{start_is}
use Rattle.sc_model.specs.Afterwards.{with_size}
use Rattle.sc_model.specs.Dues.{Due, ToFinish, ToSend, is_disk_alone, kind_at}
use Rattle.sc_model.specs.Follows.{Fits}
use Rattle.sc_model.specs.Job.{forced, is_late}
use Rattle.sc_model.specs.Judging.{IsStored, Judged, judge}
use Rattle.sc_model.specs.Conns.{free_after}
use Rattle.sc_model.specs.DueAt.{due_at}
use Rattle.sc_model.specs.Phases.{after, asked_miss, begin_phase, control_phase, dist_phase, end_write_phase, judged_phase, key_phase, missed_phase, path_phase, placed_phase, pre_phase, ran_phase, raw_phase, size_phase, stopped, whole_phase, work_phase}
use Rattle.sc_model.specs.Script.{Control, Default, ForceNoCache, ForceRecache, Setup, control}
use Rattle.sc_model.specs.declared.event.Answer.{Answer}
use Rattle.sc_model.specs.declared.event.Answer.TheVariants.{Found as FoundAt, Hit, Miss, Refused, Size as SizeIs}
use Rattle.sc_model.specs.declared.event.DistAnswer.{DistAnswer}
use Rattle.sc_model.specs.declared.event.DistAnswer.TheVariants.{Done as DistDone, Http as DistHttp, Other as DistOther, TooLarge as DistTooLarge}
use Rattle.sc_model.specs.declared.event.KeyStep.{KeyStep}
use Rattle.sc_model.specs.declared.event.KeyStep.TheVariants.{Fault as KeyFault, Key, ProcessError as KeyError}
use Rattle.sc_model.specs.declared.event.MissType.{MissType}
use Rattle.sc_model.specs.declared.event.MissType.TheVariants.{CacheReadError, Normal}
use Rattle.sc_model.specs.declared.event.Parsed.TheVariants.{CannotCache, NotCompile, Started, Unsupported}
use Rattle.sc_model.specs.declared.event.Placing.{Placing}
use Rattle.sc_model.specs.declared.event.Placing.TheVariants.{Done as PlaceDone, Fault as PlaceFault, Missing}
use Rattle.sc_model.specs.declared.event.RunAnswer.{RunAnswer}
use Rattle.sc_model.specs.declared.event.RunAnswer.TheVariants.{Fault as RanFault, Output as RanOutput, ProcessError as RanError}
use Rattle.sc_model.specs.declared.event.Task.{Task}
use Rattle.sc_model.specs.declared.event.Told.{Told}
use Rattle.sc_model.specs.declared.event.Told.TheVariants.{Compile as TellsCompile, Dist as TellsDist, Handshake as TellsHandshake, Nothing as TellsNothing, Stats as TellsStats, Valid as TellsValid}
use Rattle.sc_model.specs.declared.event.Verdict.{Verdict}
use Rattle.sc_model.specs.declared.event.What.{What}
use Rattle.sc_model.specs.declared.event.What.TheVariants.{Asked, Began, Committed, Dist, Filled, Keyed, Outcome, Placed, Ran, Reserved, Sent, TokenTaken, TooLong, WriteEnded, Wrote}
use Rattle.sc_model.specs.declared.event.Written.TheVariants.{Done as WriteDone, Refused as WriteRefused}
use Rattle.sc_model.specs.declared.level.Put.{Put}
use Rattle.sc_model.specs.declared.message.Request.{Request}
use Rattle.sc_model.specs.declared.message.Request.TheVariants.{Compile, DistStatus, GetStats, RecordStats, Shutdown, StorageGetPath as GetPath, StorageGetPreprocessorEntry as GetPre, StorageGetRaw as GetRaw, StorageHandshake as Handshake, StoragePutPreprocessorEntry as PutPre, StoragePutRaw as PutRaw, ZeroStats}
use Rattle.sc_model.specs.declared.message.Response.{Response}
use Rattle.sc_model.specs.declared.phase.Bytes.{Bytes}
use Rattle.sc_model.specs.declared.phase.Ending.{Ending}
use Rattle.sc_model.specs.declared.phase.Job.{Job}
use Rattle.sc_model.specs.declared.phase.Phase.{Phase}
use Rattle.sc_model.specs.declared.phase.Phase.TheVariants.{AtAsk, AtBegin, AtCommit, AtDist, AtEnd, AtFill, AtFinish, AtKey, AtPlace, AtRun, AtSend, AtStarted, AtStore, AtTake, AtWrite, PathAsk, PreAsk, PrePut, RawAsk, SizeAsk}
use Rattle.sc_model.specs.declared.phase.Sized.{Sized}
use Rattle.sc_model.specs.declared.phase.Work.{Work}
use Rattle.sc_stats.specs.declared.counters.ServerStats.{ServerStats}

-- of two phases the one that is taken
of_two : (b : Bool) (p q : Phase) → held_token p ≡ 0 → held_token q ≡ 0 → held_token (cond b p q) ≡ 0
of_two true p q x y = x
of_two false p q x y = y

-- a phase that holds no token leaves those that are free
calm : (free total : ℕ) (q : Phase) → held_token q ≡ 0 → free + 0 ≡ total → free + held_token q ≡ total
calm free total q none h = omega (arith, none, h)

stopped_none : (d : Due) → held_token (stopped d) ≡ 0
stopped_none (ToSend f) = refl
stopped_none (ToFinish ns last) = refl
stopped_none _ = refl

module _ (s : Setup) where
  work_calm : (job : Job) (miss : MissType) (m : ℕ) → held_token (work_phase job miss m) ≡ 0
  work_calm job miss m = of_two job.client _ _ refl refl

  missed_calm : (job : Job) (miss : MissType) (m : ℕ) → held_token (missed_phase job miss m) ≡ 0
  missed_calm job miss m = of_two (not job.found.locally_preprocessed && job.client) _ _ refl (work_calm job miss m)

  control_calm : (c : Control) (job : Job) (m : ℕ) → held_token (control_phase s c job m) ≡ 0
  control_calm Default job m = of_two (nat_lt 0 (length s.levels)) _ _ refl (missed_calm job Normal m)
  control_calm ForceNoCache job m = work_calm job (forced ForceNoCache) m
  control_calm ForceRecache job m = work_calm job (forced ForceRecache) m

  key_calm : (r : Request) (task : Task) (m : ℕ) (first client : Bool) (step : KeyStep) → held_token (key_phase s r task m first client step) ≡ 0
  key_calm r task m first client (Key found) = control_calm (control r first) _ m
  key_calm r task m first client (KeyError out) = refl
  key_calm r task m first client (KeyFault chain) = refl

  asks_calm : (job : Job) (m l : ℕ) (a : Answer) → held_token (cond (nat_lt (suc l) (length s.levels)) (AtAsk job (suc l)) (missed_phase job (asked_miss s job m a) m)) ≡ 0
  asks_calm job m l a = of_two (nat_lt (suc l) (length s.levels)) _ _ refl (missed_calm job (asked_miss s job m a) m)

  whole_calm : (job : Job) (m l : ℕ) (a : Answer) → held_token (whole_phase s job m l a) ≡ 0
  whole_calm job m l (Hit b mark) = of_two (is_late job m) _ _ (missed_calm job (asked_miss s job m (Hit b mark)) m) refl
  whole_calm job m l Miss = asks_calm job m l Miss
  whole_calm job m l (Refused c) = asks_calm job m l (Refused c)
  whole_calm job m l (FoundAt p) = asks_calm job m l (FoundAt p)
  whole_calm job m l (SizeIs k c) = asks_calm job m l (SizeIs k c)

  next_calm : (l : ℕ) (p : Phase) (f : Response) → held_token p ≡ 0 → held_token (cond (nat_lt l (length s.levels)) p (AtSend f)) ≡ 0
  next_calm l p f e = of_two (nat_lt l (length s.levels)) p (AtSend f) e refl

  raw_calm : (l : ℕ) (k : List ℕ) (a : Answer) → held_token (raw_phase s l k a) ≡ 0
  raw_calm l k (Hit b mark) = refl
  raw_calm l k _ = next_calm (suc l) (RawAsk (suc l) k) _ refl

  path_calm : (a : Answer) → held_token (path_phase a) ≡ 0
  path_calm (FoundAt p) = refl
  path_calm _ = refl

  pre_calm : (l : ℕ) (k : List ℕ) (a : Answer) → held_token (pre_phase s l k a) ≡ 0
  pre_calm l k (Hit b mark) = refl
  pre_calm l k (Refused c) = refl
  pre_calm l k _ = next_calm (suc l) (PreAsk (suc l) k) _ refl

  size_calm : (r : Request) (stats : ServerStats) (zs : List Sized) (l : ℕ) → held_token (size_phase s r stats zs l) ≡ 0
  size_calm r stats zs l = next_calm (suc l) (SizeAsk (suc l) stats zs) _ refl

  begin_calm : (r : Request) (told : Told) → held_token (begin_phase s r told) ≡ 0
  begin_calm (Compile c) (TellsCompile (Started task)) = refl
  begin_calm (Compile c) (TellsCompile NotCompile) = refl
  begin_calm (Compile c) (TellsCompile (CannotCache why extra)) = refl
  begin_calm (Compile c) (TellsCompile (Unsupported text)) = refl
  begin_calm (GetRaw k) told = next_calm 0 (RawAsk 0 k) _ refl
  begin_calm (PutRaw k b) told = refl
  begin_calm (GetPath k) told = of_two (is_disk_alone s.policy s.levels) _ _ refl refl
  begin_calm (GetPre k) told = next_calm 0 (PreAsk 0 k) _ refl
  begin_calm (PutPre k b) (TellsValid true) = refl
  begin_calm (PutPre k b) (TellsValid false) = refl
  begin_calm GetStats (TellsStats stats) = next_calm 0 (SizeAsk 0 stats []) _ refl
  begin_calm Shutdown (TellsStats stats) = next_calm 0 (SizeAsk 0 stats []) _ refl
  begin_calm DistStatus (TellsDist info) = refl
  begin_calm Handshake (TellsHandshake info) = refl
  begin_calm ZeroStats TellsNothing = refl
  begin_calm (RecordStats stats) TellsNothing = refl
  begin_calm _ _ = refl

  placed_calm : (r : Request) (job : Job) (b : List ℕ) (d m : ℕ) (p : Placing) → held_token (placed_phase s r job b d m p) ≡ 0
  placed_calm r job b d m PlaceDone = refl
  placed_calm r job b d m (Missing name) = missed_calm job CacheReadError m
  placed_calm r job b d m (PlaceFault chain) = refl

  judged_calm : (j : Judged) (v : Verdict) (task : Task) (b : Bytes) (ending : Ending) → held_token (judged_phase j v task b ending) ≡ 0
  judged_calm (IsStored os) v task b ending = refl
  judged_calm _ v task b ending = refl

  ran_calm : (r : Request) (work : Work) (m : ℕ) (a : RunAnswer) → held_token (ran_phase s r work m a) ≡ 0
  ran_calm r work m (RanOutput out) = judged_calm (judge work.job work.miss out) _ work.job.task _ _
  ran_calm r work m (RanError out) = refl
  ran_calm r work m (RanFault chain) = refl

  dist_calm : (r : Request) (work : Work) (m : ℕ) (d : DistAnswer) → held_token (dist_phase s r work m d) ≡ 0
  dist_calm r work m (DistDone server out) = judged_calm (judge work.job work.miss out) _ work.job.task _ _
  dist_calm r work m (DistHttp text) = refl
  dist_calm r work m (DistTooLarge text) = refl
  dist_calm r work m (DistOther text) = refl

  ended_calm : (e : _) (put : Put) → held_token (end_write_phase e put) ≡ 0
  ended_calm None put = refl
  ended_calm (Some ending) put = refl

  pub token_step : (r : Request) (p : Phase) (m : ℕ) (x : What) (free total : ℕ) → Fits s r (due_at s r p) x → (standing_of p ≡ Takes → 0 < free) → free + held_token p ≡ total → free_after free x + held_token (after s r p m x) ≡ total
  token_step r AtBegin m (Began q told) n t f g h = calm n t (begin_phase s r told) (begin_calm r told) h
  token_step r (AtSend a) m (Sent b) n t f g h = h
  token_step r (AtSend a) m (TooLong z) n t f g h = h
  token_step r (AtStarted task) m (Sent b) n t f g h = h
  token_step r (AtStarted task) m (TooLong z) n t f g h = h
  token_step r (AtKey task again) m (Keyed first client step) n t f g h = calm n t (key_phase s r task m first client step) (key_calm r task m first client step) h
  token_step r (AtAsk job l) m (Asked j k mode a hs) n t f g h = calm n t (whole_phase s job m l a) (whole_calm job m l a) h
  token_step r (AtPlace job b d) m (Placed p) n t f g h = calm n t (placed_phase s r job b d m p) (placed_calm r job b d m p) h
  token_step r (AtDist work) m (Dist d) n t f g h = calm n t (dist_phase s r work m d) (dist_calm r work m d) h
  token_step r (AtTake work) m TokenTaken n t f g h = let some : 0 < n = g refl in omega (arith, some, h)
  token_step r (AtRun work) m (Ran a) n t f g h = let none = ran_calm r work m a in omega (arith, none, h)
  token_step r (AtEnd v task ending) m (Outcome w k) n t f g h = h
  token_step r (AtStore v task b ending) m (Outcome w k) n t f g h = h
  token_step r (AtWrite b (l ∷ ls) a ending) m (Reserved j k z WriteDone) n t f g h = h
  token_step r (AtWrite b (l ∷ ls) a ending) m (Reserved j k z (WriteRefused c)) n t f g h = h
  token_step r (AtWrite b (l ∷ ls) a ending) m (Wrote j k d mode mark w) n t f g h = h
  token_step r (AtWrite b (l ∷ ls) a ending) m x n t f g h = absurd (start_is s r (kind_at s.levels l) l b x f)
  token_step r (AtWrite b [] a ending) m (WriteEnded put hs) n t f g h = calm n t (end_write_phase ending put) (ended_calm ending put) h
  token_step r (AtFill b l ls a ending) m (Filled j k d mark WriteDone) n t f g h = h
  token_step r (AtFill b l ls a ending) m (Filled j k d mark (WriteRefused c)) n t f g h = h
  token_step r (AtCommit b l ls a ending) m (Committed j k d w) n t f g h = h
  token_step r (AtFinish [] last) m (Sent b) n t f g h = h
  token_step r (AtFinish (line ∷ ns) last) m (Sent b) n t f g h = h
  token_step r (AtFinish [] last) m (TooLong z) n t f g h = h
  token_step r (AtFinish (line ∷ ns) last) m (TooLong z) n t f g h = h
  token_step r (RawAsk l k) m (Asked j i mode a hs) n t f g h = calm n t (raw_phase s l k a) (raw_calm l k a) h
  token_step r (PathAsk k) m (Asked j i mode a hs) n t f g h = calm n t (path_phase a) (path_calm a) h
  token_step r (PreAsk l k) m (Asked j i mode a hs) n t f g h = calm n t (pre_phase s l k a) (pre_calm l k a) h
  token_step r (PrePut b (l ∷ ls) a) m (Wrote j k d mode mark w) n t f g h = h
  token_step r (PrePut b [] a) m (Sent z) n t f g h = h
  token_step r (PrePut b [] a) m (TooLong z) n t f g h = h
  token_step r (SizeAsk l stats zs) m (Asked j k mode a hs) n t f g h = calm n t (size_phase s r stats (with_size zs a) l) (size_calm r stats (with_size zs a) l) h
  token_step _ _ _ _ _ _ f _ _ = absurd f
