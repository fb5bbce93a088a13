-- Open runs.
use Rattle.std.proofs.Common.{◌≡◌, ℕ, suc, ◌+◌, ◌<◌, ◌⊎◌, ⊎_elim, inl, inr, Bool, true, false, cond, ◌&&◌, eqb, List, [], ◌∷◌, length, refl, sym, ap, ◌∙◌, subst, arith, not, nat_lt}
use Rattle.sc_model.specs.Afterwards.{after_asked, after_began, after_control, after_send, after_sent, after_wrote, missed, start_work, stop}
use Rattle.sc_model.specs.Dues.{Due, ToAsk, ToDist, ToFinish, ToKey, ToPlace, ToRun, ToSend, ToTake, ask_next, is_disk_alone, kind_at, left, left_pre, next_pre, next_write, start_write}
use Rattle.sc_model.specs.Follows.{Fits, due}
use Rattle.sc_model.specs.Job.{At, Own, bytes_of, is_late, job_of, put_bytes, refused}
use Rattle.sc_model.specs.Conns.{free_after}
use Rattle.sc_model.specs.Plan.{plan, pre_plan}
use Rattle.sc_model.specs.Script.{Control, Default, ForceNoCache, ForceRecache, Setup, control}
use Rattle.sc_model.specs.Trace.{all, opened, without}
use Rattle.sc_model.specs.declared.event.Answer.{Answer}
use Rattle.sc_model.specs.declared.event.Answer.TheVariants.{Found as FoundAt, Hit, Refused}
use Rattle.sc_model.specs.declared.event.DistAnswer.TheVariants.{Other as DistOther}
use Rattle.sc_model.specs.declared.event.KeyStep.TheVariants.{Fault as KeyFault, Key, ProcessError as KeyError}
use Rattle.sc_model.specs.declared.event.Mode.{Mode}
use Rattle.sc_model.specs.declared.event.Mode.TheVariants.{Path, Pre, Raw, Size as Sizes, Whole}
use Rattle.sc_model.specs.declared.event.Owner.TheVariants.{Request as OfRequest}
use Rattle.sc_model.specs.declared.event.Parsed.TheVariants.{CannotCache, NotCompile, Started, Unsupported}
use Rattle.sc_model.specs.declared.event.Placing.TheVariants.{Done as PlaceDone, Fault as PlaceFault, Missing}
use Rattle.sc_model.specs.declared.event.RunAnswer.{RunAnswer}
use Rattle.sc_model.specs.declared.event.Told.{Told}
use Rattle.sc_model.specs.declared.event.Told.TheVariants.{Compile as TellsCompile, Dist as TellsDist, Handshake as TellsHandshake, Nothing as TellsNothing, Stats as TellsStats, Valid as TellsValid}
use Rattle.sc_model.specs.declared.event.Verdict.TheVariants.{CacheMiss}
use Rattle.sc_model.specs.declared.event.What.{What}
use Rattle.sc_model.specs.declared.event.What.TheVariants.{Asked, Began, Committed, Dist, Filled, Keyed, Outcome, Placed, Ran, Reserved, Sent, TokenTaken, TooLong, WriteEnded, Wrote}
use Rattle.sc_model.specs.declared.event.Written.TheVariants.{Done as WriteDone, Refused as WriteRefused}
use Rattle.sc_model.specs.declared.level.LevelKind.{LevelKind}
use Rattle.sc_model.specs.declared.level.LevelKind.TheVariants.{Disk, Remote}
use Rattle.sc_model.specs.declared.message.CompileResponse.TheVariants.{CompileStarted, UnhandledCompile, UnsupportedCompiler}
use Rattle.sc_entry.specs.declared.get_path_result.GetPathResult.TheVariants.{Unsupported as PathUnsupported}
use Rattle.sc_model.specs.declared.message.Request.{Request}
use Rattle.sc_model.specs.declared.message.Request.TheVariants.{Compile, DistStatus, GetStats, RecordStats, Shutdown, StorageGetPath as GetPath, StorageGetPreprocessorEntry as GetPre, StorageGetRaw as GetRaw, StorageHandshake as Handshake, StoragePutPreprocessorEntry as PutPre, StoragePutRaw as PutRaw, ZeroStats}
use Rattle.sc_model.specs.declared.message.Response.{Response}
use Rattle.sc_model.specs.declared.message.Response.TheVariants.{Compile as Answered, StorageGetPath as PathReply}
use Rattle.sc_model.specs.declared.phase.Bytes.{Bytes}
use Rattle.sc_model.specs.declared.phase.Job.{Job}
use Rattle.sc_model.specs.declared.phase.Refusal.{Refusal}
use Rattle.sc_model.specs.declared.phase.Refusal.TheVariants.{NoneYet}
use Rattle.std.proofs.lemmas.Bool.{and_from, and_parts, both_ways, cases_Bool, eq-eqb, eqb-true}

abbrev pub Opens : ℕ → ℕ → List (ℕ × ℕ) → Type 0
Opens c n [] = ⊥
Opens c n (o ∷ os) = ((o.0 ≡ c) × (o.1 ≡ n)) ⊎ Opens c n os

abbrev is : ℕ → ℕ → ℕ × ℕ → Bool
is c n o = eqb (o.0) c && eqb (o.1) n

is_true : (c n : ℕ) (o : ℕ × ℕ) → is c n o ≡ true → (o.0 ≡ c) × (o.1 ≡ n)
is_true c n o e = let p = and_parts (eqb (o.0) c) (eqb (o.1) n) e in (eqb-true (o.0) c p.0, eqb-true (o.1) n p.1)

is_from : (c n : ℕ) (o : ℕ × ℕ) → (o.0 ≡ c) × (o.1 ≡ n) → is c n o ≡ true
is_from c n o p = and_from (eqb (o.0) c) (eqb (o.1) n) (eq-eqb (o.0) c p.0) (eq-eqb (o.1) n p.1)

pub length_without : (c n : ℕ) (os : List (ℕ × ℕ)) → Opens c n os → suc (length (without c n os)) ≡ length os
length_without c n [] h = absurd h
length_without c n (o ∷ os) h =
    let ih = length_without c n os in
    ⊎_elim (λ (e : is c n o ≡ true). ap (λ b. suc (length (cond b os (o ∷ without c n os)))) e)
    (λ (e : is c n o ≡ false). ap (λ b. suc (length (cond b os (o ∷ without c n os)))) e
    ∙ ⊎_elim (λ (p : (o.0 ≡ c) × (o.1 ≡ n)). absurd (both_ways (is c n o) e (is_from c n o p))) (λ (g : Opens c n os). ap suc (ih g)) h)
    (cases_Bool (is c n o))

pub without_keeps : (d m c n : ℕ) (os : List (ℕ × ℕ)) → ((d ≡ c) × (m ≡ n) → ⊥) → Opens c n os → Opens c n (without d m os)
without_keeps d m c n [] ne h = h
without_keeps d m c n (o ∷ os) ne h =
    let ih = without_keeps d m c n os ne in
    ⊎_elim (λ (e : is d m o ≡ true). subst (λ b. Opens c n (cond b os (o ∷ without d m os))) (sym e)
    (⊎_elim (λ (p : (o.0 ≡ c) × (o.1 ≡ n)). let q = is_true d m o e in absurd (ne (sym q.0 ∙ p.0, sym q.1 ∙ p.1))) (λ (g : Opens c n os). g) h))
    (λ (e : is d m o ≡ false). subst (λ b. Opens c n (cond b os (o ∷ without d m os))) (sym e)
    (⊎_elim (λ (p : (o.0 ≡ c) × (o.1 ≡ n)). inl p) (λ (g : Opens c n os). inr (ih g)) h))
    (cases_Bool (is d m o))

-- an event of another request keeps what is open
pub opened_keeps : (d m : ℕ) (x : What) (c n : ℕ) (os : List (ℕ × ℕ)) → ((d ≡ c) × (m ≡ n) → ⊥) → Opens c n os → Opens c n (opened (OfRequest d m) x os)
opened_keeps d m TokenTaken c n os ne h = inr h
opened_keeps d m (Ran a) c n os ne h = without_keeps d m c n os ne h
opened_keeps d m _ c n os ne h = h

-- a due that is no run
abbrev Quiet : Due → Type 0
Quiet ToRun = ⊥
Quiet _ = Unit {0}

quiet_cond : (b : Bool) (x y : Due) → Quiet x → Quiet y → Quiet (cond b x y)
quiet_cond true x y e f = e
quiet_cond false x y e f = f

quiet_stop : (d : Due) → Quiet (stop d)
quiet_stop (ToSend f) = tt
quiet_stop (ToFinish ns last) = tt
quiet_stop _ = tt

quiet_sent : (g : Response) → Quiet (after_sent g)
quiet_sent (Answered CompileStarted) = tt
quiet_sent (Answered UnhandledCompile) = tt
quiet_sent (Answered (UnsupportedCompiler text)) = tt
quiet_sent _ = tt

quiet_send : (g : Response) (d : Due) → Quiet (after_send g d)
quiet_send g (ToFinish [] last) = tt
quiet_send g (ToFinish (n ∷ ns) last) = tt
quiet_send g _ = quiet_sent g

module _ (s : Setup) where
  quiet_start : (kind : LevelKind) (l : ℕ) (b : Bytes) → Quiet (start_write kind l b)
  quiet_start Disk l b = tt
  quiet_start Remote l b = tt

  quiet_write : (b : Bytes) (f : Refusal) (ls : List ℕ) → Quiet (next_write s b f ls)
  quiet_write b f [] = tt
  quiet_write b f (l ∷ ls) = quiet_start (kind_at s.levels l) l b

  quiet_pre : (b : Bytes) (f : Refusal) (ls : List ℕ) → Quiet (next_pre s b f ls)
  quiet_pre b f [] = tt
  quiet_pre b f (l ∷ ls) = tt

  quiet_work : (job : Job) → Quiet (start_work job)
  quiet_work job = quiet_cond job.client ToDist ToTake tt tt

  quiet_missed : (job : Job) → Quiet (missed job)
  quiet_missed job = quiet_cond (not job.found.locally_preprocessed && job.client) (ToKey false) (start_work job) tt (quiet_work job)

  quiet_next : (mode : Mode) (l : ℕ) (k : List ℕ) (last : Due) → Quiet last → Quiet (ask_next s mode l k last)
  quiet_next mode l k last h = quiet_cond (nat_lt l (length s.levels)) (ToAsk mode l k) last tt h

  quiet_control : (c : Control) (job : Job) → Quiet (after_control s c job)
  quiet_control Default job = quiet_next Whole 0 job.found.key (missed job) (quiet_missed job)
  quiet_control ForceNoCache job = quiet_work job
  quiet_control ForceRecache job = quiet_work job

  quiet_began : (r : Request) (told : Told) → Quiet (after_began s r told)
  quiet_began (Compile c) (TellsCompile (Started task)) = tt
  quiet_began (Compile c) (TellsCompile NotCompile) = tt
  quiet_began (Compile c) (TellsCompile (CannotCache why extra)) = tt
  quiet_began (Compile c) (TellsCompile (Unsupported text)) = tt
  quiet_began (GetRaw k) told = quiet_next Raw 0 k _ tt
  quiet_began (PutRaw k b) told = quiet_write (put_bytes (PutRaw k b)) NoneYet (plan s.policy s.levels)
  quiet_began (GetPath k) told = quiet_cond (is_disk_alone s.policy s.levels) (ToAsk Path 0 k) (ToSend (PathReply PathUnsupported)) tt tt
  quiet_began (GetPre k) told = quiet_next Pre 0 k _ tt
  quiet_began (PutPre k b) (TellsValid true) = quiet_pre (put_bytes (PutPre k b)) NoneYet (pre_plan s.policy s.levels)
  quiet_began (PutPre k b) (TellsValid false) = tt
  quiet_began GetStats (TellsStats stats) = quiet_next Sizes 0 [] _ tt
  quiet_began Shutdown (TellsStats stats) = quiet_next Sizes 0 [] _ tt
  quiet_began DistStatus (TellsDist info) = tt
  quiet_began Handshake (TellsHandshake info) = tt
  quiet_began ZeroStats TellsNothing = tt
  quiet_began (RecordStats stats) TellsNothing = tt
  quiet_began _ _ = tt

  quiet_asked : (r : Request) (own : List Own) (m l : ℕ) (k : List ℕ) (mode : Mode) (a : Answer) → Quiet (after_asked s r own m l k mode a)
  quiet_asked r own m l k Whole (Hit b mark) = quiet_cond (is_late (job_of own) m) (missed (job_of own)) ToPlace (quiet_missed (job_of own)) tt
  quiet_asked r own m l k Whole _ = quiet_next Whole (suc l) (job_of own).found.key (missed (job_of own)) (quiet_missed (job_of own))
  quiet_asked r own m l k Raw (Hit b mark) = tt
  quiet_asked r own m l k Raw _ = quiet_next Raw (suc l) k _ tt
  quiet_asked r own m l k Path (FoundAt p) = tt
  quiet_asked r own m l k Path _ = tt
  quiet_asked r own m l k Pre (Hit b mark) = tt
  quiet_asked r own m l k Pre (Refused c) = tt
  quiet_asked r own m l k Pre _ = quiet_next Pre (suc l) k _ tt
  quiet_asked r own m l k Sizes a = quiet_next Sizes (suc l) k _ tt

  quiet_wrote : (r : Request) (own : List Own) (mode : Mode) → Quiet (after_wrote s r own mode)
  quiet_wrote r own Pre = quiet_pre (bytes_of s r own) (refused own) (left_pre s own)
  quiet_wrote r own _ = quiet_write (bytes_of s r own) (refused own) (left s own)

  not_run : (d : Due) → Quiet d → d ≡ ToRun → ⊥
  not_run d q e = subst Quiet e q

  -- a run is due only right after its token was taken
  pub opened_own : (r : Request) (m : ℕ) (x : What) (own : List Own) (c n : ℕ) (os : List (ℕ × ℕ)) → due s r (At m x ∷ own) ≡ ToRun → Opens c n (opened (OfRequest c n) x os)
  opened_own r m TokenTaken own c n os e = inl (refl, refl)
  opened_own r m (Began q told) own c n os e = absurd (not_run (after_began s r told) (quiet_began r told) e)
  opened_own r m (Keyed first client (Key found)) own c n os e = absurd (not_run _ (quiet_control (control r first) _) e)
  opened_own r m (Keyed first client (KeyError out)) own c n os e = (cc)
  opened_own r m (Keyed first client (KeyFault chain)) own c n os e = (cc)
  opened_own r m (Asked l k mode a hs) own c n os e = absurd (not_run _ (quiet_asked r own m l k mode a) e)
  opened_own r m (Placed PlaceDone) own c n os e = (cc)
  opened_own r m (Placed (Missing name)) own c n os e = absurd (not_run _ (quiet_missed (job_of own)) e)
  opened_own r m (Placed (PlaceFault chain)) own c n os e = (cc)
  opened_own r m (Ran a) own c n os e = (cc)
  opened_own r m (Dist (DistOther text)) own c n os e = (cc)
  opened_own r m (Dist _) own c n os e = (cc)
  opened_own r m (Outcome (CacheMiss miss dist d) task) own c n os e = absurd (not_run _ (quiet_write (bytes_of s r own) NoneYet (plan s.policy s.levels)) e)
  opened_own r m (Outcome _ task) own c n os e = (cc)
  opened_own r m (Reserved l k z WriteDone) own c n os e = (cc)
  opened_own r m (Reserved l k z (WriteRefused w)) own c n os e = absurd (not_run _ (quiet_write (bytes_of s r own) (refused (At m (Reserved l k z (WriteRefused w)) ∷ own)) (left s (At m (Reserved l k z (WriteRefused w)) ∷ own))) e)
  opened_own r m (Filled l k b mark WriteDone) own c n os e = (cc)
  opened_own r m (Filled l k b mark (WriteRefused w)) own c n os e = absurd (not_run _ (quiet_write (bytes_of s r own) (refused (At m (Filled l k b mark (WriteRefused w)) ∷ own)) (left s (At m (Filled l k b mark (WriteRefused w)) ∷ own))) e)
  opened_own r m (Committed l k b w) own c n os e = absurd (not_run _ (quiet_write (bytes_of s r own) (refused (At m (Committed l k b w) ∷ own)) (left s (At m (Committed l k b w) ∷ own))) e)
  opened_own r m (Wrote l k b mode mark w) own c n os e = absurd (not_run _ (quiet_wrote r (At m (Wrote l k b mode mark w) ∷ own) mode) e)
  opened_own (Compile q) m (WriteEnded put hs) own c n os e = (cc)
  opened_own _ m (WriteEnded put hs) own c n os e = (cc)
  opened_own r m (Sent g) own c n os e = absurd (not_run _ (quiet_send g (due s r own)) e)
  opened_own r m (TooLong z) own c n os e = absurd (not_run _ (quiet_stop (due s r own)) e)
  opened_own r m _ own c n os e = (cc)

  fits_ran : (r : Request) (d : Due) (a : RunAnswer) → Fits s r d (Ran a) → d ≡ ToRun
  fits_ran r ToRun a f = refl
  fits_ran r _ a f = absurd f

  fits_take : (r : Request) (d : Due) → Fits s r d TokenTaken → d ≡ ToTake
  fits_take r ToTake f = refl
  fits_take r _ f = absurd f

  -- the tokens that are free and those that are out are all
  pub tokens_step : (r : Request) (d : Due) (c n : ℕ) (x : What) (free all : ℕ) (os : List (ℕ × ℕ)) → Fits s r d x → (d ≡ ToTake → 0 < free) → (d ≡ ToRun → Opens c n os) → free + length os ≡ all → free_after free x + length (opened (OfRequest c n) x os) ≡ all
  tokens_step r d c n TokenTaken free all os f room run e = omega (arith, room (fits_take r d f))
  tokens_step r d c n (Ran a) free all os f room run e = omega (arith, length_without c n os (run (fits_ran r d a f)))
  tokens_step r d c n _ free all os f room run e = e
