-- One step of a request: the phase still tells what is due, and keeps what the events tell.
use Rattle.std.proofs.Common.{◌≡◌, ℕ, zero, suc, Bool, List, [], ◌∷◌, length, drop, Option, Some, None, refl, ap, ◌∙◌}
use Rattle.sc_model.proofs.Requests.{EndsBy, IsMiss, Keeps, NotMiss, begin_due, dist_due, key_due, path_due, placed_due, plain_over, pre_due, ran_due, raw_due, size_due, whole_due}
use Rattle.sc_model.specs.Afterwards.{after_asked, after_outcome, after_pre, after_raw, after_send, after_sent, after_size, after_whole, after_write, after_wrote, stop, with_size}
use Rattle.sc_model.specs.Dues.{ToCommit, ToFill, ToFinish, kind_at, left, left_pre, next_pre, next_write, start_write}
use Rattle.sc_model.specs.Follows.{Fits, due}
use Rattle.sc_model.specs.Finishing.{finish, notes_of}
use Rattle.sc_model.specs.Job.{At, Own, bytes_of, over, refused, sized, stats_of}
use Rattle.sc_model.specs.DueAt.{due_at}
use Rattle.sc_model.specs.Phases.{after, end_write_phase, noted}
use Rattle.sc_model.specs.Plan.{goes_on, note, plan, pre_plan}
use Rattle.sc_model.specs.Script.{Setup}
use Rattle.sc_model.specs.declared.event.Mode.{Mode}
use Rattle.sc_model.specs.declared.event.Mode.TheVariants.{Whole}
use Rattle.sc_model.specs.declared.event.Verdict.{Verdict}
use Rattle.sc_model.specs.declared.event.Verdict.TheVariants.{CacheMiss}
use Rattle.sc_model.specs.declared.event.What.{What}
use Rattle.sc_model.specs.declared.event.What.TheVariants.{Asked, Began, Committed, Dist, Filled, Keyed, Outcome, Placed, Ran, Reserved, Sent, TokenTaken, TooLong, WriteEnded, Wrote}
use Rattle.sc_model.specs.declared.event.Written.{Written}
use Rattle.sc_model.specs.declared.event.Written.TheVariants.{Done as WriteDone, Refused as WriteRefused}
use Rattle.sc_model.specs.declared.level.Cause.{Cause}
use Rattle.sc_model.specs.declared.level.LevelKind.{LevelKind}
use Rattle.sc_model.specs.declared.level.LevelKind.TheVariants.{Disk, Remote}
use Rattle.sc_model.specs.declared.level.Put.{Put}
use Rattle.sc_model.specs.declared.message.Request.{Request}
use Rattle.sc_model.specs.declared.message.Request.TheVariants.{Compile, StoragePutRaw as PutRaw}
use Rattle.sc_model.specs.declared.phase.Bytes.{Bytes}
use Rattle.sc_model.specs.declared.phase.Ending.{Ending}
use Rattle.sc_model.specs.declared.phase.Phase.{Phase}
use Rattle.sc_model.specs.declared.phase.Phase.TheVariants.{AtAsk, AtBegin, AtCommit, AtDist, AtEnd, AtFill, AtFinish, AtKey, AtPlace, AtRun, AtSend, AtStarted, AtStore, AtTake, AtWrite, PathAsk, PreAsk, PrePut, RawAsk, SizeAsk}
use Rattle.sc_model.specs.declared.phase.Refusal.{Refusal}
use Rattle.sc_model.specs.declared.phase.Refusal.TheVariants.{At as RefusedAt, NoneYet}

pub drop_one : {A : Type 0} (n : ℕ) (xs : List A) (l : A) (rest : List A) → drop n xs ≡ l ∷ rest → drop (suc n) xs ≡ rest
drop_one zero [] l rest e = (cc)
drop_one zero (x ∷ xs) l rest e = (cc)
drop_one (suc n) [] l rest e = (cc)
drop_one (suc n) (x ∷ xs) l rest e = drop_one n xs l rest e

pub goes_same : (f : Refusal) (ls : List ℕ) (l : ℕ) (rest : List ℕ) → goes_on f ls ≡ l ∷ rest → ls ≡ l ∷ rest
goes_same NoneYet ls l rest e = e
goes_same (RefusedAt zero c) ls l rest e = (cc)
goes_same (RefusedAt (suc n) c) ls l rest e = e

abbrev IsStart : What → Type 0
IsStart (Reserved l k n w) = Unit {0}
IsStart (Wrote l k b mode mark w) = Unit {0}
IsStart _ = ⊥

module _ (s : Setup) where
  pub start_is : (r : Request) (kind : LevelKind) (l : ℕ) (b : Bytes) (x : What) → Fits s r (start_write kind l b) x → IsStart x
  start_is r kind l b (Reserved j k n w) f = tt
  start_is r kind l b (Wrote j k d mode mark w) f = tt
  start_is r Disk l b _ f = absurd f
  start_is r Remote l b _ f = absurd f

  pub reserve_is : (r : Request) (kind : LevelKind) (l : ℕ) (b : Bytes) (j : ℕ) (k : List ℕ) (n : ℕ) (w : Written) → Fits s r (start_write kind l b) (Reserved j k n w) → (j ≡ l) × (k ≡ b.key) × (n ≡ length b.bytes)
  reserve_is r Disk l b j k n w f = f
  reserve_is r Remote l b j k n w f = absurd f

  pub wrote_is : (r : Request) (kind : LevelKind) (l : ℕ) (b : Bytes) (j : ℕ) (k d : List ℕ) (mode : Mode) (mark : Bool) (w : Written) → Fits s r (start_write kind l b) (Wrote j k d mode mark w) → (j ≡ l) × (k ≡ b.key) × (d ≡ b.bytes) × (mode ≡ Whole) × (mark ≡ b.run)
  wrote_is r Disk l b j k d mode mark w f = absurd f
  wrote_is r Remote l b j k d mode mark w f = f

  outcome_not : (r : Request) (own : List Own) (v : Verdict) → NotMiss v → after_outcome s r own v ≡ ToFinish (notes_of s r own) (finish s r own)
  outcome_not r own (CacheMiss miss dist d) h = absurd h
  outcome_not r own _ h = refl

  outcome_miss : (r : Request) (own : List Own) (v : Verdict) → IsMiss v → after_outcome s r own v ≡ next_write s (bytes_of s r own) NoneYet (plan s.policy s.levels)
  outcome_miss r own (CacheMiss miss dist d) h = refl
  outcome_miss r own _ h = absurd h

  -- one level is over
  pub left_next : (own own2 : List Own) (l : ℕ) (ls : List ℕ) (q : Refusal) → over own2 ≡ suc (over own) → refused own2 ≡ q → drop (over own) (plan s.policy s.levels) ≡ l ∷ ls → left s own2 ≡ goes_on q ls
  left_next own own2 l ls q o e k =
      ap (λ v. goes_on (refused own2) (drop v (plan s.policy s.levels))) o ∙ ap (goes_on (refused own2)) (drop_one (over own) (plan s.policy s.levels) l ls k) ∙ ap (λ v. goes_on v ls) e

  pub write_next : (own2 : List Own) (b2 b : Bytes) (ls : List ℕ) (q : Refusal) → b2 ≡ b → refused own2 ≡ q → left s own2 ≡ ls → next_write s b2 (refused own2) (left s own2) ≡ next_write s b q ls
  write_next own2 b2 b ls q eb e k = ap (λ v. next_write s v (refused own2) (left s own2)) eb ∙ ap (λ v. next_write s b v (left s own2)) e ∙ ap (next_write s b q) k

  pub pre_next : (own2 : List Own) (b2 b : Bytes) (ls : List ℕ) (q : Refusal) → b2 ≡ b → refused own2 ≡ q → left_pre s own2 ≡ ls → next_pre s b2 (refused own2) (left_pre s own2) ≡ next_pre s b q ls
  pre_next own2 b2 b ls q eb e k = ap (λ v. next_pre s v (refused own2) (left_pre s own2)) eb ∙ ap (λ v. next_pre s b v (left_pre s own2)) e ∙ ap (next_pre s b q) k

  pub note_is : (own : List Own) (f : Refusal) (j l : ℕ) (c : Cause) → refused own ≡ f → j ≡ l → note (refused own) j c ≡ note f l c
  note_is own f j l c e i = ap (λ v. note v j c) e ∙ ap (λ v. note f v c) i

  pub wrote_refused : (own : List Own) (f : Refusal) (m j l : ℕ) (k d : List ℕ) (mode : Mode) (mark : Bool) (w : Written) → refused own ≡ f → j ≡ l → refused (At m (Wrote j k d mode mark w) ∷ own) ≡ noted w f l
  wrote_refused own f m j l k d mode mark WriteDone e i = e
  wrote_refused own f m j l k d mode mark (WriteRefused c) e i = note_is own f j l c e i

  pub committed_refused : (own : List Own) (f : Refusal) (m j l : ℕ) (k d : List ℕ) (w : Written) → refused own ≡ f → j ≡ l → refused (At m (Committed j k d w) ∷ own) ≡ noted w f l
  committed_refused own f m j l k d WriteDone e i = e
  committed_refused own f m j l k d (WriteRefused c) e i = note_is own f j l c e i

  write_ended : (r : Request) (own : List Own) (put : Put) (ending : Option Ending) → EndsBy s r own ending → after_write s r own put ≡ due_at s r (end_write_phase ending put)
  write_ended (PutRaw k b) own put None h = refl
  write_ended _ own put None h = absurd h
  write_ended (Compile c) own put (Some ending) h = ap (λ v. ToFinish v (finish s (Compile c) own)) h.notes_are ∙ ap (λ v. ToFinish ending.notes v) h.last_is
  write_ended _ own put (Some ending) h = absurd h.compile

  pub due_step : (r : Request) (own : List Own) (p : Phase) (m : ℕ) (x : What) → due s r own ≡ due_at s r p → Keeps s r own p → Fits s r (due_at s r p) x → due s r (At m x ∷ own) ≡ due_at s r (after s r p m x)
  due_step r own AtBegin m (Began q told) e0 kp f = begin_due s r told
  due_step r own (AtSend g) m (Sent h) e0 kp f = ap (after_send h) e0 ∙ ap after_sent f.0 ∙ plain_over g kp
  due_step r own (AtSend g) m (TooLong n) e0 kp f = ap stop e0
  due_step r own (AtStarted task) m (Sent g) e0 kp f = ap (after_send g) e0 ∙ ap after_sent f.0
  due_step r own (AtStarted task) m (TooLong n) e0 kp f = ap stop e0
  due_step r own (AtKey task again) m (Keyed first client step) e0 kp f = key_due s r own task m first client step kp.1
  due_step r own (AtAsk job l) m (Asked j k mode a hs) e0 kp f =
      ap (λ v. after_asked s r own m j k v a) f.2 ∙ ap (λ v. after_whole s v m j a) kp.job_is ∙ ap (λ v. after_whole s job m v a) f.0 ∙ whole_due s r job m l a
  due_step r own (AtPlace job b d) m (Placed p) e0 kp f = placed_due s r own job b d m p kp.0 kp.2
  due_step r own (AtDist work) m (Dist d) e0 kp f = dist_due s r own work m d kp
  due_step r own (AtTake work) m TokenTaken e0 kp f = refl
  due_step r own (AtRun work) m (Ran a) e0 kp f = ran_due s r own work m a kp
  due_step r own (AtEnd v task ending) m (Outcome w t) e0 kp f =
      ap (after_outcome s r own) f.0 ∙ outcome_not r own v kp.0 ∙ ap (λ u. ToFinish u (finish s r own)) kp.1.notes_are ∙ ap (λ u. ToFinish ending.notes u) kp.1.last_is
  due_step r own (AtStore v task b ending) m (Outcome w t) e0 kp f =
      ap (after_outcome s r own) f.0 ∙ outcome_miss r own v kp.0 ∙ ap (λ u. next_write s u NoneYet (plan s.policy s.levels)) kp.2
  due_step r own (AtWrite b (l ∷ ls) g ending) m (Reserved j k n WriteDone) e0 kp f =
      ap (λ v. ToFill v (bytes_of s r own)) (reserve_is r (kind_at s.levels l) l b j k n WriteDone f).0 ∙ ap (ToFill l) kp.2
  due_step r own (AtWrite b (l ∷ ls) g ending) m (Reserved j k n (WriteRefused c)) e0 kp f =
      let own2 = At m (Reserved j k n (WriteRefused c)) ∷ own in
      let i = (reserve_is r (kind_at s.levels l) l b j k n (WriteRefused c) f).0 in
      let e = note_is own g j l c kp.1 i in
      write_next own2 (bytes_of s r own) b (goes_on (note g l c) ls) (note g l c) kp.2 e (left_next own own2 l ls (note g l c) refl e (goes_same (refused own) (drop (over own) (plan s.policy s.levels)) l ls kp.0))
  due_step r own (AtWrite b (l ∷ ls) g ending) m (Wrote j k d mode mark w) e0 kp f =
      let own2 = At m (Wrote j k d mode mark w) ∷ own in
      let i = wrote_is r (kind_at s.levels l) l b j k d mode mark w f in
      let e = wrote_refused own g m j l k d mode mark w kp.1 i.0 in
      ap (after_wrote s r own2) i.3 ∙ write_next own2 (bytes_of s r own) b (goes_on (noted w g l) ls) (noted w g l) kp.2 e (left_next own own2 l ls (noted w g l) refl e (goes_same (refused own) (drop (over own) (plan s.policy s.levels)) l ls kp.0))
  due_step r own (AtWrite b (l ∷ ls) g ending) m x e0 kp f = absurd (start_is r (kind_at s.levels l) l b x f)
  due_step r own (AtWrite b [] g ending) m (WriteEnded put hs) e0 kp f = write_ended r own put ending kp.4
  due_step r own (AtFill b l ls g ending) m (Filled j k d mark WriteDone) e0 kp f = ap (λ v. ToCommit v (bytes_of s r own)) f.0 ∙ ap (ToCommit l) kp.2
  due_step r own (AtFill b l ls g ending) m (Filled j k d mark (WriteRefused c)) e0 kp f =
      let own2 = At m (Filled j k d mark (WriteRefused c)) ∷ own in
      let e = note_is own g j l c kp.1 f.0 in
      write_next own2 (bytes_of s r own) b (goes_on (note g l c) ls) (note g l c) kp.2 e (left_next own own2 l ls (note g l c) refl e kp.0)
  due_step r own (AtCommit b l ls g ending) m (Committed j k d w) e0 kp f =
      let own2 = At m (Committed j k d w) ∷ own in
      let e = committed_refused own g m j l k d w kp.1 f.0 in
      write_next own2 (bytes_of s r own) b (goes_on (noted w g l) ls) (noted w g l) kp.2 e (left_next own own2 l ls (noted w g l) refl e kp.0)
  due_step r own (AtFinish [] last) m (Sent g) e0 kp f = ap (after_send g) e0
  due_step r own (AtFinish (n ∷ ns) last) m (Sent g) e0 kp f = ap (after_send g) e0
  due_step r own (AtFinish [] last) m (TooLong z) e0 kp f = ap stop e0
  due_step r own (AtFinish (n ∷ ns) last) m (TooLong z) e0 kp f = ap stop e0
  due_step r own (RawAsk l k) m (Asked j i mode a hs) e0 kp f =
      ap (λ v. after_asked s r own m j i v a) f.2 ∙ ap (λ v. after_raw s v i a) f.0 ∙ ap (λ v. after_raw s l v a) f.1 ∙ raw_due s r l k a
  due_step r own (PathAsk k) m (Asked j i mode a hs) e0 kp f = ap (λ v. after_asked s r own m j i v a) f.2 ∙ path_due s r a
  due_step r own (PreAsk l k) m (Asked j i mode a hs) e0 kp f =
      ap (λ v. after_asked s r own m j i v a) f.2 ∙ ap (λ v. after_pre s v i a) f.0 ∙ ap (λ v. after_pre s l v a) f.1 ∙ pre_due s r l k a
  due_step r own (PrePut b (l ∷ ls) g) m (Wrote j k d mode mark w) e0 kp f =
      let own2 = At m (Wrote j k d mode mark w) ∷ own in
      let e = wrote_refused own g m j l k d mode mark w kp.1 f.0 in
      ap (after_wrote s r own2) f.3 ∙ pre_next own2 (bytes_of s r own) b ls (noted w g l) kp.2 e (drop_one (over own) (pre_plan s.policy s.levels) l ls kp.0)
  due_step r own (PrePut b [] g) m (Sent h) e0 kp f = ap (after_send h) e0 ∙ ap after_sent f.0
  due_step r own (PrePut b [] g) m (TooLong n) e0 kp f = ap stop e0
  due_step r own (SizeAsk l stats zs) m (Asked j k mode a hs) e0 kp f =
      ap (λ v. after_asked s r own m j k v a) f.2 ∙ ap (λ v. after_size s r (stats_of own) (with_size (sized own) a) v k) f.0 ∙ ap (λ v. after_size s r (stats_of own) (with_size (sized own) a) l v) f.1
      ∙ ap (λ v. after_size s r v (with_size (sized own) a) l []) kp.0 ∙ ap (λ v. after_size s r stats (with_size v a) l []) kp.1 ∙ size_due s r stats (with_size zs a) l
  due_step _ _ _ _ _ e0 kp f = absurd f
