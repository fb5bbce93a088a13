-- What a request is owed is what was sent, and then what is to be sent.
use Rattle.std.proofs.Common.{◌≡◌, ℕ, suc, Bool, true, false, cond, ◌&&◌, List, [], ◌∷◌, ◌++◌, length, None, refl, sym, ap, ◌∙◌, append_assoc, not, nat_lt, Ok}
use Rattle.sc_model.specs.Afterwards.{after_asked, after_began, after_control, after_send, after_sent, after_whole, after_wrote, missed, notes_then, start_work, stop, with_size}
use Rattle.sc_model.specs.Describing.{server_info, stats_reply}
use Rattle.sc_model.specs.Dues.{Due, Stopped, ToAsk, ToDist, ToFinish, ToKey, ToPlace, ToSend, ToTake, is_disk_alone, kind_at, left, left_pre, next_pre, next_write, start_write}
use Rattle.sc_model.specs.Follows.{Fits, Lawful, due}
use Rattle.sc_model.specs.Frames.{asked_frames, began_frames, frames, owed_by, pre_put_frames}
use Rattle.sc_model.specs.Job.{At, Own, bytes_of, is_late, job_of, put_bytes, refused, sized, stats_of}
use Rattle.sc_model.specs.Plan.{plan, pre_plan}
use Rattle.sc_model.specs.Script.{Control, Default, ForceNoCache, ForceRecache, Setup, control}
use Rattle.sc_model.specs.Trace.{sent_by, sent_of}
use Rattle.sc_model.specs.declared.event.Answer.{Answer}
use Rattle.sc_model.specs.declared.event.Answer.TheVariants.{Found as FoundAt, Hit, Refused}
use Rattle.sc_model.specs.declared.event.DistAnswer.TheVariants.{Other as DistOther}
use Rattle.sc_model.specs.declared.event.KeyStep.TheVariants.{Fault as KeyFault, Key, ProcessError as KeyError}
use Rattle.sc_model.specs.declared.event.Mode.{Mode}
use Rattle.sc_model.specs.declared.event.Mode.TheVariants.{Path, Pre, Raw, Size as Sizes, Whole}
use Rattle.sc_model.specs.declared.event.Parsed.TheVariants.{CannotCache, NotCompile, Started, Unsupported}
use Rattle.sc_model.specs.declared.event.Placing.TheVariants.{Done as PlaceDone, Fault as PlaceFault, Missing}
use Rattle.sc_model.specs.declared.event.Told.{Told}
use Rattle.sc_model.specs.declared.event.Told.TheVariants.{Compile as TellsCompile, Dist as TellsDist, Handshake as TellsHandshake, Nothing as TellsNothing, Stats as TellsStats, Valid as TellsValid}
use Rattle.sc_model.specs.declared.event.Verdict.TheVariants.{CacheMiss}
use Rattle.sc_model.specs.declared.event.What.{What}
use Rattle.sc_model.specs.declared.event.What.TheVariants.{Asked, Began, Committed, Dist, Filled, Keyed, Outcome, Placed, Reserved, Sent, TooLong, WriteEnded, Wrote}
use Rattle.sc_model.specs.declared.event.Written.{Written}
use Rattle.sc_model.specs.declared.event.Written.TheVariants.{Done as WriteDone, Refused as WriteRefused}
use Rattle.sc_model.specs.declared.level.LevelKind.{LevelKind}
use Rattle.sc_model.specs.declared.level.LevelKind.TheVariants.{Disk, Remote}
use Rattle.sc_model.specs.declared.message.CompileResponse.TheVariants.{CompileStarted, UnhandledCompile, UnsupportedCompiler}
use Rattle.sc_entry.specs.declared.get_path_result.GetPathResult.TheVariants.{Unsupported as PathUnsupported}
use Rattle.sc_model.specs.declared.message.Request.{Request}
use Rattle.sc_model.specs.declared.message.Request.TheVariants.{Compile, DistStatus, GetStats, RecordStats, Shutdown, StorageGetPath as GetPath, StorageGetPreprocessorEntry as GetPre, StorageGetRaw as GetRaw, StorageHandshake as Handshake, StoragePutPreprocessorEntry as PutPre, StoragePutRaw as PutRaw, ZeroStats}
use Rattle.sc_model.specs.declared.message.Response.{Response}
use Rattle.sc_model.specs.declared.message.Response.TheVariants.{Compile as Answered, ShuttingDown, Stats as Counted, StorageGetPath as PathReply, StorageGetPreprocessorEntry as PreReply, StorageGetRaw as RawReply}
use Rattle.sc_model.specs.declared.phase.Bytes.{Bytes}
use Rattle.sc_model.specs.declared.phase.Job.{Job}
use Rattle.sc_model.specs.declared.phase.Refusal.{Refusal}
use Rattle.sc_model.specs.declared.phase.Refusal.TheVariants.{NoneYet}
use Rattle.std.proofs.lemmas.List.{append-nil}

-- the frames that are due and not yet sent
abbrev pub owed : Due → List Response
owed (ToSend f) = f ∷ []
owed (ToFinish ns last) = notes_then ns last
owed (Stopped left) = left
owed _ = []

abbrev NotSent : What → Type 0
NotSent (Sent g) = ⊥
NotSent (TooLong n) = ⊥
NotSent _ = Unit {0}

owed_cond : (b : Bool) (x y : Due) (xs : List Response) → owed x ≡ [] → owed y ≡ xs → cond b [] xs ≡ owed (cond b x y)
owed_cond true x y xs e f = sym e
owed_cond false x y xs e f = sym f

none_cond : (b : Bool) (x y : Due) → owed x ≡ [] → owed y ≡ [] → [] ≡ owed (cond b x y)
none_cond true x y e f = sym e
none_cond false x y e f = sym f

module _ (s : Setup) where
  start_owed : (kind : LevelKind) (l : ℕ) (b : Bytes) → [] ≡ owed (start_write kind l b)
  start_owed Disk l b = refl
  start_owed Remote l b = refl

  write_owed : (b : Bytes) (f : Refusal) (ls : List ℕ) → [] ≡ owed (next_write s b f ls)
  write_owed b f [] = refl
  write_owed b f (l ∷ ls) = start_owed (kind_at s.levels l) l b

  pre_owed : (b : Bytes) (f : Refusal) (ls : List ℕ) → pre_put_frames s f ls ≡ owed (next_pre s b f ls)
  pre_owed b f [] = refl
  pre_owed b f (l ∷ ls) = refl

  work_owed : (job : Job) → owed (start_work job) ≡ []
  work_owed job = sym (none_cond job.client ToDist ToTake refl refl)

  missed_owed : (job : Job) → owed (missed job) ≡ []
  missed_owed job = sym (none_cond (not job.found.locally_preprocessed && job.client) (ToKey false) (start_work job) refl (work_owed job))

  control_owed : (c : Control) (job : Job) → [] ≡ owed (after_control s c job)
  control_owed Default job = none_cond (nat_lt 0 (length s.levels)) (ToAsk Whole 0 job.found.key) (missed job) refl (missed_owed job)
  control_owed ForceNoCache job = sym (work_owed job)
  control_owed ForceRecache job = sym (work_owed job)

  whole_owed : (job : Job) (m l : ℕ) (a : Answer) → [] ≡ owed (after_whole s job m l a)
  whole_owed job m l (Hit b mark) = none_cond (is_late job m) (missed job) ToPlace (missed_owed job) refl
  whole_owed job m l _ = none_cond (nat_lt (suc l) (length s.levels)) (ToAsk Whole (suc l) job.found.key) (missed job) refl (missed_owed job)

  began_owed : (r : Request) (told : Told) → began_frames s r told ≡ owed (after_began s r told)
  began_owed (Compile c) (TellsCompile (Started task)) = refl
  began_owed (Compile c) (TellsCompile NotCompile) = refl
  began_owed (Compile c) (TellsCompile (CannotCache why extra)) = refl
  began_owed (Compile c) (TellsCompile (Unsupported text)) = refl
  began_owed (GetRaw k) told = owed_cond (nat_lt 0 (length s.levels)) (ToAsk Raw 0 k) (ToSend (RawReply None)) (RawReply None ∷ []) refl refl
  began_owed (PutRaw k b) told = write_owed (put_bytes (PutRaw k b)) NoneYet (plan s.policy s.levels)
  began_owed (GetPath k) told = owed_cond (is_disk_alone s.policy s.levels) (ToAsk Path 0 k) (ToSend (PathReply PathUnsupported)) (PathReply PathUnsupported ∷ []) refl refl
  began_owed (GetPre k) told = owed_cond (nat_lt 0 (length s.levels)) (ToAsk Pre 0 k) (ToSend (PreReply (Ok None))) (PreReply (Ok None) ∷ []) refl refl
  began_owed (PutPre k b) (TellsValid true) = pre_owed (put_bytes (PutPre k b)) NoneYet (pre_plan s.policy s.levels)
  began_owed (PutPre k b) (TellsValid false) = refl
  began_owed GetStats (TellsStats stats) = owed_cond (nat_lt 0 (length s.levels)) (ToAsk Sizes 0 []) (ToSend (stats_reply GetStats (server_info s stats []))) (Counted (server_info s stats []) ∷ []) refl refl
  began_owed Shutdown (TellsStats stats) = owed_cond (nat_lt 0 (length s.levels)) (ToAsk Sizes 0 []) (ToSend (stats_reply Shutdown (server_info s stats []))) (ShuttingDown (server_info s stats []) ∷ []) refl refl
  began_owed DistStatus (TellsDist info) = refl
  began_owed Handshake (TellsHandshake info) = refl
  began_owed ZeroStats TellsNothing = refl
  began_owed (RecordStats stats) TellsNothing = refl
  began_owed _ _ = refl

  asked_owed : (r : Request) (own : List Own) (m l : ℕ) (k : List ℕ) (mode : Mode) (a : Answer) → asked_frames s r own l mode a ≡ owed (after_asked s r own m l k mode a)
  asked_owed r own m l k Whole a = whole_owed (job_of own) m l a
  asked_owed r own m l k Raw (Hit b mark) = refl
  asked_owed r own m l k Raw _ = owed_cond (nat_lt (suc l) (length s.levels)) (ToAsk Raw (suc l) k) (ToSend (RawReply None)) (RawReply None ∷ []) refl refl
  asked_owed r own m l k Path (FoundAt p) = refl
  asked_owed r own m l k Path _ = refl
  asked_owed r own m l k Pre (Hit b mark) = refl
  asked_owed r own m l k Pre (Refused c) = refl
  asked_owed r own m l k Pre _ = owed_cond (nat_lt (suc l) (length s.levels)) (ToAsk Pre (suc l) k) (ToSend (PreReply (Ok None))) (PreReply (Ok None) ∷ []) refl refl
  asked_owed r own m l k Sizes a =
      let g = stats_reply r (server_info s (stats_of own) (with_size (sized own) a)) in
      owed_cond (nat_lt (suc l) (length s.levels)) (ToAsk Sizes (suc l) k) (ToSend g) (g ∷ []) refl refl

  wrote_owed : (r : Request) (own : List Own) (m l : ℕ) (k b : List ℕ) (mode : Mode) (mark : Bool) (w : Written) → owed_by s r own m (Wrote l k b mode mark w) ≡ owed (after_wrote s r (At m (Wrote l k b mode mark w) ∷ own) mode)
  wrote_owed r own m l k b Pre mark w = let own2 = At m (Wrote l k b Pre mark w) ∷ own in pre_owed (bytes_of s r own2) (refused own2) (left_pre s own2)
  wrote_owed r own m l k b Whole mark w = let own2 = At m (Wrote l k b Whole mark w) ∷ own in write_owed (bytes_of s r own2) (refused own2) (left s own2)
  wrote_owed r own m l k b Raw mark w = let own2 = At m (Wrote l k b Raw mark w) ∷ own in write_owed (bytes_of s r own2) (refused own2) (left s own2)
  wrote_owed r own m l k b Path mark w = let own2 = At m (Wrote l k b Path mark w) ∷ own in write_owed (bytes_of s r own2) (refused own2) (left s own2)
  wrote_owed r own m l k b Sizes mark w = let own2 = At m (Wrote l k b Sizes mark w) ∷ own in write_owed (bytes_of s r own2) (refused own2) (left s own2)

  -- what an event makes due is what is then to be sent
  owes : (r : Request) (own : List Own) (m : ℕ) (x : What) → NotSent x → owed_by s r own m x ≡ owed (due s r (At m x ∷ own))
  owes r own m (Began q told) nt = began_owed r told
  owes r own m (Keyed first client (Key found)) nt = control_owed (control r first) _
  owes r own m (Keyed first client (KeyError out)) nt = refl
  owes r own m (Keyed first client (KeyFault chain)) nt = refl
  owes r own m (Asked l k mode a hs) nt = asked_owed r own m l k mode a
  owes r own m (Placed PlaceDone) nt = refl
  owes r own m (Placed (Missing name)) nt = sym (missed_owed (job_of own))
  owes r own m (Placed (PlaceFault chain)) nt = refl
  owes r own m (Dist (DistOther text)) nt = refl
  owes r own m (Dist _) nt = refl
  owes r own m (Outcome (CacheMiss miss dist d) task) nt = write_owed (bytes_of s r own) NoneYet (plan s.policy s.levels)
  owes r own m (Outcome _ task) nt = refl
  owes r own m (Reserved l k n WriteDone) nt = refl
  owes r own m (Reserved l k n (WriteRefused c)) nt = write_owed (bytes_of s r own) (refused (At m (Reserved l k n (WriteRefused c)) ∷ own)) (left s (At m (Reserved l k n (WriteRefused c)) ∷ own))
  owes r own m (Filled l k b mark WriteDone) nt = refl
  owes r own m (Filled l k b mark (WriteRefused c)) nt = write_owed (bytes_of s r own) (refused (At m (Filled l k b mark (WriteRefused c)) ∷ own)) (left s (At m (Filled l k b mark (WriteRefused c)) ∷ own))
  owes r own m (Committed l k b w) nt = write_owed (bytes_of s r own) (refused (At m (Committed l k b w) ∷ own)) (left s (At m (Committed l k b w) ∷ own))
  owes r own m (Wrote l k b mode mark w) nt = wrote_owed r own m l k b mode mark w
  owes (Compile c) own m (WriteEnded put hs) nt = refl
  owes _ own m (WriteEnded put hs) nt = refl
  owes r own m (Sent g) nt = absurd nt
  owes r own m (TooLong n) nt = absurd nt
  owes r own m _ nt = refl

  -- only a reply that is due is sent, and nothing else comes while one is
  fits_owed : (r : Request) (d : Due) (x : What) → NotSent x → Fits s r d x → owed d ≡ []
  fits_owed r (ToSend g) (Sent f) nt h = absurd nt
  fits_owed r (ToSend g) (TooLong n) nt h = absurd nt
  fits_owed r (ToFinish ns last) (Sent f) nt h = absurd nt
  fits_owed r (ToFinish ns last) (TooLong n) nt h = absurd nt
  fits_owed r (ToSend g) _ nt h = absurd h
  fits_owed r (ToFinish ns last) _ nt h = absurd h
  fits_owed r (Stopped ls) x nt h = absurd h
  fits_owed r _ x nt h = refl

  fits_stops : (r : Request) (d : Due) (n : ℕ) → Fits s r d (TooLong n) → owed (stop d) ≡ owed d
  fits_stops r (ToSend f) n h = refl
  fits_stops r (ToFinish ns last) n h = refl
  fits_stops r _ n h = absurd h

  sent_owes : (g : Response) → owed (after_sent g) ≡ []
  sent_owes (Answered CompileStarted) = refl
  sent_owes (Answered UnhandledCompile) = refl
  sent_owes (Answered (UnsupportedCompiler t)) = refl
  sent_owes _ = refl

  fits_sent : (r : Request) (d : Due) (g : Response) → Fits s r d (Sent g) → owed d ≡ g ∷ owed (after_send g d)
  fits_sent r (ToSend f) g h = ap (λ v. v ∷ []) (sym h.0) ∙ ap (λ v. g ∷ v) (sym (sent_owes g))
  fits_sent r (ToFinish [] last) g h = ap (λ v. v ∷ []) (sym h.0)
  fits_sent r (ToFinish (n ∷ ns) last) g h = ap (λ v. v ∷ notes_then ns last) (sym h.0)
  fits_sent r _ g h = absurd h

  sent_none : (x : What) → NotSent x → sent_by x ≡ []
  sent_none (Sent g) nt = absurd nt
  sent_none _ nt = refl

  frames_other : (r : Request) (own : List Own) (m : ℕ) (x : What) → NotSent x → Fits s r (due s r own) x → frames s r own ≡ sent_of own ++ owed (due s r own) → frames s r (At m x ∷ own) ≡ sent_of (At m x ∷ own) ++ owed (due s r (At m x ∷ own))
  frames_other r own m x nt f ih =
      ap (λ v. frames s r own ++ v) (owes r own m x nt)
      ∙ ap (λ v. v ++ owed (due s r (At m x ∷ own))) (ih ∙ ap (λ v. sent_of own ++ v) (fits_owed r (due s r own) x nt f ∙ sym (sent_none x nt)))

  pub frames_are : (r : Request) (own : List Own) → Lawful s r own → frames s r own ≡ sent_of own ++ owed (due s r own)
  frames_are r [] l = refl
  frames_are r (At m (TooLong n) ∷ own) l =
      let ih = frames_are r own l.1 in
      append-nil (frames s r own) ∙ ih ∙ ap (λ v. sent_of own ++ v) (sym (fits_stops r (due s r own) n l.0)) ∙ ap (λ v. v ++ owed (stop (due s r own))) (sym (append-nil (sent_of own)))
  frames_are r (At m (Sent g) ∷ own) l =
      let ih = frames_are r own l.1 in
      append-nil (frames s r own) ∙ ih ∙ ap (λ v. sent_of own ++ v) (fits_sent r (due s r own) g l.0) ∙ sym (append_assoc (sent_of own) (g ∷ []) (owed (after_send g (due s r own))))
  frames_are r (At m x ∷ own) l = frames_other r own m x tt l.0 (frames_are r own l.1)
