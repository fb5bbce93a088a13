-- What follows what, for one request or one handed write, read off its own events.
use Rattle.std.specs.Prelude.{◌≡◌, ℕ, ◌-◌, ◌<◌, ◌≤◌, Bool, List, [], ◌∷◌, length}
use Rattle.sc_entry.specs.Causes.{IfTold}
use Rattle.sc_model.specs.Job.{At, Own, bytes_of, dist_of, job_of, miss_of, refused, task_of, work_from}
use Rattle.sc_model.specs.Judging.{run_verdict}
use Rattle.sc_model.specs.Plan.{backfills}
use Rattle.sc_model.specs.Script.{Setup, counted_task}
use Rattle.sc_model.specs.declared.event.KeyStep.{KeyStep}
use Rattle.sc_model.specs.declared.event.Told.{Told}
use Rattle.sc_model.specs.declared.event.Told.TheVariants.{Compile as TellsCompile, Dist as TellsDist, Handshake as TellsHandshake, Nothing as TellsNothing, Stats as TellsStats, Valid as TellsValid}
use Rattle.sc_model.specs.declared.event.What.{What}
use Rattle.sc_model.specs.declared.event.What.TheVariants.{Asked, Began, Committed, Dist, Filled, Keyed, Outcome, Placed, Ran, Reserved, Sent, TokenTaken, TooLong, WriteEnded, Wrote}
use Rattle.sc_model.specs.declared.event.Written.TheVariants.{Done as WriteDone, Refused as WriteRefused}
use Rattle.sc_model.specs.declared.level.Handed.{Handed}
use Rattle.sc_model.specs.declared.level.LevelFacts.{LevelFacts}
use Rattle.sc_model.specs.declared.message.Request.{Request}
use Rattle.sc_model.specs.declared.message.Request.TheVariants.{Compile, DistStatus, GetStats, RecordStats, Shutdown, StorageGetPath as GetPath, StorageGetPreprocessorEntry as GetPre, StorageGetRaw as GetRaw, StorageHandshake as Handshake, StoragePutPreprocessorEntry as PutPre, StoragePutRaw as PutRaw, ZeroStats}
use Rattle.sc_model.specs.declared.message.Response.{Response}
use Rattle.sc_model.specs.declared.phase.Bytes.{Bytes}
use Rattle.sc_model.specs.Afterwards.{after_began, after_key, after_asked, after_placed, after_dist, after_outcome, after_wrote, after_write, after_send, first_reply, stop}
use Rattle.sc_model.specs.Describing.{handshake}
use Rattle.sc_model.specs.Dues.{Due, ToBegin, ToSend, ToFinish, ToKey, ToAsk, ToPlace, ToDist, ToTake, ToRun, ToEnd, ToReserve, ToFill, ToCommit, ToWrite, ToEndWrite, Over, kind_at, start_write, next_write, left}

-- what is due after these events
abbrev pub due : Setup → Request → List Own → Due
due s r [] = ToBegin
due s r (At m (Began q told) ∷ own) = after_began s r told
due s r (At m (Keyed first client step) ∷ own) = after_key s r own m first client step
due s r (At m (Asked l k mode a hs) ∷ own) = after_asked s r own m l k mode a
due s r (At m (Placed p) ∷ own) = after_placed r own p
due s r (At m TokenTaken ∷ own) = ToRun
due s r (At m (Ran a) ∷ own) = ToEnd (run_verdict (job_of own) (miss_of s r own) (dist_of own) (m - work_from own) a) (counted_task r (task_of own))
due s r (At m (Dist d) ∷ own) = after_dist s r own m d
due s r (At m (Outcome v task) ∷ own) = after_outcome s r own v
due s r (At m (Reserved l k n WriteDone) ∷ own) = ToFill l (bytes_of s r own)
due s r (At m (Filled l k b mark WriteDone) ∷ own) = ToCommit l (bytes_of s r own)
due s r (At m (Reserved l k n (WriteRefused c)) ∷ own) = next_write s (bytes_of s r own) (refused (At m (Reserved l k n (WriteRefused c)) ∷ own)) (left s (At m (Reserved l k n (WriteRefused c)) ∷ own))
due s r (At m (Filled l k b mark (WriteRefused c)) ∷ own) = next_write s (bytes_of s r own) (refused (At m (Filled l k b mark (WriteRefused c)) ∷ own)) (left s (At m (Filled l k b mark (WriteRefused c)) ∷ own))
due s r (At m (Committed l k b w) ∷ own) = next_write s (bytes_of s r own) (refused (At m (Committed l k b w) ∷ own)) (left s (At m (Committed l k b w) ∷ own))
due s r (At m (Wrote l k b mode mark w) ∷ own) = after_wrote s r (At m (Wrote l k b mode mark w) ∷ own) mode
due s r (At m (WriteEnded put hs) ∷ own) = after_write s r own put
due s r (At m (Sent g) ∷ own) = after_send g (due s r own)
due s r (At m (TooLong n) ∷ own) = stop (due s r own)
due s r (At m _ ∷ own) = Over

-- what is due of a handed write
abbrev pub bytes_in : Handed → Bytes
bytes_in h = record { key = h.key; bytes = h.bytes; run = h.marked }

abbrev pub due_back : List LevelFacts → Handed → List Own → Due
due_back fs h [] = start_write (kind_at fs h.level) h.level (bytes_in h)
due_back fs h (At m (Reserved l k n WriteDone) ∷ own) = ToFill h.level (bytes_in h)
due_back fs h (At m (Filled l k b mark WriteDone) ∷ own) = ToCommit h.level (bytes_in h)
due_back fs h (_ ∷ own) = Over

-- which Began fits the request; the others' events are another matter
abbrev pub Begins : Setup → Request → Told → Type 0
Begins s (Compile c) (TellsCompile p) = IfTold (s.compilers.reads c) (λ q. p ≡ q)
Begins s (PutPre k b) (TellsValid v) = v ≡ s.compilers.is_valid b
Begins s GetStats (TellsStats stats) = Unit {0}
Begins s Shutdown (TellsStats stats) = Unit {0}
Begins s DistStatus (TellsDist info) = Unit {0}
Begins s Handshake (TellsHandshake info) = info ≡ handshake s
Begins s ZeroStats TellsNothing = Unit {0}
Begins s (RecordStats stats) TellsNothing = Unit {0}
Begins s (GetRaw k) TellsNothing = Unit {0}
Begins s (PutRaw k b) TellsNothing = Unit {0}
Begins s (GetPath k) TellsNothing = Unit {0}
Begins s (GetPre k) TellsNothing = Unit {0}
Begins s _ _ = ⊥

-- which key step fits; its answer is the container's kept message or one that the compiler part may give
abbrev pub Keys : Setup → Request → Bool → KeyStep → Type 0
Keys s (Compile c) first step = Unit {0}
Keys s _ first step = ⊥

abbrev pub payload_size : Setup → Response → ℕ
payload_size s g = length (s.codec.payload g)

-- the event that comes is the one that is due
abbrev pub Fits : Setup → Request → Due → What → Type 0
Fits s r ToBegin (Began q told) = (q ≡ r) × Begins s r told
Fits s r (ToSend f) (Sent g) = (g ≡ f) × (payload_size s f ≤ s.limit)
Fits s r (ToSend f) (TooLong n) = (n ≡ payload_size s f) × (s.limit < n)
Fits s r (ToFinish ns last) (Sent g) = (g ≡ first_reply ns last) × (payload_size s (first_reply ns last) ≤ s.limit)
Fits s r (ToFinish ns last) (TooLong n) = (n ≡ payload_size s (first_reply ns last)) × (s.limit < n)
Fits s r (ToKey again) (Keyed first client step) = (first ≡ again) × Keys s r first step
Fits s r (ToAsk mode l k) (Asked j i kind a hs) = (j ≡ l) × (i ≡ k) × (kind ≡ mode) × (hs ≡ backfills s.policy s.levels l k mode a)
Fits s r ToPlace (Placed p) = Unit {0}
Fits s r ToDist (Dist d) = Unit {0}
Fits s r ToTake TokenTaken = Unit {0}
Fits s r ToRun (Ran a) = Unit {0}
Fits s r (ToEnd v task) (Outcome w t) = (w ≡ v) × (t ≡ task)
Fits s r (ToReserve l b) (Reserved j k n w) = (j ≡ l) × (k ≡ b.key) × (n ≡ length b.bytes)
Fits s r (ToFill l b) (Filled j k d mark w) = (j ≡ l) × (k ≡ b.key) × (d ≡ b.bytes) × (mark ≡ b.run)
Fits s r (ToCommit l b) (Committed j k d w) = (j ≡ l) × (k ≡ b.key) × (d ≡ b.bytes)
Fits s r (ToWrite mode l b) (Wrote j k d kind mark w) = (j ≡ l) × (k ≡ b.key) × (d ≡ b.bytes) × (kind ≡ mode) × (mark ≡ b.run)
Fits s r (ToEndWrite put hs) (WriteEnded p gs) = (p ≡ put) × (gs ≡ hs)
Fits s r _ _ = ⊥

-- the events of a request follow one another
abbrev pub what_of : Own → What
what_of (At m x) = x

abbrev pub Lawful : Setup → Request → List Own → Type 0
Lawful s r [] = Unit {0}
Lawful s r (x ∷ own) = Fits s r (due s r own) (what_of x) × Lawful s r own
