-- What a request's own events tell of its job, the newest event first.
use Rattle.std.specs.Prelude.{ℕ, suc, ◌-◌, Bool, true, false, List, [], ◌∷◌, ◌++◌, Option, Some, None, codes, nat_lt}
use Rattle.sc_entry.specs.EntryAnswers.{stream_object}
use Rattle.sc_model.specs.Plan.{note}
use Rattle.sc_model.specs.Script.{Control, Default, ForceNoCache, ForceRecache, Setup, control, no_task}
use Rattle.sc_model.specs.declared.event.Answer.{Answer}
use Rattle.sc_model.specs.declared.event.Answer.TheVariants.{Hit, Refused, Size as SizeIs}
use Rattle.sc_model.specs.declared.event.DistAnswer.TheVariants.{Done as DistDone}
use Rattle.sc_model.specs.declared.event.DistType.{DistType}
use Rattle.sc_model.specs.declared.event.DistType.TheVariants.{Error as DistError, NoDist, Ok as DistOk}
use Rattle.sc_model.specs.declared.event.KeyFound.{KeyFound}
use Rattle.sc_model.specs.declared.event.KeyStep.TheVariants.{Key}
use Rattle.sc_model.specs.declared.event.MissType.{MissType}
use Rattle.sc_model.specs.declared.event.MissType.TheVariants.{CacheReadError, ForcedNoCache, ForcedRecache, Normal, TimedOut}
use Rattle.sc_entry.specs.declared.object.Object.{Object}
use Rattle.sc_model.specs.declared.event.Objects.{Objects}
use Rattle.sc_model.specs.declared.event.Objects.TheVariants.{Broken, Collected}
use Rattle.sc_model.specs.declared.event.Parsed.TheVariants.{Started}
use Rattle.sc_model.specs.declared.event.RunAnswer.TheVariants.{Output as RanOutput}
use Rattle.sc_model.specs.declared.event.RunOutput.{RunOutput}
use Rattle.sc_model.specs.declared.event.Task.{Task}
use Rattle.sc_model.specs.declared.event.Told.TheVariants.{Compile as TellsCompile, Stats as TellsStats}
use Rattle.sc_model.specs.declared.event.What.{What}
use Rattle.sc_model.specs.declared.event.What.TheVariants.{Asked, Began, Committed, Dist, Filled, Keyed, Outcome, Placed, Ran, Reserved, TokenTaken, Wrote}
use Rattle.sc_model.specs.declared.event.Written.TheVariants.{Done as WriteDone, Refused as WriteRefused}
use Rattle.sc_model.specs.declared.level.Policy.{Policy}
use Rattle.sc_model.specs.declared.level.Policy.TheVariants.{Single}
use Rattle.sc_model.specs.declared.message.Request.{Request}
use Rattle.sc_model.specs.declared.message.Request.TheVariants.{StoragePutPreprocessorEntry as PutPre, StoragePutRaw as PutRaw}
use Rattle.sc_model.specs.declared.phase.Bytes.{Bytes}
use Rattle.sc_model.specs.declared.phase.Job.{Job}
use Rattle.sc_model.specs.declared.phase.Refusal.{Refusal}
use Rattle.sc_model.specs.declared.phase.Refusal.TheVariants.{NoneYet}
use Rattle.sc_model.specs.declared.phase.Sized.{Sized}
use Rattle.sc_stats.specs.declared.counters.ServerStats.{ServerStats}
use Rattle.sc_stats.specs.Sums.{no_stats}

-- an event of the owner's own, with its moment
pub data Own : Type 0 where
  At : (moment : ℕ) (what : What) → Own

-- what is compiled
abbrev pub task_of : List Own → Task
task_of [] = no_task
task_of (At m (Began q (TellsCompile (Started task))) ∷ own) = task
task_of (_ ∷ own) = task_of own

abbrev pub no_key : KeyFound
no_key = record { key = []; outputs = []; locally_preprocessed = true; cacheable = true }

-- the key, by the last key step
abbrev pub job_of : List Own → Job
job_of [] = record { task = no_task; found = no_key; at = 0; client = false; first = true }
job_of (At m (Keyed first client (Key found)) ∷ own) = record { task = task_of own; found = found; at = m; client = client; first = first }
job_of (_ ∷ own) = job_of own

-- the lookup limit: 60 s
abbrev pub is_late : Job → ℕ → Bool
is_late job m = nat_lt 60000000000 (m - job.at)

abbrev pub forced : Control → MissType
forced Default = Normal
forced ForceNoCache = ForcedNoCache
forced ForceRecache = ForcedRecache

abbrev pub if_late : Bool → MissType → MissType
if_late true miss = TimedOut
if_late false miss = miss

-- a single store's refusal is a read error
abbrev pub by_answer : Policy → Answer → MissType
by_answer Single (Refused c) = CacheReadError
by_answer _ a = Normal

-- what kind of miss it is
abbrev pub miss_of : Setup → Request → List Own → MissType
miss_of s r [] = Normal
miss_of s r (At m (Keyed first client step) ∷ own) = forced (control r first)
miss_of s r (At m (Asked l k mode a hs) ∷ own) = if_late (is_late (job_of own) m) (by_answer s.policy a)
miss_of s r (At m (Placed p) ∷ own) = CacheReadError
miss_of s r (_ ∷ own) = miss_of s r own

-- whether the job was distributed
abbrev pub dist_of : List Own → DistType
dist_of [] = NoDist
dist_of (At m (Dist (DistDone server out)) ∷ own) = DistOk server
dist_of (At m (Dist _) ∷ own) = DistError
dist_of (At m TokenTaken ∷ own) = dist_of own
dist_of (_ ∷ own) = NoDist

-- the moment of the job's event before its run was begun
abbrev pub work_from : List Own → ℕ
work_from [] = 0
work_from (At m TokenTaken ∷ own) = work_from own
work_from (At m (Dist d) ∷ own) = work_from own
work_from (At m _ ∷ own) = m

-- the bytes of the last hit, and its place in time
abbrev pub hit_of : List Own → List ℕ
hit_of [] = []
hit_of (At m (Asked l k mode (Hit b mark) hs) ∷ own) = b
hit_of (_ ∷ own) = hit_of own

abbrev pub asked_at : List Own → ℕ
asked_at [] = 0
asked_at (At m (Asked l k mode a hs) ∷ own) = m
asked_at (_ ∷ own) = asked_at own

-- The mark of an owner's open entry: its first fill sets it, and every further one clears it.
abbrev pub after_fill : Option Bool → Bool → Bool
after_fill None mark = mark
after_fill (Some before) mark = false

abbrev pub fills_of : List Own → Option Bool
fills_of [] = None
fills_of (At m (Reserved l k n WriteDone) ∷ own) = None
fills_of (At m (Filled l k b mark WriteDone) ∷ own) = Some (after_fill (fills_of own) mark)
fills_of (_ ∷ own) = fills_of own

abbrev pub mark_of : Option Bool → Bool
mark_of None = false
mark_of (Some mark) = mark

abbrev pub entry_mark : List Own → Bool
entry_mark own = mark_of (fills_of own)

-- what is put: a put-raw's bytes, or the entry of the run
abbrev pub objects_of : Objects → List Object
objects_of (Collected os) = os
objects_of (Broken chain) = []

abbrev pub entry_of : Setup → RunOutput → List ℕ
entry_of s out = s.codec.entry (objects_of out.objects ++ stream_object (codes "stdout") out.output.stdout ++ stream_object (codes "stderr") out.output.stderr)

abbrev pub put_bytes : Request → Bytes
put_bytes (PutRaw k b) = record { key = k; bytes = b; run = false }
put_bytes (PutPre k b) = record { key = k; bytes = b; run = false }
put_bytes _ = record { key = []; bytes = []; run = false }

-- a local run made it, or not
abbrev pub run_bytes : Setup → Job → Bool → RunOutput → Bytes
run_bytes s job run out = record { key = job.found.key; bytes = entry_of s out; run = run }

abbrev pub bytes_of : Setup → Request → List Own → Bytes
bytes_of s r [] = put_bytes r
bytes_of s r (At m (Ran (RanOutput out)) ∷ own) = run_bytes s (job_of own) true out
bytes_of s r (At m (Dist (DistDone server out)) ∷ own) = run_bytes s (job_of own) false out
bytes_of s r (_ ∷ own) = bytes_of s r own

-- the level writes that are over, done or refused, since the outcome
abbrev pub over : List Own → ℕ
over [] = 0
over (At m (Outcome v task) ∷ own) = 0
over (At m (Reserved l k n (WriteRefused c)) ∷ own) = suc (over own)
over (At m (Filled l k b mark (WriteRefused c)) ∷ own) = suc (over own)
over (At m (Committed l k b w) ∷ own) = suc (over own)
over (At m (Wrote l k b mode mark w) ∷ own) = suc (over own)
over (_ ∷ own) = over own

-- the first refusal
abbrev pub refused : List Own → Refusal
refused [] = NoneYet
refused (At m (Outcome v task) ∷ own) = NoneYet
refused (At m (Reserved l k n (WriteRefused c)) ∷ own) = note (refused own) l c
refused (At m (Filled l k b mark (WriteRefused c)) ∷ own) = note (refused own) l c
refused (At m (Committed l k b (WriteRefused c)) ∷ own) = note (refused own) l c
refused (At m (Wrote l k b mode mark (WriteRefused c)) ∷ own) = note (refused own) l c
refused (_ ∷ own) = refused own

-- sizes and counters that levels told, in order
abbrev pub sized : List Own → List Sized
sized [] = []
sized (At m (Asked l k mode (SizeIs n c) hs) ∷ own) = sized own ++ (record { size = n; counters = c }) ∷ []
sized (_ ∷ own) = sized own

abbrev pub stats_of : List Own → ServerStats
stats_of [] = no_stats
stats_of (At m (Began q (TellsStats stats)) ∷ own) = stats
stats_of (_ ∷ own) = stats_of own
