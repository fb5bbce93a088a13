-- What the code keeps of a connection. No promise speaks of it.
use Rattle.std.specs.Prelude.{ℕ, suc, ◌+◌, ◌-◌, Bool, true, false, List, [], ◌++◌, length, drop, Option, Some, None}
use Rattle.sc_model.specs.Script.{Script, Setup}
use Rattle.sc_model.specs.Trace.{request, sent_by, frame_bytes}
use Rattle.sc_model.specs.World.{Need, keys_of, placed_of}
use Rattle.sc_model.specs.declared.event.What.{What}
use Rattle.sc_model.specs.declared.event.What.TheVariants.{Outcome, Ran, Reserved, TokenTaken, TooLong}
use Rattle.sc_model.specs.declared.event.Written.TheVariants.{Done as WriteDone}
use Rattle.sc_model.specs.declared.message.Request.{Request}
use Rattle.sc_model.specs.declared.phase.Phase.{Phase}
use Rattle.sc_model.specs.declared.phase.Phase.TheVariants.{AtBegin, AtCommit, AtDist, AtOver, AtPlace, AtRun}
use Rattle.sc_model.specs.Phases.{after}

-- a connection: the requests that wait, the one that is served first, and the bytes that spell none yet;
-- the moments of that one's last event, last outcome and last reservation; the bytes that it was sent
pub record Conn : Type 0 where
  pub queue : List Request
  pub rest : List ℕ
  pub got : ℕ
  pub closed : Bool
  pub at : ℕ
  pub phase : Phase
  pub last : ℕ
  pub outcome : ℕ
  pub reserved : ℕ
  pub out : List ℕ
  -- the reply that was too long
  pub long : Option ℕ

abbrev pub new_conn : Conn
new_conn = record { queue = []; rest = []; got = 0; closed = false; at = 0; phase = AtBegin; last = 0; outcome = 0; reserved = 0; out = []; long = None }

abbrev pub current : Conn → Request
current k = request k.queue 0

-- a request that is over makes way for the next
abbrev pub settle : Conn → Phase → Conn
settle k AtOver = record k { queue = drop 1 k.queue; at = suc k.at; phase = AtBegin; last = 0; outcome = 0; reserved = 0 }
settle k p = record k { phase = p }

abbrev pub outcome_after : ℕ → ℕ → What → ℕ
outcome_after old m (Outcome v task) = m
outcome_after old m _ = old

abbrev pub reserved_after : ℕ → ℕ → What → ℕ
reserved_after old m (Reserved l k n WriteDone) = m
reserved_after old m _ = old

abbrev pub long_after : Option ℕ → What → Option ℕ
long_after old (TooLong n) = Some n
long_after old _ = old

abbrev pub told_by : Setup → Conn → ℕ → What → Conn
told_by s k m x = record k { last = m; outcome = outcome_after k.outcome m x; reserved = reserved_after k.reserved m x; out = k.out ++ frame_bytes s (sent_by x); long = long_after k.long x }

abbrev pub advanced : Setup → Conn → ℕ → What → Conn
advanced s k m x = settle (told_by s k m x) (after s (current k) k.phase m x)

-- more bytes come
abbrev pub more : Script → Conn → List ℕ → Conn
more s k bytes = record k { queue = k.queue ++ s.reader.requests (k.rest ++ bytes); rest = s.reader.rest (k.rest ++ bytes); got = k.got + length bytes }

abbrev pub shut : Conn → Conn
shut k = record k { closed = true }

abbrev pub free_after : ℕ → What → ℕ
free_after free TokenTaken = free - 1
free_after free (Ran a) = free + 1
free_after free _ = free

-- what the job at this phase needs of the parts
abbrev pub need_at : Setup → Request → Phase → Need
need_at s r (AtRun work) = record { keys = keys_of s r; key = work.job.found.key; wanted = work.job.found.outputs; outputs = []; hit = []; mark = false }
need_at s r (AtDist work) = record { keys = keys_of s r; key = work.job.found.key; wanted = work.job.found.outputs; outputs = []; hit = []; mark = false }
need_at s r (AtPlace job b d) = record { keys = keys_of s r; key = job.found.key; wanted = []; outputs = placed_of job.found.locally_preprocessed job.found.outputs; hit = b; mark = false }
need_at s r (AtCommit b l ls f ending) = record { keys = keys_of s r; key = []; wanted = []; outputs = []; hit = []; mark = b.run }
need_at s r _ = record { keys = keys_of s r; key = []; wanted = []; outputs = []; hit = []; mark = false }
