-- What a step does to one connection.
use Rattle.std.specs.Prelude.{◌≡◌, ℕ, ◌+◌, ◌<◌, ◌≤◌, true, List, [], ◌∷◌, ◌++◌, length, take, drop, Option, Some, None, ◌⊎◌}
use Rattle.sc_daemon_action.specs.Hands.{ActsWith, IsOwn, hand_of}
use Rattle.sc_daemon_action.specs.Sends.{Adds}
use Rattle.sc_daemon_action.specs.declared.acted.Action.{Action}
use Rattle.sc_daemon.specs.Lines.{IsDone, Line, conn_of, line_hand}
use Rattle.sc_daemon.specs.Standings.{standing_of}
use Rattle.sc_daemon.specs.declared.reading.Reading.{Reading}
use Rattle.sc_daemon.specs.declared.reading.Reading.TheVariants.{Closed, Nothing, Taken}
use Rattle.sc_daemon.specs.declared.standing.Standing.TheVariants.{Ended, Takes}
use Rattle.sc_daemon_hold.specs.Holding.{HandsIn, KeepsIn, Rooms}
use Rattle.sc_daemon_job.specs.Askers.{Asker}
use Rattle.sc_daemon_job.specs.Setups.{Config, setup}
use Rattle.sc_model.specs.Follows.{Fits}
use Rattle.sc_model.specs.Conns.{advanced, current}
use Rattle.sc_model.specs.DueAt.{due_at}
use Rattle.sc_model.specs.Trace.{sent_by}
use Rattle.sc_model.specs.declared.event.What.{What}
use Rattle.sc_model.specs.declared.message.Request.{Request}
use Rattle.sc_model.specs.declared.phase.Phase.TheVariants.{AtOver}
use Rattle.sc_model.specs.There.{AreHanded, handed_in}
use Rattle.sc_wire.specs.Streams.{request_reader}

-- more bytes came
pub record TakesMore (bytes : List ℕ) (old new : Line) : Type 0 where
  pub same : new ≡ record old { waiting = new.waiting; rest = new.rest; got = new.got }
  pub requests : new.waiting ≡ old.waiting ++ (request_reader old.limit).requests (old.rest ++ bytes)
  pub rest : new.rest ≡ (request_reader old.limit).rest (old.rest ++ bytes)
  pub got : new.got ≡ old.got + length bytes

-- a step of reading at most n bytes
abbrev pub Reads : List ℕ → ℕ → Reading → Line → Line → Type 0
Reads input n Nothing old new = ((n ≡ 0) ⊎ IsDone old) × (new ≡ old)
Reads input n (Taken bytes) old new = (IsDone old → ⊥) × (bytes ≡ take n (drop old.got input)) × (0 < length bytes) × TakesMore bytes old new
Reads input n Closed old new = (IsDone old → ⊥) × (0 < n) × (length input ≤ old.got) × (new ≡ record old { closed = true })

-- One action of the first request, before the connection goes on to the next phase; d and d2 are the levels as disk stores
-- before and after it.
pub record ActsFirst (k : Config) (d d2 : Option Rooms) (moment : ℕ) (acted : Action) (old new : Line) : Type 0 where
  pub request : Request
  pub rest : List Request
  pub first : old.waiting ≡ request ∷ rest
  pub acts : ActsWith k d2 request old.phase moment acted
  pub hands : HandsIn d acted.what (line_hand old) (hand_of acted.entry acted.phase)
  pub others : KeepsIn (line_hand old) d d2
  pub same : new ≡ record old { phase = AtOver; entry = None; out = new.out }
  pub out : Adds k (sent_by acted.what) old.out new.out

-- nothing is there to serve, a reply was too long, or a token is waited for
abbrev pub IsIdleLine : ℕ → Line → Type 0
IsIdleLine free l = ((length l.waiting ≡ 0) ⊎ ((0 < length l.waiting) × (standing_of l.phase ≡ Ended))) ⊎ ((0 < length l.waiting) × (standing_of l.phase ≡ Takes) × (free ≡ 0))

-- an event of the request that is served
pub record Serves_one (k : Config) (d d2 : Option Rooms) (moment free : ℕ) (x : What) (old new : Line) : Type 0 where
  pub some : 0 < length old.waiting
  pub fits : Fits (setup k) (current (conn_of old)) (due_at (setup k) (current (conn_of old)) old.phase) x
  pub token : standing_of old.phase ≡ Takes → 0 < free
  pub then : conn_of new ≡ advanced (setup k) (conn_of old) moment x
  pub own : IsOwn x
  pub hands : HandsIn d x (line_hand old) (line_hand new)
  pub others : KeepsIn (line_hand old) d d2
  pub there : AreHanded (length k.levels) (handed_in x)
  pub limit : new.limit ≡ old.limit

abbrev pub ServesLine : Config → Option Rooms → Option Rooms → ℕ → ℕ → Option What → Line → Line → Type 0
ServesLine k d d2 moment free None old new = IsIdleLine free old × (new ≡ old)
ServesLine k d d2 moment free (Some x) old new = Serves_one k d d2 moment free x old new

-- a hold moves by the event, where there is one
abbrev pub MovesFirst : {H : Type 0} → (H → Asker → What → H → Type 0) → Asker → Option Action → H → H → Type 0
MovesFirst moves n None old new = new ≡ old
MovesFirst moves n (Some a) old new = moves old n a.what new

abbrev pub ActsFirst_or_none : Config → Option Rooms → Option Rooms → ℕ → Option Action → Line → Line → Type 0
ActsFirst_or_none k d d2 moment None old new = (old.waiting ≡ []) × (new ≡ old)
ActsFirst_or_none k d d2 moment (Some a) old new = ActsFirst k d d2 moment a old new

abbrev pub MovesHold : {H : Type 0} → (H → Asker → What → H → Type 0) → Asker → Option What → H → H → Type 0
MovesHold moves n None old new = new ≡ old
MovesHold moves n (Some x) old new = moves old n x new
