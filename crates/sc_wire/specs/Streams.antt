-- The requests of a stream that comes in pieces, as the daemon's definitions read them.
use Rattle.std.specs.Prelude.{◌≡◌, ℕ, Bool, List, [], ◌∷◌, ◌++◌, Option, Some, None, Result, Ok, Err}
use Rattle.sc_model.specs.Script.{Reader}
use Rattle.sc_model.specs.Stream.{Bad, Frame, Front, Part, front, stream_reader}
use Rattle.sc_model.specs.declared.message.Request.{Request}
use Rattle.sc_wire.specs.Frames.{Framing}
use Rattle.sc_wire.specs.Requests.{read_request}
use Rattle.sc_wire.specs.declared.error.DecodeError.{DecodeError}
use Rattle.sc_wire.specs.declared.error.DecodeError.TheVariants.{NoMemory, BadFrame}

-- what stands at the front of a daemon's input
abbrev pub request_front : ℕ → List ℕ → Front
request_front limit bytes = front limit read_request bytes

-- The request at the front is given and leaves with its frame. Else nothing changes.
abbrev pub GivesRequest : Result (Option Request) DecodeError → Front → Framing → Framing → Type 0
GivesRequest (Ok (Some request)) at_front old new = (at_front ≡ Frame request new.rest) × (new.limit ≡ old.limit)
GivesRequest (Ok None) at_front old new = (at_front ≡ Part) × (new ≡ old)
GivesRequest (Err NoMemory) at_front old new = new ≡ old
GivesRequest (Err BadFrame) at_front old new = (at_front ≡ Bad) × (new ≡ old)

-- the requests of bytes, the bytes behind them and the end, as the daemon reads them
abbrev pub request_reader : ℕ → Reader
request_reader limit = stream_reader limit read_request

-- Of the bytes that were fed, some requests were taken and some bytes are still held: together they are what the
-- fed bytes spell.
pub record Follows (limit : ℕ) (decode : List ℕ → Option Request) (fed : List ℕ) (taken : List Request) (held : List ℕ) : Type 0 where
  pub requests : (stream_reader limit decode).requests fed ≡ taken ++ (stream_reader limit decode).requests held
  pub rest : (stream_reader limit decode).rest fed ≡ (stream_reader limit decode).rest held
  pub ends : (closed : Bool) → (stream_reader limit decode).ends fed closed ≡ (stream_reader limit decode).ends held closed

-- no whole good frame stands at the front
abbrev pub IsStopped : Front → Type 0
IsStopped Part = Unit {0}
IsStopped Bad = Unit {0}
IsStopped (Frame request rest) = ⊥

-- Requests come whole, whatever the cutting.
pub record AnyCutting (limit : ℕ) (decode : List ℕ → Option Request) : Type 0 where
  -- a framer at its start
  pub none : Follows limit decode [] [] []
  -- a piece is fed
  pub fed : (fed : List ℕ) (taken : List Request) (held piece : List ℕ) → Follows limit decode fed taken held → Follows limit decode (fed ++ piece) taken (held ++ piece)
  -- a request is taken
  pub given : (fed : List ℕ) (taken : List Request) (held : List ℕ) (request : Request) (rest : List ℕ) → front limit decode held ≡ Frame request rest → Follows limit decode fed taken held → Follows limit decode fed (taken ++ request ∷ []) rest
  -- no request stands at the front: all that were fed are taken
  pub all_taken : (fed : List ℕ) (taken : List Request) (held : List ℕ) → IsStopped (front limit decode held) → Follows limit decode fed taken held → (stream_reader limit decode).requests fed ≡ taken
  pub all_rest : (fed : List ℕ) (taken : List Request) (held : List ℕ) → IsStopped (front limit decode held) → Follows limit decode fed taken held → (stream_reader limit decode).rest fed ≡ held
