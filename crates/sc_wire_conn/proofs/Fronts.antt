-- What the reader of requests makes of bytes with a whole good frame at their front.
use Rattle.std.proofs.Common.{◌≡◌, ℕ, ◌<◌, List, [], ◌∷◌, length, refl, subst}
use Rattle.sc_model.specs.Stream.{Frame, Front}
use Rattle.sc_model.specs.declared.message.Request.{Request}
use Rattle.sc_model.proofs.Streams.{Shrinks, front_shrinks}
use Rattle.sc_wire.specs.Requests.{read_request}
use Rattle.sc_wire.specs.Streams.{Follows, request_front, request_reader}
use Rattle.sc_wire.proofs.Cuttings.{any_cutting_is}

module _ (limit : ℕ) (held : List ℕ) where
  none_taken : Follows limit read_request held [] held
  none_taken = record { requests = refl; rest = refl; ends = λ closed. refl }

  pub frame_requests : (request : Request) (rest : List ℕ) → request_front limit held ≡ Frame request rest → (request_reader limit).requests held ≡ request ∷ (request_reader limit).requests rest
  frame_requests request rest is = ((any_cutting_is limit read_request).given held [] held request rest is none_taken).requests

  pub frame_rest : (request : Request) (rest : List ℕ) → request_front limit held ≡ Frame request rest → (request_reader limit).rest held ≡ (request_reader limit).rest rest
  frame_rest request rest is = ((any_cutting_is limit read_request).given held [] held request rest is none_taken).rest

  pub frame_shorter : (request : Request) (rest : List ℕ) → request_front limit held ≡ Frame request rest → length rest < length held
  frame_shorter request rest is = subst (λ (f : Front). Shrinks limit read_request f (length held)) is (front_shrinks limit read_request held)
