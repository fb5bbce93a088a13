-- A request read by the codec is a request of the stream.
use Rattle.std.proofs.Common.{◌≡◌, ℕ, ◌+◌, ◌*◌, Bool, true, false, cond, List, [], ◌∷◌, length, take, drop, nat_lt, Option, Some, None, Result, Ok, Err, refl, ap, ◌∙◌}
use Rattle.sc_model.specs.Stream.{Bad, Frame, Front, Part as Unread, decoded}
use Rattle.sc_model.specs.declared.message.Request.{Request}
use Rattle.sc_wire.specs.Codec.{read_all}
use Rattle.sc_wire.specs.Frames.{Ahead, Fault, Framing, GivesMessage, Long, Message, Part, Payload, Unfinished, ahead, if_message, message_of}
use Rattle.sc_wire.specs.Requests.{read_request, request}
use Rattle.sc_wire.specs.Streams.{GivesRequest, request_front}
use Rattle.sc_wire.specs.declared.error.DecodeError.{DecodeError}
use Rattle.sc_wire.specs.declared.error.DecodeError.TheVariants.{NoMemory, BadFrame}

-- the front as the daemon's definitions name it
abbrev as_front : Ahead Request → Front
as_front Unfinished = Unread
as_front Fault = Bad
as_front (Message r rest) = Frame r rest

decoded_is : (o : Option Request) (rest : List ℕ) → decoded o rest ≡ as_front (if_message o rest)
decoded_is None rest = refl
decoded_is (Some r) rest = refl

payload_is : (payload rest : List ℕ) → decoded (read_request payload) rest ≡ as_front (message_of request (Payload payload rest))
unfolding read_request
payload_is payload rest = decoded_is (read_all request payload) rest

cut_is : (long short : Bool) (payload rest : List ℕ) → cond long Bad (cond short Unread (decoded (read_request payload) rest)) ≡ as_front (message_of request (cond long Long (cond short Part (Payload payload rest))))
cut_is true short payload rest = refl
cut_is false true payload rest = refl
cut_is false false payload rest = payload_is payload rest

front_is : (limit : ℕ) (bytes : List ℕ) → request_front limit bytes ≡ as_front (ahead request limit bytes)
unfolding ahead
front_is limit [] = refl
front_is limit (x ∷ []) = refl
front_is limit (x ∷ y ∷ []) = refl
front_is limit (x ∷ y ∷ z ∷ []) = refl
front_is limit (x ∷ y ∷ z ∷ w ∷ bytes) =
    let n = ((x * 256 + y) * 256 + z) * 256 + w in
    cut_is (nat_lt limit n) (nat_lt (length bytes) n) (take n bytes) (drop n bytes)

-- the request that is given is that of the stream
pub gives_request : (limit : ℕ) (bytes : List ℕ) (r : Result (Option Request) DecodeError) (old new : Framing) → GivesMessage r (ahead request limit bytes) old new → GivesRequest r (request_front limit bytes) old new
gives_request limit bytes (Ok (Some m)) old new h = (front_is limit bytes ∙ ap as_front h.0, h.1)
gives_request limit bytes (Ok None) old new h = (front_is limit bytes ∙ ap as_front h.0, h.1)
gives_request limit bytes (Err NoMemory) old new h = h
gives_request limit bytes (Err BadFrame) old new h = (front_is limit bytes ∙ ap as_front h.0, h.1)
