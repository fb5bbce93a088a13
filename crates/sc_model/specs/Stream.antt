-- The requests of a stream of bytes: frames, each a length and a payload that spells a request.
use Rattle.std.specs.Prelude.{ℕ, zero, suc, ◌+◌, ◌*◌, Bool, true, false, if◌then◌else◌, List, [], ◌∷◌, length, take, drop, Option, Some, None, nat_lt}
use Rattle.sc_model.specs.Script.{BadFrame, End, EndInFrame, IsEnded, IsOpen, Reader}
use Rattle.sc_model.specs.declared.message.Request.{Request}

-- what stands at the front
pub data Front : Type 0 where
  -- no whole frame
  Part : Front
  -- a length over the limit, or a payload that spells no request
  Bad : Front
  Frame : (request : Request) (rest : List ℕ) → Front

abbrev pub decoded : Option Request → List ℕ → Front
decoded None rest = Bad
decoded (Some r) rest = Frame r rest

abbrev pub framed : ℕ → (List ℕ → Option Request) → ℕ → List ℕ → Front
framed limit decode n b = if nat_lt limit n then Bad else (if nat_lt (length b) n then Part else decoded (decode (take n b)) (drop n b))

abbrev pub front : ℕ → (List ℕ → Option Request) → List ℕ → Front
front limit decode (x ∷ y ∷ z ∷ w ∷ b) = framed limit decode (((x * 256 + y) * 256 + z) * 256 + w) b
front limit decode _ = Part

-- at most so many frames from the front, and the bytes behind them

abbrev pub read_requests : ℕ → (List ℕ → Option Request) → ℕ → List ℕ → List Request
read_requests limit decode zero b = []
read_requests limit decode (suc n) b = elim (front limit decode b) [ Part ↦ [] | Bad ↦ [] | Frame r rest ↦ r ∷ read_requests limit decode n rest ]

abbrev pub read_rest : ℕ → (List ℕ → Option Request) → ℕ → List ℕ → List ℕ
read_rest limit decode zero b = b
read_rest limit decode (suc n) b = elim (front limit decode b) [ Part ↦ b | Bad ↦ b | Frame r rest ↦ read_rest limit decode n rest ]

abbrev pub end_left : Bool → List ℕ → End
end_left false b = IsOpen
end_left true [] = IsEnded
end_left true (x ∷ b) = EndInFrame

abbrev pub end_at_front : Front → Bool → List ℕ → End
end_at_front Part closed b = end_left closed b
end_at_front Bad closed b = BadFrame
end_at_front (Frame r rest) closed b = IsOpen

-- the reader of a limit and of what payloads spell
abbrev pub stream_reader : ℕ → (List ℕ → Option Request) → Reader
stream_reader limit decode = record {
  requests = λ b. read_requests limit decode (length b) b;
  rest = λ b. read_rest limit decode (length b) b;
  ends = λ b closed. end_at_front (front limit decode (read_rest limit decode (length b) b)) closed (read_rest limit decode (length b) b);
}
