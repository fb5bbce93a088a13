-- Frames: a payload's length, the highest byte first, and the payload.
use Rattle.std.specs.Prelude.{◌≡◌, ℕ, ◌+◌, ◌*◌, ◌<◌, ◌≤◌, ◌^◌, if◌then◌else◌, List, [], ◌∷◌, ◌++◌, length, take, drop, Option, Some, None, Result, Ok, Err, nat_lt}
use Rattle.std.specs.Int.{w32, to_be_bytes}
use denote.Ref.{Bor}
use Rattle.sc_wire.specs.Codec.{Codec, Spells, read_all}
use Rattle.sc_wire.specs.declared.error.DecodeError.{DecodeError}
use Rattle.sc_wire.specs.declared.error.DecodeError.TheVariants.{NoMemory, BadFrame}
use Rattle.sc_wire.specs.declared.frame.FrameError.{FrameError}
use Rattle.sc_wire.specs.declared.frame.FrameError.TheVariants as refusals

-- a frame of a payload
abbrev pub frame : List ℕ → List ℕ
frame bytes = to_be_bytes w32 (length bytes) ++ bytes

-- what a framer holds: the bytes that came, less those of the frames that it gave
pub record Framing : Type 0 where
  pub limit : ℕ
  pub rest : List ℕ

-- the frame at the front of bytes
pub data Cut : Type 0 where
  -- it isn't whole
  Part : Cut
  -- it announces more bytes than the limit
  Long : Cut
  Payload : (payload : List ℕ) (rest : List ℕ) → Cut

abbrev pub cut_at : ℕ → ℕ → List ℕ → Cut
cut_at limit n bytes = if nat_lt limit n then Long else (if nat_lt (length bytes) n then Part else Payload (take n bytes) (drop n bytes))

-- a length is judged as soon as it is whole
abbrev pub cut : ℕ → List ℕ → Cut
cut limit (x ∷ y ∷ z ∷ w ∷ bytes) = cut_at limit (((x * 256 + y) * 256 + z) * 256 + w) bytes
cut limit _ = Part

-- the message of the frame at the front of bytes
pub data Ahead (A : Type 0) : Type 0 where
  -- its frame isn't whole
  Unfinished : Ahead A
  -- a length over the limit, or a payload that spells no message
  Fault : Ahead A
  Message : (message : A) (rest : List ℕ) → Ahead A

abbrev pub if_message : {A : Type 0} → Option A → List ℕ → Ahead A
if_message None rest = Fault
if_message (Some message) rest = Message message rest

abbrev pub message_of : {A : Type 0} → Codec A → Cut → Ahead A
message_of a Part = Unfinished
message_of a Long = Fault
message_of a (Payload payload rest) = if_message (read_all a payload) rest

unfoldable pub ahead : {A : Type 0} → Codec A → ℕ → List ℕ → Ahead A
ahead a limit bytes = message_of a (cut limit bytes)

-- The payload that was shown is that of the frame at the front.
abbrev pub Shows : Result (Option (Bor (List ℕ))) DecodeError → List ℕ → Cut → Type 0
Shows (Ok (Some payload)) bytes at_front = (at_front ≡ Payload payload.now (drop (4 + length payload.now) bytes)) × (4 + length payload.now ≤ length bytes)
Shows (Ok None) bytes at_front = at_front ≡ Part
Shows (Err NoMemory) bytes at_front = ⊥
Shows (Err BadFrame) bytes at_front = at_front ≡ Long

-- The message that was read is that at the front, with the length of its frame.
abbrev pub ShowsMessage : {A : Type 0} → Result (Option (A × ℕ)) DecodeError → List ℕ → Ahead A → Type 0
ShowsMessage (Ok (Some p)) bytes at_front = (at_front ≡ Message p.0 (drop p.1 bytes)) × (p.1 ≤ length bytes)
ShowsMessage (Ok None) bytes at_front = at_front ≡ Unfinished
ShowsMessage (Err NoMemory) bytes at_front = Unit {0}
ShowsMessage (Err BadFrame) bytes at_front = at_front ≡ Fault

-- The payload at the front is given and leaves with its frame. Else nothing changes.
abbrev pub GivesPayload : Result (Option (List ℕ)) DecodeError → Cut → Framing → Framing → Type 0
GivesPayload (Ok (Some payload)) at_front old new = (at_front ≡ Payload payload new.rest) × (new.limit ≡ old.limit)
GivesPayload (Ok None) at_front old new = (at_front ≡ Part) × (new ≡ old)
GivesPayload (Err NoMemory) at_front old new = new ≡ old
GivesPayload (Err BadFrame) at_front old new = (at_front ≡ Long) × (new ≡ old)

-- The message at the front is given and leaves with its frame. Else nothing changes.
abbrev pub GivesMessage : {A : Type 0} → Result (Option A) DecodeError → Ahead A → Framing → Framing → Type 0
GivesMessage (Ok (Some message)) at_front old new = (at_front ≡ Message message new.rest) × (new.limit ≡ old.limit)
GivesMessage (Ok None) at_front old new = (at_front ≡ Unfinished) × (new ≡ old)
GivesMessage (Err NoMemory) at_front old new = new ≡ old
GivesMessage (Err BadFrame) at_front old new = (at_front ≡ Fault) × (new ≡ old)

-- why no frame is made of a payload: it is over the limit
abbrev pub IsTooLong : FrameError → ℕ → List ℕ → Type 0
IsTooLong refusals.NoMemory limit payload = Unit {0}
IsTooLong (refusals.TooLong n) limit payload = (n ≡ length payload) × (limit < n)

-- What a value spells is read as that value and no other, alone and in a frame before any bytes.
pub record SpellsAndReads {A : Type 0} (a : Codec A) : Type 0 where
  pub read : (bytes : List ℕ) (message : A) → Spells a bytes message → read_all a bytes ≡ Some message
  pub spelled : (bytes : List ℕ) (message : A) → read_all a bytes ≡ Some message → Spells a bytes message
  pub framed : (limit : ℕ) (message : A) (after : List ℕ) → a.Fits message → limit < 2 ^ 32 → length (a.spell message) ≤ limit → ahead a limit (frame (a.spell message) ++ after) ≡ Message message after

-- No frame begins another.
abbrev pub FramesAreApart : Type 0
FramesAreApart = (p q after : List ℕ) → length p < 2 ^ 32 → length q < 2 ^ 32 → frame p ++ after ≡ frame q → (p ≡ q) × (after ≡ [])
