-- The frame of a request, by whether its payload is too long for one.
use Rattle.std.specs.Prelude.{◌≡◌, ℕ, Bool, true, false, List, Result, Ok, Err}
use Rattle.std.specs.Global.{Vec}
use Rattle.sc_wire.specs.Frames.{frame}
use Rattle.sc_client.specs.declared.request_error.RequestError.{RequestError}
use Rattle.sc_client.specs.declared.request_error.RequestError.TheVariants.{NoMemory, BadFrame, EndOfStream, ReadFault, WriteFault}

abbrev pub FramesOf : Bool → List ℕ → Result (Vec ℕ) RequestError → Type 0
FramesOf true payload (Ok bytes) = ⊥
FramesOf false payload (Ok bytes) = bytes.items ≡ frame payload
FramesOf long payload (Err NoMemory) = Unit {0}
FramesOf true payload (Err BadFrame) = Unit {0}
FramesOf false payload (Err BadFrame) = ⊥
FramesOf long payload (Err EndOfStream) = ⊥
FramesOf long payload (Err ReadFault) = ⊥
FramesOf long payload (Err WriteFault) = ⊥
