-- How a request comes on a connection.
use Rattle.std.specs.Prelude.{ℕ, List}
use Rattle.sc_model.specs.declared.message.Request.{Request}
use Rattle.sc_wire.specs.Frames.{frame}
use Rattle.sc_wire.specs.Requests.{request}

-- the frame of a request
unfoldable pub frame_of : Request → List ℕ
frame_of asked = frame (request.spell asked)
