-- What an action sends.
use Rattle.std.specs.Prelude.{◌≡◌, ℕ, ◌<◌, ◌≤◌, List, ◌++◌, length, Option, Some, None}
use Rattle.sc_daemon_job.specs.Setups.{Config, setup}
use Rattle.sc_model.specs.Trace.{frame_bytes}
use Rattle.sc_model.specs.declared.message.Response.{Response}
use Rattle.sc_wire.specs.Frames.{frame}

-- A reply, which is spelled so, was sent where its payload is within the limit; else nothing was, and its payload's length is told.
abbrev pub Sends : (Response → List ℕ) → ℕ → Response → List ℕ → List ℕ → Option ℕ → Type 0
Sends payload limit reply old new None = (new ≡ old ++ frame (payload reply)) × (length (payload reply) ≤ limit)
Sends payload limit reply old new (Some n) = (new ≡ old) × (n ≡ length (payload reply)) × (limit < n)

-- what was sent before, and these replies' frames
abbrev pub Adds : Config → List Response → List ℕ → List ℕ → Type 0
Adds k replies old new = new ≡ old ++ frame_bytes (setup k) replies
