-- When a server is to stop, and why.
use Rattle.std.specs.Prelude.{ℕ, ◌-◌, ◌<◌, ◌≤◌, Bool, true, false, ◌&&◌, nat_lt, nat_le, List, Option, Some, None}
use Rattle.std.specs.List.{list_any}
use Rattle.sc_server_activity.specs.declared.server_message.ServerMessage.{ServerMessage}
use Rattle.sc_server_activity.specs.declared.server_message.ServerMessage.TheVariants as messages
use Rattle.sc_server_activity.specs.declared.stop_cause.StopCause.{StopCause}
use Rattle.sc_server_activity.specs.declared.stop_cause.StopCause.TheVariants as causes

abbrev pub is_request : ServerMessage → Bool
is_request messages.Request = true
is_request messages.Shutdown = false

abbrev pub is_shutdown : ServerMessage → Bool
is_shutdown messages.Request = false
is_shutdown messages.Shutdown = true

abbrev pub has_request : List ServerMessage → Bool
has_request standing = list_any is_request standing

abbrev pub has_shutdown : List ServerMessage → Bool
has_shutdown standing = list_any is_shutdown standing

-- An idle time, which isn't 0, has passed since a moment. The time since a moment that isn't earlier is 0.
abbrev pub HasPassed : ℕ → ℕ → ℕ → Type 0
HasPassed idle_time since now = (0 < idle_time) × (idle_time ≤ now - since)

-- the same as a test
abbrev pub has_passed : ℕ → ℕ → ℕ → Bool
has_passed idle_time since now = nat_lt 0 idle_time && nat_le idle_time (now - since)

-- the first cause that holds, of a Shutdown that was taken, messages that were closed, and an idle time that has passed
abbrev pub cause_of : Bool → Bool → Bool → Option StopCause
cause_of true is_closed has_idled = Some causes.Shutdown
cause_of false true has_idled = Some causes.Closed
cause_of false false true = Some causes.Idle
cause_of false false false = None
