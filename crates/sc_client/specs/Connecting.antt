-- How a connection is made: by one connect, or by eleven at most.
use Rattle.std.specs.Prelude.{◌≡◌, ℕ, ◌+◌, ◌-◌, ◌^◌, ◌≤◌, min, replicate, List, [], ◌∷◌, ◌++◌, Option, Result, Ok, Err}
use Rattle.sc_entry.specs.Causes.{Told}
use Rattle.sc_link.specs.Connecting.{ConnectCause, AsksOnce, GivesFirst}
use Rattle.sc_link.specs.declared.link_error.ConnectError.{ConnectError}
use Rattle.sc_link.specs.declared.link_error.ConnectError.TheVariants as connect_errors
use Rattle.sc_wire_address.specs.declared.socket_addr.SocketAddr.{SocketAddr}
use Rattle.sc_client.specs.Conversations.{Conversation}
use Rattle.sc_client.specs.Refusals.{of_connect}
use Rattle.sc_client.specs.declared.client_error.ClientError.{ClientError}
use Rattle.sc_client.specs.declared.client_error.ClientError.TheVariants as client_errors

-- a connection over the link that was given, unless memory runs out; else the connector's refusal
abbrev pub Begins : {K : Type 0} → (K → Conversation) → Result K ConnectError → Result Conversation ClientError → Type 0
Begins begun (Ok link) (Ok connection) = connection ≡ begun link
Begins begun (Ok link) (Err error) = error ≡ client_errors.NoMemory
Begins begun (Err refused) result = result ≡ Err (of_connect refused)

-- One connect was asked for, and this was its answer.
pub record ConnectsOnce {K : Type 0} (addr : SocketAddr) (answer : Result K ConnectError) (asked now_asked : Option (List SocketAddr)) (links now_links : Option (List K)) (before now : ℕ) : Type 0 where
  pub asked_once : AsksOnce answer addr asked now_asked
  pub first : Told (GivesFirst answer) links now_links
  pub caused : ConnectCause before now answer

-- A list gained so many of one value.
abbrev pub Gains : {A : Type 0} → ℕ → A → Option (List A) → Option (List A) → Type 0
Gains n x before now = Told (λ old new. new ≡ old ++ replicate n x) before now

-- A count went up by so much at least, or stands at the end of u64.
abbrev pub RoseBy : ℕ → ℕ → ℕ → Type 0
RoseBy n before now = min (before + n) (2 ^ 64 - 1) ≤ now
