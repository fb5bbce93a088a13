-- How a connection is made by eleven connects at most.
use Rattle.std.specs.Prelude.{◌≡◌, ◌⊎◌, ℕ, ◌+◌, ◌≤◌, List, ◌∷◌, Option, Result, Ok, Err}
use Rattle.sc_entry.specs.Causes.{Told}
use Rattle.sc_link.specs.declared.link_error.ConnectError.{ConnectError}
use Rattle.sc_link.specs.declared.link_error.ConnectError.TheVariants as connect_errors
use Rattle.sc_wire_address.specs.declared.socket_addr.SocketAddr.{SocketAddr}
use Rattle.sc_client.specs.Connecting.{Gains, RoseBy}
use Rattle.sc_client.specs.Conversations.{Conversation}
use Rattle.sc_client.specs.declared.client_error.ClientError.{ClientError}
use Rattle.sc_client.specs.declared.client_error.ClientError.TheVariants.{NoMemory, TimedOut}

-- one of several connects: a connection over the link that was given, or the refusal
abbrev pub Tries : {K : Type 0} → (K → Conversation) → Result K ConnectError → Result (Result Conversation ConnectError) ClientError → Type 0
Tries begun (Ok link) (Ok (Ok connection)) = connection ≡ begun link
Tries begun (Ok link) (Ok (Err refused)) = ⊥
Tries begun (Ok link) (Err error) = error ≡ NoMemory
Tries begun (Err connect_errors.NoMemory) (Ok made) = ⊥
Tries begun (Err connect_errors.NoMemory) (Err error) = error ≡ NoMemory
Tries begun (Err connect_errors.LinkFault) (Ok (Ok connection)) = ⊥
Tries begun (Err connect_errors.LinkFault) (Ok (Err refused)) = refused ≡ connect_errors.LinkFault
Tries begun (Err connect_errors.LinkFault) (Err error) = ⊥

-- a connection over the first link of those to be given
abbrev pub IsOverFirst : {K : Type 0} → (K → Conversation) → Conversation → Option (List K) → Option (List K) → Type 0
IsOverFirst {K} begun connection before now = (link : K) × (connection ≡ begun link) × Told (λ old new. old ≡ link ∷ new) before now

-- The address was asked for once more than a pause of 500,000,000 ns was handed to the clock: at most ten were. Each connect but one
-- that gave a link was refused. `TimedOut` comes exactly after eleven that were refused, for what the last was.
abbrev pub Retries : {K : Type 0} → (K → Conversation) → SocketAddr → Option (List SocketAddr) → Option (List SocketAddr) → Option (List ℕ) → Option (List ℕ) → Option (List K) → Option (List K) → ℕ → ℕ → Result Conversation ClientError → Type 0
Retries begun addr asked now_asked paused now_paused links now_links before now (Ok connection) =
    (n : ℕ) × (n ≤ 10) × Gains (n + 1) addr asked now_asked × Gains n 500000000 paused now_paused × RoseBy n before now × IsOverFirst begun connection links now_links
Retries begun addr asked now_asked paused now_paused links now_links before now (Err (TimedOut refused)) =
    (refused ≡ connect_errors.LinkFault) × Gains 11 addr asked now_asked × Gains 10 500000000 paused now_paused × RoseBy 11 before now × (now_links ≡ links)
Retries begun addr asked now_asked paused now_paused links now_links before now (Err NoMemory) =
    (n : ℕ) × (n ≤ 10) × (Gains n addr asked now_asked ⊎ Gains (n + 1) addr asked now_asked) × Gains n 500000000 paused now_paused × RoseBy n before now
Retries begun addr asked now_asked paused now_paused links now_links before now (Err error) = ⊥
