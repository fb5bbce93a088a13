-- A connection to a server by a connector that what is outside made.
use Rattle.std.specs.Prelude.{◌≡◌, ℕ, List, Option, Result, Ok, Err}
use Rattle.sc_client.specs.Connecting.{Begins, ConnectsOnce}
use Rattle.sc_client.specs.Conversations.{Conversation}
use Rattle.sc_client.specs.declared.client_error.ClientError.{ClientError}
use Rattle.sc_client.specs.declared.client_error.ClientError.TheVariants as client_errors
use Rattle.sc_link.specs.declared.link_error.ConnectError.{ConnectError}
use Rattle.sc_main_outside.specs.Makings.{MakeCause}
use Rattle.sc_main_outside.specs.declared.make_error.MakeError.{MakeError}
use Rattle.sc_main_outside.specs.declared.make_error.MakeError.TheVariants as make_errors
use Rattle.sc_wire_address.specs.declared.socket_addr.SocketAddr.{SocketAddr}

-- why nothing was asked: a part that wasn't made counts as a link's fault
abbrev pub of_make : MakeError → ClientError
of_make make_errors.NoMemory = client_errors.NoMemory
of_make make_errors.MakeFault = client_errors.LinkFault

-- a connector was asked once for a link to the server at an address, over which the connection begins
pub record AsksConnector {C K : Type 0} (addr : SocketAddr) (asked : C → Option (List SocketAddr)) (links : C → Option (List K)) (faults : C → ℕ) (begun : K → Conversation) (connector : C) (result : Result Conversation ClientError) : Type 0 where
  pub left : C
  pub answer : Result K ConnectError
  pub connects : ConnectsOnce addr answer (asked connector) (asked left) (links connector) (links left) (faults connector) (faults left)
  pub begins : Begins begun answer result

abbrev pub AfterMaking : {C : Type 0} → (C → Result Conversation ClientError → Type 0) → Result C MakeError → Result Conversation ClientError → Type 0
AfterMaking asks (Ok connector) result = asks connector result
AfterMaking asks (Err error) result = result ≡ Err (of_make error)

-- A connector was made, and asked once; before, now: what is outside counted of refusals.
pub record Connects {C K : Type 0} (addr : SocketAddr) (asked : C → Option (List SocketAddr)) (links : C → Option (List K)) (faults : C → ℕ) (begun : K → Conversation) (before now : ℕ) (result : Result Conversation ClientError) : Type 0 where
  pub made : Result C MakeError
  pub cause : MakeCause before now made
  pub after : AfterMaking (AsksConnector addr asked links faults begun) made result
