-- What is known of a program's streams, of what is outside, and of the parts that this makes.
use Rattle.std.specs.Prelude.{ℕ, Bool, List, Option, Result}
use Rattle.sc_client.specs.Conversations.{Conversation}
use Rattle.sc_client.specs.declared.client_error.ClientError.{ClientError}
use Rattle.sc_command.specs.declared.output.Output.{Output}
use Rattle.sc_compile.specs.declared.tool.Tool.{Tool}
use Rattle.sc_entry.specs.Causes.{Rose, Told}
use Rattle.sc_entry.specs.Streams.{ReadsToEnd, WritesAll}
use Rattle.sc_main.specs.ServeCommand.{Doors}
use Rattle.sc_main_client.specs.Connecting.{Connects}
use Rattle.sc_main_outside.specs.declared.surroundings.Surroundings.{Surroundings}
use Rattle.sc_wire_address.specs.declared.socket_addr.SocketAddr.{SocketAddr}

-- S, O, E: the input, the output and standard error; X: what is outside; C, K: connectors and their links; P, T: probes and creators
-- of commands; M, A, L: makers of acceptors, acceptors and their links; H: clocks
pub record Platform (S O E X C K P T M A L H : Type 0) : Type 1 where
  pub left : S → Option (List ℕ)
  pub input_faults : S → ℕ
  pub written : O → Option (List ℕ)
  pub output_faults : O → ℕ
  pub error_written : E → Option (List ℕ)
  pub error_faults : E → ℕ
  pub around : X → Option Surroundings
  pub faults : X → ℕ
  pub asked : C → Option (List SocketAddr)
  pub links : C → Option (List K)
  pub connector_faults : C → ℕ
  pub begun : K → Conversation
  pub table : P → Option (List Tool)
  -- these words were given to what was found, in a folder, with its streams collected or not: the creator before and behind
  pub runs : List (List ℕ) → List ℕ → List ℕ → Bool → T → T → Result Output ClientError → Type 0
  pub creator_faults : T → ℕ
  pub maker_faults : M → ℕ
  pub doors : Doors A L
  pub moments : H → Option (List ℕ)
  pub pauses : H → Option (List ℕ)

-- the streams and what is outside, at a moment
pub record Stage (S O E X : Type 0) : Type 0 where
  pub input : S
  pub out : O
  pub err : E
  pub outside : X

abbrev pub stage : {S O E X : Type 0} → S → O → E → X → Stage S O E X
stage input out err outside = record { input = input; out = out; err = err; outside = outside }

module _ {S O E X C K P T M A L H : Type 0} where
  -- the input was read to its end, which is at 67,108,864 bytes at the latest
  abbrev pub read : Platform S O E X C K P T M A L H → Stage S O E X → Stage S O E X → List ℕ → Type 0
  read p a b bytes = Told (ReadsToEnd 67108864 bytes) (p.left a.input) (p.left b.input)

  -- this was written to the output, or to standard error, and no more
  abbrev pub wrote : Platform S O E X C K P T M A L H → Stage S O E X → Stage S O E X → List ℕ → Type 0
  wrote p a b text = Told (WritesAll text) (p.written a.out) (p.written b.out)

  abbrev pub told : Platform S O E X C K P T M A L H → Stage S O E X → Stage S O E X → List ℕ → Type 0
  told p a b text = Told (WritesAll text) (p.error_written a.err) (p.error_written b.err)

  -- a stream's count of refusals rose
  abbrev pub read_rose : Platform S O E X C K P T M A L H → Stage S O E X → Stage S O E X → Type 0
  read_rose p a b = Rose (p.input_faults a.input) (p.input_faults b.input)

  abbrev pub write_rose : Platform S O E X C K P T M A L H → Stage S O E X → Stage S O E X → Type 0
  write_rose p a b = Rose (p.output_faults a.out) (p.output_faults b.out)

  abbrev pub tell_rose : Platform S O E X C K P T M A L H → Stage S O E X → Stage S O E X → Type 0
  tell_rose p a b = Rose (p.error_faults a.err) (p.error_faults b.err)

  -- a connection to the server at an address was asked for once, by a connector of what is outside
  abbrev pub connects : Platform S O E X C K P T M A L H → Stage S O E X → Stage S O E X → SocketAddr → Result Conversation ClientError → Type 0
  connects p a b addr begun = Connects addr p.asked p.links p.connector_faults p.begun (p.faults a.outside) (p.faults b.outside) begun
