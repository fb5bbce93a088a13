-- What a maker of acceptors is asked and gives, and why it refuses.
use Rattle.std.specs.Prelude.{◌≡◌, ◌≢◌, ℕ, Option, List, Result, Ok, Err}
use Rattle.sc_entry.specs.Causes.{Rose}
use Rattle.sc_wire_address.specs.declared.socket_addr.SocketAddr.{SocketAddr}
use Rattle.sc_wire_address.specs.declared.socket_addr.SocketAddr.TheVariants.{Net, Unix, UnixAbstract}
use Rattle.sc_link.specs.Connecting.{Gains}
use Rattle.sc_link.specs.declared.link_error.ListenError.{ListenError}
use Rattle.sc_link.specs.declared.link_error.ListenError.TheVariants as listen_errors

-- Each call asks for its address once, also where it is refused; one that ends for want of memory asks for nothing.
abbrev pub ListensOnce : {K : Type 0} → Result K ListenError → SocketAddr → Option (List SocketAddr) → Option (List SocketAddr) → Type 0
ListensOnce (Ok acceptor) addr before now = Gains addr before now
ListensOnce (Err listen_errors.NoMemory) addr before now = now ≡ before
ListensOnce (Err listen_errors.AddrInUse) addr before now = Gains addr before now
ListensOnce (Err listen_errors.AcceptFault) addr before now = Gains addr before now

-- An acceptor listens at the address that was asked for. For the port 0 it may have any port of that host.
abbrev pub ListensAt : SocketAddr → SocketAddr → Type 0
ListensAt (Net asked) (Net addr) = (addr.ip ≡ asked.ip) × (asked.port ≢ 0 → addr.port ≡ asked.port)
ListensAt (Net asked) (Unix path) = ⊥
ListensAt (Net asked) (UnixAbstract name) = ⊥
ListensAt (Unix asked) addr = addr ≡ Unix asked
ListensAt (UnixAbstract asked) addr = addr ≡ UnixAbstract asked

-- A maker's count of faults over a call: it rises where the call was refused, and nowhere else.
abbrev pub ListenCause : {K : Type 0} → ℕ → ℕ → Result K ListenError → Type 0
ListenCause before now (Ok acceptor) = now ≡ before
ListenCause before now (Err listen_errors.NoMemory) = now ≡ before
ListenCause before now (Err listen_errors.AddrInUse) = Rose before now
ListenCause before now (Err listen_errors.AcceptFault) = Rose before now

-- a fact of a call that didn't end for want of memory
abbrev pub IfListens : {K : Type 0} → Result K ListenError → Type 0 → Type 0
IfListens (Ok acceptor) P = P
IfListens (Err listen_errors.NoMemory) P = Unit {0}
IfListens (Err listen_errors.AddrInUse) P = P
IfListens (Err listen_errors.AcceptFault) P = P
