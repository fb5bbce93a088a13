-- What a connector is asked and gives, and why it refuses.
use Rattle.std.specs.Prelude.{◌≡◌, ℕ, Bool, true, false, List, [], ◌∷◌, ◌++◌, Option, Result, Ok, Err}
use Rattle.sc_entry.specs.Causes.{Rose, Told}
use Rattle.sc_wire_address.specs.declared.socket_addr.SocketAddr.{SocketAddr}
use Rattle.sc_wire_address.specs.declared.socket_addr.SocketAddr.TheVariants.{Net, Unix, UnixAbstract}
use Rattle.sc_link.specs.declared.link_error.ConnectError.{ConnectError}
use Rattle.sc_link.specs.declared.link_error.ConnectError.TheVariants as connect_errors

-- the name of a Unix socket that has no path
abbrev pub is_abstract : SocketAddr → Bool
is_abstract (Net addr) = false
is_abstract (Unix path) = false
is_abstract (UnixAbstract name) = true

-- the list of what was asked gains one address
abbrev pub Gains : SocketAddr → Option (List SocketAddr) → Option (List SocketAddr) → Type 0
Gains addr before now = Told (λ old new. new ≡ old ++ addr ∷ []) before now

-- Each call asks for its address once, also where it is refused; one that ends for want of memory asks for nothing.
abbrev pub AsksOnce : {K : Type 0} → Result K ConnectError → SocketAddr → Option (List SocketAddr) → Option (List SocketAddr) → Type 0
AsksOnce (Ok link) addr before now = Gains addr before now
AsksOnce (Err connect_errors.NoMemory) addr before now = now ≡ before
AsksOnce (Err connect_errors.LinkFault) addr before now = Gains addr before now

-- The link that is given is the first of those to be given; a refused call leaves them all.
abbrev pub GivesFirst : {K : Type 0} → Result K ConnectError → List K → List K → Type 0
GivesFirst (Ok link) before now = before ≡ link ∷ now
GivesFirst (Err error) before now = now ≡ before

-- A connector's count of faults over a call: it rises where the call was refused, and nowhere else.
abbrev pub ConnectCause : {K : Type 0} → ℕ → ℕ → Result K ConnectError → Type 0
ConnectCause before now (Ok link) = now ≡ before
ConnectCause before now (Err connect_errors.NoMemory) = now ≡ before
ConnectCause before now (Err connect_errors.LinkFault) = Rose before now

-- a fact of a call that didn't end for want of memory
abbrev pub IfAnswered : {K : Type 0} → Result K ConnectError → Type 0 → Type 0
IfAnswered (Ok link) P = P
IfAnswered (Err connect_errors.NoMemory) P = Unit {0}
IfAnswered (Err connect_errors.LinkFault) P = P
