-- Addresses as texts.
use Rattle.std.specs.Prelude.{ℕ, List, ◌++◌, Option, Some, None, option_map, Bool, true, false, if◌then◌else◌, take, drop, codes, bytes_eq, decimal}
use Rattle.std.specs.Net.Addr.{ipv4_octets}
use Rattle.std.specs.Net.Text.{ipv4_text}
use Rattle.sc_wire_address.specs.Escapes.{escaped, unescaped}
use Rattle.sc_wire_address.specs.declared.address_error.AddressError.{AddressError}
use Rattle.sc_wire_address.specs.declared.address_error.AddressError.TheVariants.{BadEscape, NoMemory}
use Rattle.sc_wire_address.specs.declared.socket_addr.NetAddr.{NetAddr}
use Rattle.sc_wire_address.specs.declared.socket_addr.SocketAddr.{SocketAddr}
use Rattle.sc_wire_address.specs.declared.socket_addr.SocketAddr.TheVariants.{Net, Unix, UnixAbstract}

-- what the text of an abstract name begins with
abbrev pub mark : List ℕ
mark = codes "\\x00"

abbrev pub is_marked : List ℕ → Bool
is_marked text = bytes_eq (take 4 text) mark

-- the address of a Unix socket that a text names; none where an escape is broken
abbrev pub parsed : List ℕ → Option SocketAddr
parsed text = if is_marked text then option_map UnixAbstract (unescaped (drop 4 text)) else Some (Unix text)

-- an address as it is printed
abbrev pub net_text : NetAddr → List ℕ
net_text a = ipv4_text (ipv4_octets a.ip) ++ codes ":" ++ decimal a.port

abbrev pub address_text : SocketAddr → List ℕ
address_text (Net a) = net_text a
address_text (Unix path) = path
address_text (UnixAbstract name) = mark ++ escaped name

abbrev pub net_of : SocketAddr → Option NetAddr
net_of (Net a) = Some a
net_of _ = None

abbrev pub is_unix_path : SocketAddr → Bool
is_unix_path (Unix path) = true
is_unix_path _ = false

abbrev pub error_text : AddressError → List ℕ
error_text NoMemory = codes "out of memory"
error_text BadEscape = codes "bad escape"
