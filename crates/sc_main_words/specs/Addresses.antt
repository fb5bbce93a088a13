-- The address of a server, as one word.
use Rattle.std.specs.Prelude.{ℕ, List, [], ◌∷◌, Option, option_map, Bool, true, false, ◌&&◌, nat_le, if◌then◌else◌}
use Rattle.std.specs.Str.{is_utf8}
use Rattle.std.specs.declared.net.ipv4_addr.TheConstants.Ipv4Addr.{LOCALHOST}
use Rattle.sc_wire_address.specs.Addresses.{parsed}
use Rattle.sc_wire_address.specs.declared.socket_addr.SocketAddr.{SocketAddr}
use Rattle.sc_wire_address.specs.declared.socket_addr.SocketAddr.TheVariants.{Net}
use Rattle.sc_words.specs.Words.{◌>>=◌, only_if}
use Rattle.sc_main_script_words.specs.Fields.{number_in}

abbrev pub are_digits : List ℕ → Bool
are_digits [] = true
are_digits (c ∷ word) = nat_le 48 c && nat_le c 57 && are_digits word

-- digits alone, one at least
abbrev pub is_digits : List ℕ → Bool
is_digits [] = false
is_digits (c ∷ word) = are_digits (c ∷ word)

-- a port of this machine: of 127.0.0.1
abbrev pub at_port : ℕ → SocketAddr
at_port n = Net (record { ip = LOCALHOST; port = n })

unfoldable pub port_of : List ℕ → Option SocketAddr
port_of word = option_map at_port (number_in 0 65535 word)

-- a Unix socket's address, whose word is UTF-8
unfoldable pub unix_of : List ℕ → Option SocketAddr
unix_of word = do
  text ← only_if (is_utf8 word) word
  parsed text

-- digits alone are a port, and nothing else is one
unfoldable pub address_of : List ℕ → Option SocketAddr
address_of word = if is_digits word then port_of word else unix_of word
