-- What a maker of acceptors in memory answers.
use Rattle.std.specs.Prelude.{Bool, true, false, List, [], ◌∷◌, Result, Ok, Err}
use Rattle.sc_wire_address.specs.declared.socket_addr.SocketAddr.{SocketAddr}
use Rattle.sc_link.specs.declared.link_error.ListenError.{ListenError}
use Rattle.sc_link.specs.declared.link_error.ListenError.TheVariants as listen_errors
use Rattle.sc_link.specs.declared.mem_acceptor.MemAcceptor.{MemAcceptor}
use Rattle.sc_link.specs.declared.mem_acceptor_maker.MemListening.{MemListening}
use Rattle.sc_link.specs.declared.mem_acceptor_maker.MemListening.TheVariants.{Links, AddrInUse}

-- the answer of the list whose turn it is
abbrev pub listed_answer : SocketAddr → List MemListening → Result MemAcceptor ListenError
listed_answer addr [] = Err listen_errors.AcceptFault
listed_answer addr (AddrInUse ∷ answers) = Err listen_errors.AddrInUse
listed_answer addr (Links links calls ∷ answers) = Ok (record { address = addr; links = links; given = 0; calls = calls })

abbrev pub without_first : List MemListening → List MemListening
without_first [] = []
without_first (answer ∷ answers) = answers

-- the answer to a call, by whether it is one that the maker refuses
abbrev pub listen_answer : SocketAddr → Bool → List MemListening → Result MemAcceptor ListenError
listen_answer addr true answers = Err listen_errors.AcceptFault
listen_answer addr false answers = listed_answer addr answers
