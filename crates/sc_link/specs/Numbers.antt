-- How links in memory are numbered, and what connectors and acceptors in memory answer.
use Rattle.std.specs.Prelude.{ℕ, ◌+◌, ◌-◌, ◌^◌, ◌==◌, if◌then◌else◌, Bool, true, false, List, [], ◌∷◌, Result, Ok, Err}
use Rattle.sc_link.specs.declared.mem_link.MemLink.{MemLink}
use Rattle.sc_link.specs.declared.acceptor.Accepted.{Accepted}
use Rattle.sc_link.specs.declared.acceptor.Accepted.TheVariants.{Link, Closed}
use Rattle.sc_link.specs.declared.link_error.ConnectError.{ConnectError}
use Rattle.sc_link.specs.declared.link_error.ConnectError.TheVariants.{LinkFault}

-- the same link with a number
abbrev pub numbered : ℕ → MemLink → MemLink
numbered number link = record link { number = number }

-- links as they are given, the first with this number
abbrev pub numbered_from : List MemLink → ℕ → List MemLink
numbered_from [] number = []
numbered_from (link ∷ links) number = numbered number link ∷ numbered_from links (number + 1)

-- what a connector in memory answers, by whether the call is one that it refuses, and the links that are left
abbrev pub connect_answer : Bool → List MemLink → Result MemLink ConnectError
connect_answer true links = Err LinkFault
connect_answer false [] = Err LinkFault
connect_answer false (link ∷ links) = Ok (numbered 0 link)

-- what an acceptor in memory answers, by the links that are left and how many were given
abbrev pub accept_answer : List MemLink → ℕ → Accepted MemLink
accept_answer [] given = Closed
accept_answer (link ∷ links) given = if given == 2 ^ 64 - 1 then Closed else Link (numbered given link)
