-- What an acceptor gives, and why it gives none.
use Rattle.std.specs.Prelude.{◌≡◌, ℕ, ◌+◌, ◌-◌, ◌^◌, ◌⊎◌, List, [], ◌∷◌, Option, Some, None, Result, Ok, Err}
use Rattle.sc_entry.specs.Causes.{Rose}
use Rattle.sc_link.specs.declared.acceptor.Accepted.{Accepted}
use Rattle.sc_link.specs.declared.acceptor.Accepted.TheVariants.{Link, NotYet, Closed}
use Rattle.sc_link.specs.declared.link_error.AcceptFault.{AcceptFault}

-- a fact of a link that was given
abbrev pub IfLink : {K : Type 0} → Result (Accepted K) AcceptFault → (K → Type 0) → Type 0
IfLink (Ok (Link link)) P = P link
IfLink (Ok NotYet) P = Unit {0}
IfLink (Ok Closed) P = Unit {0}
IfLink (Err fault) P = Unit {0}

-- The link that is given is the first that was ready; "not yet" is answered only where none was, and all else leaves them.
abbrev pub AcceptsOnce : {K : Type 0} → Result (Accepted K) AcceptFault → List K → List K → Type 0
AcceptsOnce (Ok (Link link)) before now = before ≡ link ∷ now
AcceptsOnce (Ok NotYet) before now = (before ≡ []) × (now ≡ [])
AcceptsOnce (Ok Closed) before now = now ≡ before
AcceptsOnce (Err fault) before now = now ≡ before

-- An acceptor is closed only where it tells that no link is left, or has given as many as there are numbers for.
abbrev pub IsClosed : {K : Type 0} → ℕ → Option (List K) → Type 0
IsClosed given None = given ≡ 2 ^ 64 - 1
IsClosed given (Some links) = (links ≡ []) ⊎ (given ≡ 2 ^ 64 - 1)

abbrev pub ClosedCause : {K : Type 0} → Result (Accepted K) AcceptFault → ℕ → Option (List K) → Type 0
ClosedCause (Ok (Link link)) given ready = Unit {0}
ClosedCause (Ok NotYet) given ready = Unit {0}
ClosedCause (Ok Closed) given ready = IsClosed given ready
ClosedCause (Err fault) given ready = Unit {0}

-- how many links were given after one call more
abbrev pub given_after : {K : Type 0} → Result (Accepted K) AcceptFault → ℕ → ℕ
given_after (Ok (Link link)) given = given + 1
given_after (Ok NotYet) given = given
given_after (Ok Closed) given = given
given_after (Err fault) given = given

-- An acceptor's count of faults over a call: it rises where the call was refused, and nowhere else.
abbrev pub AcceptCause : {K : Type 0} → ℕ → ℕ → Result (Accepted K) AcceptFault → Type 0
AcceptCause before now (Ok answer) = now ≡ before
AcceptCause before now (Err fault) = Rose before now
