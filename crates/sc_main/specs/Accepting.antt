-- What a server does for all its links, the newest first.
use Rattle.std.specs.Prelude.{◌≡◌, ℕ, suc, ◌+◌, Bool, true, false, List, [], ◌∷◌, ◌++◌, Option, Some, None, Result, Ok, Err, length, option_map}
use Rattle.sc_clock.specs.Moments.{with_pause}
use Rattle.sc_daemon.specs.Sessions.{Session}
use Rattle.sc_entry.specs.Causes.{Rose, Told}
use Rattle.sc_main.specs.Deeds.{Heard, Ticks_once, polled, renewed}
use Rattle.sc_main.specs.Serving.{ServesLink, Wire}
use Rattle.sc_main.specs.declared.after_accept.AfterAccept.{AfterAccept}
use Rattle.sc_main.specs.declared.after_accept.AfterAccept.TheVariants.{Later, Never, Now}
use Rattle.sc_main.specs.declared.link_end.LinkEnd.{LinkEnd}
use Rattle.sc_main.specs.declared.serve_error.ServeError.{ServeError}
use Rattle.sc_main.specs.declared.serve_error.ServeError.TheVariants.{AcceptFault, NoMemory}
use Rattle.sc_server_activity.specs.declared.stop_cause.StopCause.{StopCause}

-- what a server works by: its session, what it waits by, and the clock's moments and pauses
pub record Desk : Type 0 where
  pub session : Session
  pub heard : Heard
  pub moments : Option (List ℕ)
  pub pauses : Option (List ℕ)

abbrev pub desk : Session → Heard → Option (List ℕ) → Option (List ℕ) → Desk
desk session heard moments pauses = record { session = session; heard = heard; moments = moments; pauses = pauses }

-- one turn; K: the links
pub data Turn (K : Type 0) : Type 0 where
  -- a link was accepted, and served until it was left so
  Link : (link left : K) (end : LinkEnd) → Turn K
  -- the messages were polled
  Poll : Turn K
  -- the clock was handed a pause
  Pause : Turn K

-- a link was served as it came, over a connection of its own; the messages are to be polled behind it
pub record Visits (end : LinkEnd) (k k2 : Wire) (old new : Desk) : Type 0 where
  pub session : Session
  pub serves : ServesLink end k k2 old.moments new.moments old.heard (record new.heard { is_polled = true }) old.session session
  pub unpolled : new.heard.is_polled ≡ false
  pub renews : new.session ≡ renewed session
  pub pauses : new.pauses ≡ old.pauses

-- the messages were polled at the clock's moment
pub record Polls (old new : Desk) : Type 0 where
  pub now : ℕ
  pub ticks : Ticks_once now old.moments new.moments
  pub heard : new.heard ≡ polled now old.heard
  pub same : new ≡ record old { heard = new.heard; moments = new.moments }

-- A turn. A link is accepted, or a pause made, only where the messages were polled behind the link before, and no poll has found that the
-- server is to stop.
abbrev pub Takes_turn : {K : Type 0} → (K → Wire) → Turn K → Desk → Desk → Type 0
Takes_turn known (Link link left end) old new = (old.heard.is_polled ≡ true) × (old.heard.wait.cause ≡ None) × Visits end (known link) (known left) old new
Takes_turn known Poll old new = Polls old new
Takes_turn known Pause old new = (old.heard.is_polled ≡ true) × (old.heard.wait.cause ≡ None) × (new ≡ record old { pauses = option_map (with_pause 10000000) old.pauses })

-- turns, one after the other
abbrev pub Turns : {K : Type 0} → (K → Wire) → List (Turn K) → Desk → Desk → Type 0
Turns known [] old new = new ≡ old
Turns known (x ∷ t) old new = (d : Desk) × Turns known t old d × Takes_turn known x d new

-- the links that were accepted, in order
abbrev pub links_of : {K : Type 0} → List (Turn K) → List K
links_of [] = []
links_of (Link link left end ∷ t) = links_of t ++ link ∷ []
links_of (Poll ∷ t) = links_of t
links_of (Pause ∷ t) = links_of t

-- links are numbered from here on
abbrev pub AreFrom : {K : Type 0} → (K → ℕ) → ℕ → List K → Type 0
AreFrom number from [] = Unit {0}
AreFrom number from (link ∷ links) = (number link ≡ from) × AreFrom number (suc from) links

-- what is known of an acceptor: the links that are ready, and how many it gave
pub record Door (K : Type 0) : Type 0 where
  pub ready : Option (List K)
  pub given : ℕ

-- a link was accepted and served: it is the first that was ready, and has the next number
pub record AcceptsLink {K : Type 0} (known : K → Wire) (number : K → ℕ) (a a2 : Door K) (old new : Desk) : Type 0 where
  pub link : K
  pub left : K
  pub end : LinkEnd
  pub visits : Visits end (known link) (known left) old new
  pub first : Told (λ before after. before ≡ link ∷ after) a.ready a2.ready
  pub given : a2.given ≡ a.given + 1
  pub numbered : number link ≡ a.given

-- none was accepted, and all is as before
pub record AcceptsNone {K : Type 0} (a a2 : Door K) (old new : Desk) : Type 0 where
  pub same : new ≡ old
  pub ready : Told (λ before after. before ≡ after) a.ready a2.ready
  pub given : a2.given ≡ a.given

-- whether the messages were polled behind all links, once the acceptor was asked
abbrev pub polled_after : Result AfterAccept ServeError → Bool
polled_after (Ok Now) = false
polled_after (Ok Later) = true
polled_after (Ok Never) = true
polled_after (Err e) = true

-- what came of asking the acceptor once
abbrev pub AcceptsNext : {K : Type 0} → (K → Wire) → (K → ℕ) → Door K → Door K → ℕ → ℕ → Desk → Desk → Result AfterAccept ServeError → Type 0
AcceptsNext known number a a2 before now old new (Ok Now) = AcceptsLink known number a a2 old new × (now ≡ before)
AcceptsNext known number a a2 before now old new (Ok Later) = AcceptsNone a a2 old new × (now ≡ before)
AcceptsNext known number a a2 before now old new (Ok Never) = AcceptsNone a a2 old new × (now ≡ before)
AcceptsNext known number a a2 before now old new (Err AcceptFault) = AcceptsNone a a2 old new × Rose before now
AcceptsNext known number a a2 before now old new (Err NoMemory) = Unit {0}

-- Each link that the acceptor gave was served, in order, one after the other.
pub record ServesAll {K : Type 0} (known : K → Wire) (number : K → ℕ) (a a2 : Door K) (old new : Desk) : Type 0 where
  pub turns : List (Turn K)
  pub taken : Turns known turns old new
  pub links : Told (λ before after. before ≡ links_of turns ++ after) a.ready a2.ready
  pub given : a2.given ≡ a.given + length (links_of turns)
  pub numbers : AreFrom number a.given (links_of turns)

-- How that ended: because a poll was ready, for the cause that it found, or because the acceptor refused. Of want of memory
-- nothing is said.
abbrev pub EndsServing : {K : Type 0} → (K → Wire) → (K → ℕ) → Door K → Door K → ℕ → ℕ → Desk → Desk → Result StopCause ServeError → Type 0
EndsServing known number a a2 before now old new (Ok cause) = ServesAll known number a a2 old new × (new.heard.wait.cause ≡ Some cause) × (now ≡ before)
EndsServing known number a a2 before now old new (Err AcceptFault) = ServesAll known number a a2 old new × (new.heard.wait.cause ≡ None) × Rose before now
EndsServing known number a a2 before now old new (Err NoMemory) = Unit {0}

-- a fact, unless memory ran out
abbrev pub IfServed : Result StopCause ServeError → Type 0 → Type 0
IfServed (Err NoMemory) P = Unit {0}
IfServed (Err AcceptFault) P = P
IfServed (Ok cause) P = P

-- A server began at a moment of the clock, with nothing told, and served all until it ended.
pub record ServesFrom {K : Type 0} (known : K → Wire) (number : K → ℕ) (a a2 : Door K) (before now idle_time : ℕ) (session session2 : Session) (c c2 p p2 : Option (List ℕ)) (result : Result StopCause ServeError) : Type 0 where
  pub start : ℕ
  pub left : Option (List ℕ)
  pub ticks : Ticks_once start c left
  pub first : Heard
  pub standing : first.messages.standing ≡ []
  pub unclosed : first.messages.is_closed ≡ false
  pub idle : first.wait.idle_time ≡ idle_time
  pub active : first.wait.active_at ≡ start
  pub uncaused : first.wait.cause ≡ None
  pub caught_up : first.is_polled ≡ true
  pub last : Heard
  pub ends : EndsServing known number a a2 before now (desk session first left p) (desk session2 last c2 p2) result
