-- How the command that serves ends.
use Rattle.std.specs.Prelude.{◌≡◌, ◌≤◌, ℕ, false, List, ◌++◌, codes, Option, pos, Result, Ok, Err, IfOk}
use Rattle.sc_daemon.specs.Daemons.{Kept, anew, new_daemon}
use Rattle.sc_daemon.specs.Lines.{new_line}
use Rattle.sc_daemon.specs.Sessions.{Session}
use Rattle.sc_daemon_owned.specs.State.{store_of}
use Rattle.sc_disk.specs.Disks.{DiskState}
use Rattle.sc_link.specs.Listening.{ListenCause, ListensAt}
use Rattle.sc_link.specs.declared.link_error.ListenError.{ListenError}
use Rattle.sc_link.specs.declared.link_error.ListenError.TheVariants as listen_errors
use Rattle.sc_main.specs.Accepting.{IfServed, ServesFrom}
use Rattle.sc_main.specs.Serving.{Wire}
use Rattle.sc_main.specs.declared.serve_error.ServeError.{ServeError}
use Rattle.sc_main.specs.declared.serve_error.ServeError.TheVariants as serve_errors
use Rattle.sc_main_client.specs.Ending.{TextEnds}
use Rattle.sc_main_client.specs.Asking.{AfterFirst}
use Rattle.sc_main_outside.specs.Makings.{MakeCause}
use Rattle.sc_main_outside.specs.declared.make_error.MakeError.{MakeError}
use Rattle.sc_main_outside.specs.declared.make_error.MakeError.TheVariants as make_errors
use Rattle.sc_main_report.specs.declared.ended.Ended.{Ended}
use Rattle.sc_main_report.specs.declared.ended.Ended.TheVariants as ended
use Rattle.sc_model.specs.declared.level.Policy.TheVariants.{Single}
use Rattle.sc_server_activity.specs.declared.stop_cause.StopCause.{StopCause}
use Rattle.sc_server_parts.specs.Making.{one_level}
use Rattle.sc_wire_address.specs.Addresses.{address_text}
use Rattle.sc_wire_address.specs.declared.socket_addr.SocketAddr.{SocketAddr}

-- what is printed once clients can connect
abbrev pub listening_line : SocketAddr → List ℕ
listening_line addr = codes "sccache: Listening on address " ++ address_text addr ++ codes "\n"

-- A daemon before its first step: over one store in a folder, whose files take at most so many bytes, with so many tokens.
pub record IsServerDaemon (dir : List ℕ) (bytes tokens : ℕ) (d : Kept) : Type 0 where
  pub main : DiskState
  pub pre : DiskState
  pub main_root : main.root ≡ dir
  pub pre_root : pre.root ≡ dir ++ codes "/preprocessor"
  pub store : d.state.config.store ≡ store_of (one_level bytes main pre)
  pub levels : d.state.config.levels ≡ (one_level bytes main pre).facts
  pub policy : d.state.config.policy ≡ Single
  pub tokens_are : d.state.config.tokens ≡ tokens
  pub limit : d.state.config.limit ≡ 8388608
  pub new : d ≡ new_daemon d.state

-- the end where a part wasn't made
abbrev pub unmade_end : MakeError → Ended
unmade_end make_errors.NoMemory = ended.NoMemory
unmade_end make_errors.MakeFault = ended.LinkFault

-- the end where no acceptor was made
abbrev pub unheard_end : ListenError → Ended
unheard_end listen_errors.NoMemory = ended.NoMemory
unheard_end listen_errors.AddrInUse = ended.LinkFault
unheard_end listen_errors.AcceptFault = ended.LinkFault

-- the end of a server: it was to stop, or why it wasn't
abbrev pub served_end : Result StopCause ServeError → Ended
served_end (Ok cause) = ended.Status (pos 0)
served_end (Err serve_errors.NoMemory) = ended.NoMemory
served_end (Err serve_errors.AcceptFault) = ended.LinkFault

-- what is known of acceptors and of the links that they give
pub record Doors (A K : Type 0) : Type 0 where
  pub address : A → SocketAddr
  pub ready : A → Option (List K)
  pub given : A → ℕ
  pub faults : A → ℕ
  pub wires : K → Wire
  pub number : K → ℕ

-- what a session and a clock were, and are
pub record Course : Type 0 where
  pub session : Session
  pub last : Session
  pub moments : Option (List ℕ)
  pub moments_left : Option (List ℕ)
  pub pauses : Option (List ℕ)
  pub pauses_made : Option (List ℕ)

-- links were served over an acceptor, for ten minutes without a request at most
abbrev pub ServesOver : {A K : Type 0} → Doors A K → Course → A → A → Result StopCause ServeError → Type 0
ServesOver doors course a a2 served =
    IfServed served (ServesFrom doors.wires doors.number (record { ready = doors.ready a; given = doors.given a }) (record { ready = doors.ready a2; given = doors.given a2 }) (doors.faults a) (doors.faults a2) 600000000000 course.session course.last course.moments course.moments_left course.pauses course.pauses_made served)

-- the end is that of what was served
pub record ServedEnds (served : Result StopCause ServeError → Type 0) (e : Ended) : Type 0 where
  pub result : Result StopCause ServeError
  pub done : served result
  pub end : e ≡ served_end result

-- The address was printed, and only then links were served.
pub record ServesAt {A K : Type 0} (doors : Doors A K) (wrote : List ℕ → Type 0) (write_rose : Type 0) (course : Course) (acceptor : A) (e : Ended) : Type 0 where
  pub left : A
  pub first : Ended
  pub printed : TextEnds (wrote (listening_line (doors.address acceptor))) write_rose first
  pub after : AfterFirst first (ServedEnds (ServesOver doors course acceptor left)) ((left ≡ acceptor) × (course.last ≡ course.session)) e

abbrev pub AfterListen : {A : Type 0} → (A → Ended → Type 0) → (same : Type 0) → Result A ListenError → Ended → Type 0
AfterListen does same (Ok acceptor) e = does acceptor e
AfterListen does same (Err error) e = (e ≡ unheard_end error) × same

-- A maker of acceptors made one for this address, or refused, which it counted; then links were served over it.
pub record Listens {M A K : Type 0} (doors : Doors A K) (maker_faults : M → ℕ) (addr : SocketAddr) (wrote : List ℕ → Type 0) (write_rose same : Type 0) (course : Course) (maker : M) (e : Ended) : Type 0 where
  pub left : M
  pub heard : Result A ListenError
  pub cause : ListenCause (maker_faults maker) (maker_faults left) heard
  pub place : IfOk heard (λ acceptor. ListensAt addr (doors.address acceptor) × (doors.given acceptor ≡ 0))
  pub after : AfterListen (ServesAt doors wrote write_rose course) same heard e

-- what became of parts that were to be made: what then was done with them, or the end
abbrev pub AfterMade : {M : Type 0} → (M → Ended → Type 0) → (same : Type 0) → Result M MakeError → Ended → Type 0
AfterMade does same (Ok part) e = does part e
AfterMade does same (Err error) e = (e ≡ unmade_end error) × same

-- a clock's part in what is done
abbrev pub by_clock : {C : Type 0} → (moments pauses : C → Option (List ℕ)) → Session → Session → C → C → Course
by_clock moments pauses session last clock clock2 =
    record { session = session; last = last; moments = moments clock; moments_left = moments clock2; pauses = pauses clock; pauses_made = pauses clock2 }

-- with a clock and a maker of acceptors
pub record ServesWith {C M A K : Type 0} (doors : Doors A K) (maker_faults : M → ℕ) (moments pauses : C → Option (List ℕ)) (addr : SocketAddr) (wrote : List ℕ → Type 0) (write_rose same : Type 0) (session last : Session) (parts : C × M) (e : Ended) : Type 0 where
  pub clock : C
  pub listens : Listens doors maker_faults addr wrote write_rose same (by_clock moments pauses session last parts.0 clock) parts.1 e

-- Both were made, or what is outside refused one, which it counted.
pub record ServesBy {C M A K : Type 0} (doors : Doors A K) (maker_faults : M → ℕ) (moments pauses : C → Option (List ℕ)) (addr : SocketAddr) (wrote : List ℕ → Type 0) (write_rose same : Type 0) (before now : ℕ) (session last : Session) (e : Ended) : Type 0 where
  pub parts : Result (C × M) MakeError
  pub cause : MakeCause before now parts
  pub after : AfterMade (ServesWith doors maker_faults moments pauses addr wrote write_rose same session last) same parts e

-- a session over a daemon that was just made
abbrev pub first_session : Kept → Session
first_session d = record { daemon = anew d; line = new_line d.state.config.limit; lost = false }

pub record ServesDaemon {C M A K : Type 0} (doors : Doors A K) (maker_faults : M → ℕ) (moments pauses : C → Option (List ℕ)) (addr : SocketAddr) (wrote : List ℕ → Type 0) (write_rose same : Type 0) (before now : ℕ) (d : Kept) (e : Ended) : Type 0 where
  pub last : Session
  pub serves : ServesBy doors maker_faults moments pauses addr wrote write_rose same before now (first_session d) last e

-- A daemon over the folder was made, or what is outside refused a part of it, which it counted; then it served.
pub record ServesDir {C M A K : Type 0} (dir : List ℕ) (bytes tokens : ℕ) (doors : Doors A K) (maker_faults : M → ℕ) (moments pauses : C → Option (List ℕ)) (addr : SocketAddr) (wrote : List ℕ → Type 0) (write_rose same : Type 0) (before now : ℕ) (e : Ended) : Type 0 where
  pub made : Result Kept MakeError
  pub between : ℕ
  pub cause : MakeCause before between made
  pub later : between ≤ now
  pub daemon : IfOk made (IsServerDaemon dir bytes tokens)
  pub after : AfterMade (ServesDaemon doors maker_faults moments pauses addr wrote write_rose same between now) same made e
