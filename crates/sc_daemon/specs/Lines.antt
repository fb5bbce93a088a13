-- A connection as the daemon keeps it.
use Rattle.std.specs.Prelude.{◌≡◌, ℕ, ◌<◌, Bool, true, false, List, [], ◌∷◌, length, Option, Some, None, ◌⊎◌, refl}
use Rattle.std.specs.Coded.{Coded, code_by, coded×, coded_bool, coded_list, coded_option, coded_ℕ}
use Rattle.sc_daemon_action.specs.Hands.{hand_of}
use Rattle.sc_daemon.specs.Backlogs.{entry_code}
use Rattle.sc_daemon.specs.Standings.{standing_of}
use Rattle.sc_daemon.specs.declared.standing.Standing.TheVariants.{Ended}
use Rattle.sc_disk.specs.Store.{AddEntry}
use Rattle.sc_daemon_hold.specs.Holding.{Hand}
use Rattle.sc_daemon_job.specs.Askers.{Asker}
use Rattle.sc_daemon_job.specs.Setups.{Config, setup}
use Rattle.sc_model.specs.Conns.{Conn, current, need_at}
use Rattle.sc_model.specs.Rows.{Direct}
use Rattle.sc_model.specs.Script.{BadFrame}
use Rattle.sc_model.specs.contracts.message.Request as request_type
use Rattle.sc_model.specs.contracts.phase.Phase as phase_type
use Rattle.sc_model.specs.declared.message.Request.{Request}
use Rattle.sc_model.specs.declared.phase.Phase.{Phase}
use Rattle.sc_model.specs.declared.phase.Phase.TheVariants.{AtBegin}
use Rattle.sc_wire.specs.Streams.{request_reader}

abbrev pub listed : {A : Type 0} → Option A → List A
listed None = []
listed (Some a) = a ∷ []

abbrev pub first_of : {A : Type 0} → List A → Option A
first_of [] = None
first_of (a ∷ rest) = Some a

-- nothing waits behind no first one
abbrev pub IsFirst : {A : Type 0} → Option A → List A → Type 0
IsFirst None rest = rest ≡ []
IsFirst (Some a) rest = Unit {0}

pub record Line : Type 0 where
  pub limit : ℕ
  -- the requests that are not over, the one that is served first
  pub waiting : List Request
  -- the bytes that spell no request yet, and how many came
  pub rest : List ℕ
  pub got : ℕ
  pub closed : Bool
  -- the number of the first request, where it stands, and the entry of a disk level that it holds
  pub at : ℕ
  pub phase : Phase
  pub entry : Option AddEntry
  -- the moments of its last event, its outcome and its last reservation
  pub last : ℕ
  pub outcome : ℕ
  pub reserved : ℕ
  -- the bytes that were sent, and the size of the reply that was too long
  pub out : List ℕ
  pub long : Option ℕ

abbrev pub line_code : Coded Line
line_code = code_by (ℕ × (List Request × (List ℕ × (ℕ × (Bool × (ℕ × (Phase × (Option AddEntry × (ℕ × (ℕ × (ℕ × (List ℕ × Option ℕ))))))))))))
    (coded× coded_ℕ (coded× (coded_list request_type.the_row.coded) (coded× (coded_list coded_ℕ) (coded× coded_ℕ (coded× coded_bool
    (coded× coded_ℕ (coded× phase_type.the_row.coded (coded× (coded_option entry_code) (coded× coded_ℕ (coded× coded_ℕ (coded× coded_ℕ (coded× (coded_list coded_ℕ) (coded_option coded_ℕ)))))))))))))
    (λ l. (l.limit, (l.waiting, (l.rest, (l.got, (l.closed, (l.at, (l.phase, (l.entry, (l.last, (l.outcome, (l.reserved, (l.out, l.long)))))))))))))
    (λ p. record { limit = p.0; waiting = p.1.0; rest = p.1.1.0; got = p.1.1.1.0; closed = p.1.1.1.1.0; at = p.1.1.1.1.1.0; phase = p.1.1.1.1.1.1.0; entry = p.1.1.1.1.1.1.1.0; last = p.1.1.1.1.1.1.1.1.0; outcome = p.1.1.1.1.1.1.1.1.1.0; reserved = p.1.1.1.1.1.1.1.1.1.1.0; out = p.1.1.1.1.1.1.1.1.1.1.1.0; long = p.1.1.1.1.1.1.1.1.1.1.1.1 })
    (λ _. refl)

abbrev pub new_line : ℕ → Line
new_line limit = record { limit = limit; waiting = []; rest = []; got = 0; closed = false; at = 0; phase = AtBegin; entry = None; last = 0; outcome = 0; reserved = 0; out = []; long = None }

-- the entry of a disk level that its first request holds
abbrev pub line_hand : Line → Option Hand
line_hand l = hand_of l.entry l.phase

-- the connection as the machine keeps it
abbrev pub conn_of : Line → Conn
conn_of l = record { queue = l.waiting; rest = l.rest; got = l.got; closed = l.closed; at = l.at; phase = l.phase; last = l.last; outcome = l.outcome; reserved = l.reserved; out = l.out; long = l.long }

-- nothing more is read: it is closed, its bytes spell no request, or a reply was too long
abbrev pub IsDone : Line → Type 0
IsDone l = ((l.closed ≡ true) ⊎ ((request_reader l.limit).ends l.rest false ≡ BadFrame)) ⊎ ((0 < length l.waiting) × (standing_of l.phase ≡ Ended))

-- what the next event of its first request takes from it
abbrev pub asker_at : Config → Line → Asker
asker_at k l = record { need = need_at (setup k) (current (conn_of l)) l.phase; request = current (conn_of l); origin = Direct; last = l.last; outcome = l.outcome; reserved = l.reserved }
