-- A daemon: its state, what it counted, and its free tokens.
use Rattle.std.specs.Prelude.{◌≡◌, ◌⊎◌, ℕ, ◌+◌, ◌≤◌, List, [], ◌++◌, length, map, Some, refl}
use Rattle.std.specs.Coded.{Coded, code_by, coded×, coded_list, coded_ℕ}
use Rattle.sc_daemon.specs.Backlogs.{Advances, Write, fresh_writes, pending_of, with_write, write_at, write_code}
use Rattle.sc_daemon.specs.Lines.{Line, conn_of}
use Rattle.sc_daemon.specs.Says.{SaysCounted}
use Rattle.sc_daemon.specs.Turns.{IsIdleLine, Reads, Serves_one}
use Rattle.sc_daemon.specs.declared.reading.Reading.TheVariants as readings
use Rattle.sc_daemon_job.specs.Setups.{setup}
use Rattle.sc_model.specs.Conns.{current, free_after, need_at}
use Rattle.sc_model.specs.Machine.{Machine, counted_level}
use Rattle.sc_model.specs.Pendings.{need_back, pend}
use Rattle.sc_model.specs.Next.{at_moment}
use Rattle.sc_model.specs.Rows.{Direct, by_backfill, count, level_row, row, zeroes}
use Rattle.sc_model.specs.Script.{Script}
use Rattle.sc_model.specs.Trace.{Open, ends_write, hands}
use Rattle.sc_model.specs.declared.event.Event.{Event}
use Rattle.sc_model.specs.declared.event.Owner.{Owner}
use Rattle.sc_model.specs.declared.event.Owner.TheVariants.{Nobody, Request as OfRequest, Write as OfWrite}
use Rattle.sc_model.specs.declared.event.What.{What}
use Rattle.sc_model.specs.declared.event.What.TheVariants.{Closed, Idle, Taken}
use Rattle.sc_daemon_owned.specs.Codes.{state_code}
use Rattle.sc_daemon_owned.specs.Moving.{OwnedMoves}
use Rattle.sc_daemon_owned.specs.State.{State, disk_at, reserved_in}
use Rattle.sc_stats.specs.contracts.counters.LevelStats as level_type
use Rattle.sc_stats.specs.contracts.counters.ServerStats as stats_type
use Rattle.sc_stats.specs.declared.counters.LevelStats.{LevelStats}
use Rattle.sc_stats.specs.declared.counters.ServerStats.{ServerStats}
use Rattle.sc_stats.specs.Sums.{no_stats, sat}
use Rattle.sc_wire.specs.Streams.{request_reader}
use Rattle.sc_daemon_owned.specs.Facts.{config_of}

pub record Kept : Type 0 where
  pub state : State
  pub stats : ServerStats
  pub free : ℕ
  -- what was counted of each level
  pub levels : List LevelStats
  -- the writes that were handed on and are not done, and how many ever were
  pub background : List Write
  pub handed : ℕ

abbrev pub kept_code : Coded Kept
kept_code = code_by (State × (ServerStats × (ℕ × (List LevelStats × (List Write × ℕ)))))
    (coded× state_code (coded× stats_type.the_row.coded (coded× coded_ℕ (coded× (coded_list level_type.the_row.coded) (coded× (coded_list write_code) coded_ℕ)))))
    (λ d. (d.state, (d.stats, (d.free, (d.levels, (d.background, d.handed))))))
    (λ p. record { state = p.0; stats = p.1.0; free = p.1.1.0; levels = p.1.1.1.0; background = p.1.1.1.1.0; handed = p.1.1.1.1.1 })
    (λ _. refl)

-- a daemon as it is made: nothing is counted, of its levels neither
abbrev pub new_daemon : State → Kept
new_daemon o = record { state = o; stats = no_stats; free = o.config.tokens; levels = o.config.counters; background = []; handed = 0 }

-- every token is free, each level has its counters, no handed write is left, and nothing is reserved
pub record IsIdleDaemon (d : Kept) : Type 0 where
  pub free : d.free ≡ d.state.config.tokens
  pub levels : length d.levels ≡ length d.state.config.levels
  pub background : d.background ≡ []
  pub reserved : (l : ℕ) → reserved_in d.state l ≡ 0

-- writes that are handed on from now are numbered from 0
abbrev pub anew : Kept → Kept
anew d = record d { handed = 0 }

-- time passed
abbrev pub passed : Kept → ℕ → Kept
passed d n = record d { state = record d.state { world = at_moment d.state.world (sat d.state.world.moment n) } }

-- a step of reading: the event is nobody's, at this moment
abbrev pub ReadsWhat : ℕ → List ℕ → ℕ → What → Line → Line → Type 0
ReadsWhat c input n Idle old new = Reads input n readings.Nothing old new
ReadsWhat c input n (Taken d bytes) old new = (d ≡ c) × Reads input n (readings.Taken bytes) old new
ReadsWhat c input n (Closed d) old new = (d ≡ c) × Reads input n readings.Closed old new
ReadsWhat c input n x old new = ⊥

pub record ReadsEvent (d : Kept) (c : ℕ) (input : List ℕ) (n : ℕ) (e : Event) (old new : Line) : Type 0 where
  pub moment : e.moment ≡ d.state.world.moment
  pub owner : e.owner ≡ Nobody
  pub reads : ReadsWhat c input n e.what old new

-- an event of the request that is served
pub record ServesAt (c j : ℕ) (x : What) (d d2 : Kept) (old new : Line) : Type 0 where
  pub number : j ≡ old.at
  pub one : Serves_one (config_of d.state.config) (Some (disk_at d.state)) (Some (disk_at d2.state)) d.state.world.moment d.free x old new
  pub says : SaysCounted d.state.config.policy d.stats d.levels x
  pub moves : OwnedMoves d.state (need_at (setup (config_of d.state.config)) (current (conn_of old)) old.phase) x d2.state
  pub config : d2.state.config ≡ d.state.config
  pub free : d2.free ≡ free_after d.free x
  pub levels : d2.levels ≡ counted_level d.state.config.policy (level_row Direct old.last old.reserved d.state.world.moment x) x d.levels
  pub background : d2.background ≡ d.background ++ fresh_writes (pend (hands d.handed d.state.world.moment x))
  pub handed : d2.handed ≡ d.handed + length (hands d.handed d.state.world.moment x)
  pub stats : d2.stats ≡ count (zeroes x) d.stats (row (setup (config_of d.state.config)) (current (conn_of old)) old.outcome d.state.world.moment x)

abbrev pub ServesWhat : ℕ → Owner → What → Kept → Kept → Line → Line → Type 0
ServesWhat c Nobody Idle d d2 old new = IsIdleLine d.free old × (d2 ≡ d) × (new ≡ old)
ServesWhat c (OfRequest e j) x d d2 old new = (e ≡ c) × ServesAt c j x d d2 old new
ServesWhat c o x d d2 old new = ⊥

pub record ServesEvent (c : ℕ) (e : Event) (d d2 : Kept) (old new : Line) : Type 0 where
  pub moment : e.moment ≡ d.state.world.moment
  pub serves : ServesWhat c e.owner e.what d d2 old new

-- An event of the handed write at this place, which is counted.
pub record BacksAt (i : ℕ) (w : Write) (e : Event) (old new : Kept) : Type 0 where
  pub moment : e.moment ≡ old.state.world.moment
  pub owner : e.owner ≡ OfWrite w.pending.number
  pub then : Write
  pub advances : Advances (config_of old.state.config) old.state.world.moment (Some (disk_at old.state)) (Some (disk_at new.state)) e.what w then
  pub moves : OwnedMoves old.state (need_back (setup (config_of old.state.config)) w.pending) e.what new.state
  pub config : new.state.config ≡ old.state.config
  pub same : new ≡ record old {
    state = new.state;
    levels = counted_level old.state.config.policy (level_row (by_backfill w.pending.backfill w.pending.at) 0 w.pending.since e.moment e.what) e.what old.levels;
    background = with_write i (ends_write e.what) then old.background;
  }

-- nothing happened
abbrev pub idle_event : Kept → Event
idle_event d = record { moment = d.state.world.moment; owner = Nobody; what = Idle }

-- the handed write at this place went on, where there is one
abbrev pub BacksEvent : ℕ → Event → Kept → Kept → Type 0
BacksEvent i e old new =
    ((length old.background ≤ i) × (e ≡ idle_event old) × (new ≡ old))
    ⊎ ((w : Write) × (write_at i old.background ≡ Some w) × BacksAt i w e old new)

-- the machine that a daemon and its connections are, with these reservations
abbrev pub machine_of : Kept → List Line → List Open → Machine
machine_of d lines opens = record {
  conns = map conn_of lines;
  free = d.free;
  stats = d.stats;
  level_stats = d.levels;
  background = map pending_of d.background;
  handed = d.handed;
  reserved = opens;
  world = d.state.world;
}

-- what a drive is given: the daemon as it was made and counted so far, and each connection's bytes
abbrev pub script_of : Kept → List (List ℕ) → Script
script_of d inputs = record {
  setup = setup (config_of d.state.config);
  inputs = inputs;
  reader = request_reader d.state.config.limit;
  first = d.stats;
  first_levels = d.levels;
}
