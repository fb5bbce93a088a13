-- Steps of a drive.
use Rattle.std.specs.Prelude.{◌≡◌, ℕ, zero, suc, ◌+◌, true, List, [], ◌∷◌, ◌++◌, length, map, reverse, slice_index_or, Some}
use Rattle.sc_wire_conn.specs.Ends.{end_of}
use Rattle.sc_daemon.specs.Backlogs.{AreNumbered, ArePending, Write, hand_in}
use Rattle.sc_daemon.specs.Daemons.{Kept, machine_of, script_of}
use Rattle.sc_daemon.specs.Lines.{Line, line_hand, new_line}
use Rattle.sc_daemon.specs.Standings.{Rests}
use Rattle.sc_daemon.specs.Ties.{Owners, TiesHand}
use Rattle.sc_daemon.specs.declared.driven.Driven.{Driven}
use Rattle.sc_daemon_hold.specs.Holding.{Rooms}
use Rattle.sc_daemon_job.specs.Setups.{Config, setup}
use Rattle.sc_model.specs.Headline.{Result_of_run}
use Rattle.sc_model.specs.Machine.{Does, Runs, shown_levels}
use Rattle.sc_model.specs.Script.{End, Script}
use Rattle.sc_model.specs.Trace.{Open, if_too_long, reservations, reserved_at, reserved_by}
use Rattle.sc_model.specs.declared.event.Event.{Event}
use Rattle.sc_model.specs.declared.event.Owner.TheVariants.{Request as OfRequest, Write as OfWrite}
use Rattle.sc_model.specs.declared.event.Step.{Step}
use Rattle.sc_daemon_owned.specs.State.{disk_at, reserved_in}
use Rattle.sc_wire.specs.Streams.{request_reader}
use Rattle.sc_daemon_owned.specs.Facts.{config_of}

-- connections that nothing came over
abbrev pub lines_of : ℕ → ℕ → List Line
lines_of limit zero = []
lines_of limit (suc n) = new_line limit ∷ lines_of limit n

-- each connection reads by the daemon's limit, and its first request can be gone on with or was stopped; d are the levels as
-- disk stores
abbrev pub IsAt : Config → Rooms → Line → Type 0
IsAt k d l = (l.limit ≡ k.limit) × Rests k (Some d) l.phase l.entry l.waiting

abbrev pub AreAt : Config → Rooms → List Line → Type 0
AreAt k d lines = (c : ℕ) → IsAt k d (slice_index_or lines c (new_line k.limit))

-- the entries of handed writes are theirs
abbrev pub TiesWrites : Owners → List Open → Rooms → List Write → Type 0
TiesWrites owns opens d [] = Unit {0}
TiesWrites owns opens d (w ∷ ws) = TiesHand owns opens d (OfWrite w.pending.number) (hand_in w) × TiesWrites owns opens d ws

-- and that of a connection's first request is that request's
abbrev pub TiesLine : Owners → List Open → Rooms → ℕ → Line → Type 0
TiesLine owns opens d c l = TiesHand owns opens d (OfRequest c l.at) (line_hand l)

-- What a drive keeps between two steps: where all stand, whose each open entry is, and that as much is reserved at each level
-- as these reservations say.
pub record Tied (d : Kept) (conns : List Line) (opens : List Open) : Type 0 where
  pub at : AreAt (config_of d.state.config) (disk_at d.state) conns
  pub pending : ArePending (config_of d.state.config) (Some (disk_at d.state)) d.background
  pub numbers : AreNumbered 0 d.handed d.background
  pub owns : Owners
  pub reserved : (l : ℕ) → reserved_at l opens ≡ reserved_in d.state l
  pub lines : (c : ℕ) → TiesLine owns opens (disk_at d.state) c (slice_index_or conns c (new_line d.state.config.limit))
  pub writes : TiesWrites owns opens (disk_at d.state) d.background

-- a script for a daemon that is made of this
pub record IsScriptOf (s : Script) (k : Config) (inputs : List (List ℕ)) : Type 0 where
  pub of_setup : s.setup ≡ setup k
  pub of_reader : s.reader ≡ request_reader k.limit
  pub of_inputs : s.inputs ≡ inputs

-- one step of the machine, with these reservations before it
pub record Steps (s : Script) (p : Step) (e : Event) (d d2 : Kept) (lines lines2 : List Line) (opens : List Open) : Type 0 where
  pub does : Does s (machine_of d lines opens) p e (machine_of d2 lines2 (reserved_by e.owner e.what opens))
  pub config : d2.state.config ≡ d.state.config
  pub told : d2.state.told ≡ d.state.told
  pub count : length lines2 ≡ length lines
  pub tied : Tied d2 lines2 (reserved_by e.owner e.what opens)

-- one step of a drive: its event is the last
pub record StepsOn (k : Config) (inputs : List (List ℕ)) (p : Step) (events events2 : List Event) (d d2 : Kept) (lines lines2 : List Line) : Type 0 where
  pub event : Event
  pub grown : events2 ≡ events ++ event ∷ []
  pub steps : (s : Script) (opens : List Open) → IsScriptOf s k inputs → Tied d lines opens → Steps s p event d d2 lines lines2 opens

-- what a connection has come to
abbrev pub line_end : Line → End
line_end l = if_too_long l.long ((request_reader l.limit).ends l.rest l.closed)

-- a drive so far: what was done of its steps, and the machine's run of them
pub record Progress (d0 d : Kept) (inputs : List (List ℕ)) (steps left : List Step) (events : List Event) (lines : List Line) : Type 0 where
  pub done : List Step
  pub split : done ++ left ≡ steps
  pub opens : List Open
  pub listed : opens ≡ reservations (reverse events)
  pub runs : Runs (script_of d0 inputs) (machine_of d0 (lines_of d0.state.config.limit (length inputs)) []) (reverse done) (reverse events) (machine_of d lines opens)
  pub config : d.state.config ≡ d0.state.config
  pub told : d.state.told ≡ true
  pub count : length lines ≡ length inputs
  pub tied : Tied d lines opens

-- what a drive came to, as the headline speaks of it
abbrev pub result_of : Kept → Driven → Result_of_run
result_of d driven = record {
  stats = d.stats;
  level_stats = shown_levels d.state.config.policy d.levels;
  background = driven.background;
  free = d.free;
  ends = map (λ c. end_of c.end) driven.conns;
  out = map (λ c. c.sent) driven.conns;
}
