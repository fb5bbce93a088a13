-- What the code keeps. No promise speaks of it.
use Rattle.std.specs.Prelude.{◌≡◌, ℕ, ◌+◌, ◌<◌, ◌≤◌, true, false, List, [], ◌∷◌, ◌++◌, length, take, drop, map, Option, Some, None, slice_index_or, slice_set, ◌⊎◌}
use Rattle.sc_model.specs.Dues.{ToTake}
use Rattle.sc_model.specs.Follows.{Fits}
use Rattle.sc_model.specs.Headline.{Result_of_run}
use Rattle.sc_model.specs.Next.{Ended, at_moment, ticked}
use Rattle.sc_model.specs.Rows.{Direct, by_backfill, count, level_named, level_row, row, zeroes}
use Rattle.sc_model.specs.Script.{BadFrame, End, ReadsOn, Script, Setup, input, is_single}
use Rattle.sc_model.specs.Trace.{Open, ends_write, hands, if_too_long, no_request, reserved_at, reserved_by}
use Rattle.sc_model.specs.World.{IsWithinBytes, Moves, World}
use Rattle.sc_model.specs.declared.event.Answer.TheVariants.{Size as SizeIs}
use Rattle.sc_model.specs.declared.event.Event.{Event}
use Rattle.sc_model.specs.declared.event.Mode.TheVariants.{Size as Sizes}
use Rattle.sc_model.specs.declared.event.Owner.{Owner}
use Rattle.sc_model.specs.declared.event.Owner.TheVariants.{Nobody, Request as OfRequest, Write as OfWrite}
use Rattle.sc_model.specs.declared.event.Step.{Step}
use Rattle.sc_model.specs.declared.event.Step.TheVariants.{Back, Pass, Read, Serve}
use Rattle.sc_model.specs.declared.event.Told.TheVariants.{Stats as TellsStats}
use Rattle.sc_model.specs.declared.event.What.{What}
use Rattle.sc_model.specs.declared.event.What.TheVariants.{Asked, Began, Closed, Idle, Passed, Taken}
use Rattle.sc_model.specs.declared.level.Policy.{Policy}
use Rattle.sc_model.specs.declared.level.Policy.TheVariants.{Levels, Single}
use Rattle.sc_model.specs.declared.phase.Pending.{Pending}
use Rattle.sc_stats.specs.declared.counters.LevelStats.{LevelStats}
use Rattle.sc_stats.specs.declared.counters.ServerStats.{ServerStats}
use Rattle.sc_stats.specs.Sums.{add_level, no_level_stats, sat}
use Rattle.sc_model.specs.Conns.{Conn, new_conn, current, advanced, more, shut, free_after, need_at}
use Rattle.sc_model.specs.DueAt.{due_at}
use Rattle.sc_model.specs.Pendings.{pend, due_pending, need_back, pending_at, pending_after}

pub record Machine : Type 0 where
  pub conns : List Conn
  pub free : ℕ
  pub stats : ServerStats
  pub level_stats : List LevelStats
  pub background : List Pending
  pub handed : ℕ
  pub reserved : List Open
  pub world : World

abbrev pub conn : Machine → ℕ → Conn
conn m c = slice_index_or m.conns c new_conn

-- counters of levels
abbrev pub counted_at : Option ℕ → LevelStats → List LevelStats → List LevelStats
counted_at None row ls = ls
counted_at (Some l) row ls = slice_set ls l (add_level (slice_index_or ls l no_level_stats) row)

abbrev pub counted_level : Policy → LevelStats → What → List LevelStats → List LevelStats
counted_level Single row x ls = ls
counted_level (Levels ps) row x ls = counted_at (level_named x) row ls

abbrev pub counters_at : Policy → List LevelStats → ℕ → Option LevelStats
counters_at Single ls l = None
counters_at (Levels ps) ls l = Some (slice_index_or ls l no_level_stats)

-- what the code tells of its counters
abbrev pub Says : Setup → Machine → What → Type 0
Says s m (Began q (TellsStats stats)) = stats ≡ m.stats
Says s m (Asked l k Sizes (SizeIs n c) hs) = c ≡ counters_at s.policy m.level_stats l
Says s m _ = Unit {0}

-- an event of the request that is served on connection c
abbrev pub served : Setup → Machine → ℕ → ℕ → What → World → Machine
served s m c z x w = record {
  conns = slice_set m.conns c (advanced s (conn m c) z x);
  free = free_after m.free x;
  stats = count (zeroes x) m.stats (row s (current (conn m c)) (conn m c).outcome z x);
  level_stats = counted_level s.policy (level_row Direct (conn m c).last (conn m c).reserved z x) x m.level_stats;
  background = m.background ++ pend (hands m.handed z x);
  handed = m.handed + length (hands m.handed z x);
  reserved = reserved_by (OfRequest c (conn m c).at) x m.reserved;
  world = w;
}

-- an event of the ith handed write that is left
abbrev pub backed : Setup → Machine → ℕ → Pending → ℕ → What → World → Machine
backed s m i p z x w = record m {
  level_stats = counted_level s.policy (level_row (by_backfill p.backfill p.at) 0 p.since z x) x m.level_stats;
  background = pending_after (ends_write x) i z x m.background;
  reserved = reserved_by (OfWrite p.number) x m.reserved;
  world = w;
}

abbrev pub IsStopped : Machine → Setup → ℕ → Type 0
IsStopped m s c = (0 < length (conn m c).queue) × Ended (due_at s (current (conn m c)) (conn m c).phase)

abbrev pub NoMore : Script → Machine → ℕ → Type 0
NoMore s m c = (((conn m c).closed ≡ true) ⊎ (s.reader.ends (conn m c).rest false ≡ BadFrame)) ⊎ IsStopped m s.setup c

-- nothing is there to serve, the connection has ended, or a token is waited for
abbrev pub IdleServe : Setup → Machine → ℕ → Type 0
IdleServe s m c = ((length (conn m c).queue ≡ 0) ⊎ IsStopped m s c) ⊎ ((0 < length (conn m c).queue) × (due_at s (current (conn m c)) (conn m c).phase ≡ ToTake) × (m.free ≡ 0))

abbrev pub DoesServe : Setup → Machine → ℕ → ℕ → Owner → What → Machine → Type 0
DoesServe s m c z Nobody Idle m2 = IdleServe s m c × (m2 ≡ m)
DoesServe s m c z (OfRequest d j) x m2 =
    (d ≡ c) × (c < length m.conns) × (j ≡ (conn m c).at) × (0 < length (conn m c).queue) × Fits s (current (conn m c)) (due_at s (current (conn m c)) (conn m c).phase) x
    × (due_at s (current (conn m c)) (conn m c).phase ≡ ToTake → 0 < m.free) × Says s m x
    × ((w : World) × Moves s (need_at s (current (conn m c)) (conn m c).phase) (λ l. reserved_at l m.reserved) x (at_moment m.world (ticked m.world.moment x)) w × (m2 ≡ served s m c z x w))
DoesServe s m c z o x m2 = ⊥

abbrev pub DoesRead : Script → Machine → ℕ → ℕ → Owner → What → Machine → Type 0
DoesRead s m c n Nobody Idle m2 = (((n ≡ 0) ⊎ (length s.inputs ≤ c)) ⊎ NoMore s m c) × (m2 ≡ m)
DoesRead s m c n Nobody (Taken d bytes) m2 =
    (d ≡ c) × (c < length m.conns) × (NoMore s m c → ⊥) × (bytes ≡ take n (drop (conn m c).got (input s c))) × (0 < length bytes)
    × (m2 ≡ record m { conns = slice_set m.conns c (more s (conn m c) bytes) })
DoesRead s m c n Nobody (Closed d) m2 =
    (d ≡ c) × (c < length m.conns) × (NoMore s m c → ⊥) × (0 < n) × (length (input s c) ≤ (conn m c).got)
    × (m2 ≡ record m { conns = slice_set m.conns c (shut (conn m c)) })
DoesRead s m c n o x m2 = ⊥

abbrev pub DoesBack : Setup → Machine → ℕ → ℕ → Owner → What → Machine → Type 0
DoesBack s m i z Nobody Idle m2 = (length m.background ≤ i) × (m2 ≡ m)
DoesBack s m i z (OfWrite n) x m2 =
    (p : Pending) × (pending_at i m.background ≡ Some p) × (n ≡ p.number) × Fits s no_request (due_pending s.levels p) x
    × ((w : World) × Moves s (need_back s p) (λ l. reserved_at l m.reserved) x (at_moment m.world (ticked m.world.moment x)) w × (m2 ≡ backed s m i p z x w))
DoesBack s m i z o x m2 = ⊥

abbrev pub DoesPass : Machine → ℕ → Owner → What → Machine → Type 0
DoesPass m n Nobody (Passed k) m2 = (k ≡ n) × (m2 ≡ record m { world = at_moment m.world (sat m.world.moment n) })
DoesPass m n o x m2 = ⊥

abbrev pub DoesStep : Script → Machine → Step → ℕ → Owner → What → Machine → Type 0
DoesStep s m (Read c n) z o x m2 = DoesRead s m c n o x m2
DoesStep s m (Serve c) z o x m2 = DoesServe s.setup m c z o x m2
DoesStep s m (Back i) z o x m2 = DoesBack s.setup m i z o x m2
DoesStep s m (Pass n) z o x m2 = DoesPass m n o x m2

-- what the code's step does; afterwards each disk level is within its capacity
abbrev pub Does : Script → Machine → Step → Event → Machine → Type 0
Does s m p e m2 = (e.moment ≡ ticked m.world.moment e.what) × DoesStep s m p e.moment e.owner e.what m2 × IsWithinBytes s.setup m2.reserved m2.world

-- a run of the machine, the newest step and event first
abbrev pub Runs : Script → Machine → List Step → List Event → Machine → Type 0
Runs s m0 [] [] m = m ≡ m0
Runs s m0 (p ∷ ps) (e ∷ t) m2 = (m : Machine) × Runs s m0 ps t m × Does s m p e m2
Runs s m0 [] (e ∷ t) m = ⊥
Runs s m0 (p ∷ ps) [] m = ⊥

-- a single store is one level
abbrev pub IsOneWhereSingle : Setup → Type 0
IsOneWhereSingle s = is_single s.policy ≡ true → length s.levels ≡ 1

-- as one begins
pub record IsIdle (s : Script) (m : Machine) : Type 0 where
  pub reads_on : ReadsOn s.reader
  pub conns : (c : ℕ) → conn m c ≡ new_conn
  pub same_count : length m.conns ≡ length s.inputs
  pub free : m.free ≡ s.setup.tokens
  pub stats : m.stats ≡ s.first
  pub level_stats : m.level_stats ≡ s.first_levels
  pub level_count : length s.first_levels ≡ length s.setup.levels
  pub one_level : IsOneWhereSingle s.setup
  pub background : m.background ≡ []
  pub handed : m.handed ≡ 0
  pub reserved : m.reserved ≡ []

-- what it has come to
abbrev pub end_at : Script → Conn → End
end_at s k = if_too_long k.long (s.reader.ends k.rest k.closed)

-- a single store has no level statistics
abbrev pub shown_levels : Policy → List LevelStats → List LevelStats
shown_levels Single ls = []
shown_levels (Levels ps) ls = ls

abbrev pub result_of_run : Script → Machine → Result_of_run
result_of_run s m = record {
  stats = m.stats;
  level_stats = shown_levels s.setup.policy m.level_stats;
  background = map (λ p. p.handed) m.background;
  free = m.free;
  ends = map (end_at s) m.conns;
  out = map (λ k. k.out) m.conns;
}
