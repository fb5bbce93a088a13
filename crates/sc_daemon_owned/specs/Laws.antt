-- What holds of every state.
use Rattle.std.specs.Prelude.{◌≡◌, ℕ, zero, suc, Bool, ◌&&◌, ◌==◌, true, false, T, List, length, refl}
use Rattle.std.proofs.Common.{ap, arith, eqb-true, sym, subst}
use Rattle.sc_model.specs.There.{AreLevels}
use Rattle.sc_daemon_hold.specs.Holding.{OpensNone, ReservesBy, SameRoom}
use Rattle.sc_daemon_owned.specs.Quiet.{IsQuiet}
use Rattle.sc_model.proofs.There.{levels_there}
use Rattle.sc_model.specs.Plan.{is_required, plan, pre_plan, takes_writes}
use Rattle.sc_model.specs.Script.{Setup, is_single}
use Rattle.sc_model.specs.World.{Need, World}
use Rattle.sc_model.specs.declared.event.Told.TheVariants.{Compile as TellsCompile, Dist as TellsDist, Handshake as TellsHandshake, Nothing as TellsNothing, Stats as TellsStats, Valid as TellsValid}
use Rattle.sc_model.specs.declared.event.Verdict.TheVariants.{CacheHit, CacheMiss, CompileFailed, Error, Fault, Http, NotCacheable, NotCached, ProcessError}
use Rattle.sc_model.specs.declared.event.What.{What}
use Rattle.sc_model.specs.declared.event.What.TheVariants.{Asked, Began, Closed, Committed, Dist, Filled, Idle, Keyed, Outcome, Passed, Placed, Ran, Reserved, Sent, Taken, TokenTaken, TooLong, WriteEnded, Wrote}
use Rattle.sc_model.specs.declared.level.LevelFacts.{LevelFacts}
use Rattle.sc_model.specs.declared.level.Policy.{Policy}
use Rattle.sc_model.specs.declared.level.Policy.TheVariants.{Levels, Single}
use Rattle.sc_daemon_job.specs.Setups.{setup}
use Rattle.sc_daemon_owned.specs.Facts.{config_of}
use Rattle.sc_daemon_owned.specs.Moving.{MovesWorld, OwnedMoves}
use Rattle.sc_daemon_owned.specs.State.{State, disk_at, is_count, is_good, is_one, is_within, reserved_in}

pub never : false ≡ true → ⊥
never e = subst T (sym e) tt

left_true : (a b : Bool) → (a && b) ≡ true → a ≡ true
left_true true b e = refl
left_true false b e = absurd (never e)

right_true : (a b : Bool) → (a && b) ≡ true → b ≡ true
right_true true b e = e
right_true false b e = absurd (never e)

only_one : (n : ℕ) → is_one n ≡ true → n ≡ 1
only_one zero e = absurd (never e)
only_one (suc zero) e = refl
only_one (suc (suc n)) e = absurd (never e)

one_count : (policy : Policy) (n : ℕ) → is_count policy n ≡ true → is_single policy ≡ true → n ≡ 1
one_count Single n e is = only_one n e
one_count (Levels ps) n e is = absurd (never is)

limits_of : (o : State) → (is_good o.config.policy o.config.levels && is_within o.config.tokens o.config.limit) ≡ true
limits_of o = left_true (is_good o.config.policy o.config.levels && is_within o.config.tokens o.config.limit) (length o.config.counters == length o.config.levels) o.one

good_of : (o : State) → is_good o.config.policy o.config.levels ≡ true
good_of o = left_true (is_good o.config.policy o.config.levels) (is_within o.config.tokens o.config.limit) (limits_of o)

-- each level has its counters
pub counters_of : (o : State) → length o.config.counters ≡ length o.config.levels
counters_of o = eqb-true (length o.config.counters) (length o.config.levels) (right_true (is_good o.config.policy o.config.levels && is_within o.config.tokens o.config.limit) (length o.config.counters == length o.config.levels) o.one)

-- its tokens and its limit are within the limits
pub within_limits : (o : State) → is_within o.config.tokens o.config.limit ≡ true
within_limits o = right_true (is_good o.config.policy o.config.levels) (is_within o.config.tokens o.config.limit) (limits_of o)

-- a store that stands alone is one level
pub one_level : (o : State) → is_single o.config.policy ≡ true → length o.config.levels ≡ 1
one_level o is = one_count o.config.policy (length o.config.levels) (good_of o) is

planned_there : (policy : Policy) (fs : List LevelFacts) → is_count policy (length fs) ≡ true → AreLevels (length fs) (plan policy fs)
planned_there Single fs e = (let one = only_one (length fs) e in omega (arith, one), tt)
planned_there (Levels ps) fs e = levels_there is_required 0 (length fs) ps fs (omega arith)

pre_planned_there : (policy : Policy) (fs : List LevelFacts) → is_count policy (length fs) ≡ true → AreLevels (length fs) (pre_plan policy fs)
pre_planned_there Single fs e = (let one = only_one (length fs) e in omega (arith, one), tt)
pre_planned_there (Levels ps) fs e = levels_there takes_writes 0 (length fs) ps fs (omega arith)

-- the levels that a preprocessor entry goes to are there
pub pre_planned_levels : (o : State) → AreLevels (length o.config.levels) (pre_plan o.config.policy o.config.levels)
pre_planned_levels o = pre_planned_there o.config.policy o.config.levels (good_of o)

-- the levels that a write goes to are there
pub planned_levels : (o : State) → AreLevels (length o.config.levels) (plan o.config.policy o.config.levels)
planned_levels o = planned_there o.config.policy o.config.levels (good_of o)

-- events that move nothing leave the state as it is
still : (s : Setup) (n : Need) (r : ℕ → ℕ) (told : Bool) (x : What) (w : World) → IsQuiet x → MovesWorld s n r told x w w
still s n r told (Began q (TellsCompile p)) w is = record { moment = refl; levels = λ h. refl; shop = (refl, refl, refl); dist = (refl, (refl, refl)) }
still s n r told (Began q (TellsStats stats)) w is = record { moment = refl; levels = λ h. refl; shop = (refl, refl, refl); dist = (refl, (refl, refl)) }
still s n r told (Began q (TellsDist info)) w is = absurd is
still s n r told (Began q (TellsHandshake info)) w is = record { moment = refl; levels = λ h. refl; shop = (refl, refl, refl); dist = (refl, (refl, refl)) }
still s n r told (Began q (TellsValid v)) w is = record { moment = refl; levels = λ h. refl; shop = (refl, refl, refl); dist = (refl, (refl, refl)) }
still s n r told (Began q TellsNothing) w is = record { moment = refl; levels = λ h. refl; shop = (refl, refl, refl); dist = (refl, (refl, refl)) }
still s n r told (Outcome Http task) w is = absurd is
still s n r told (Outcome Error task) w is = record { moment = refl; levels = λ h. refl; shop = (refl, refl, refl); dist = (refl, (refl, refl)) }
still s n r told (Outcome (CacheHit d) task) w is = record { moment = refl; levels = λ h. refl; shop = (refl, refl, refl); dist = (refl, (refl, refl)) }
still s n r told (Outcome (CacheMiss miss dist d) task) w is = record { moment = refl; levels = λ h. refl; shop = (refl, refl, refl); dist = (refl, (refl, refl)) }
still s n r told (Outcome (NotCached dist d) task) w is = record { moment = refl; levels = λ h. refl; shop = (refl, refl, refl); dist = (refl, (refl, refl)) }
still s n r told (Outcome (NotCacheable dist d) task) w is = record { moment = refl; levels = λ h. refl; shop = (refl, refl, refl); dist = (refl, (refl, refl)) }
still s n r told (Outcome (CompileFailed dist d) task) w is = record { moment = refl; levels = λ h. refl; shop = (refl, refl, refl); dist = (refl, (refl, refl)) }
still s n r told (Outcome ProcessError task) w is = record { moment = refl; levels = λ h. refl; shop = (refl, refl, refl); dist = (refl, (refl, refl)) }
still s n r told (Outcome Fault task) w is = record { moment = refl; levels = λ h. refl; shop = (refl, refl, refl); dist = (refl, (refl, refl)) }
still s n r told (Sent g) w is = record { moment = refl; levels = λ h. refl; shop = (refl, refl, refl); dist = (refl, (refl, refl)) }
still s n r told (TooLong z) w is = record { moment = refl; levels = λ h. refl; shop = (refl, refl, refl); dist = (refl, (refl, refl)) }
still s n r told TokenTaken w is = record { moment = refl; levels = λ h. refl; shop = (refl, refl, refl); dist = (refl, (refl, refl)) }
still s n r told (WriteEnded put hs) w is = record { moment = refl; levels = λ h. refl; shop = (refl, refl, refl); dist = (refl, (refl, refl)) }
still s n r told Idle w is = absurd is
still s n r told (Passed k) w is = absurd is
still s n r told (Taken c b) w is = absurd is
still s n r told (Closed c) w is = absurd is
still s n r told (Keyed first client step) w is = absurd is
still s n r told (Asked l k mode a hs) w is = absurd is
still s n r told (Placed p) w is = absurd is
still s n r told (Ran a) w is = absurd is
still s n r told (Dist d) w is = absurd is
still s n r told (Reserved l k z how) w is = absurd is
still s n r told (Filled l k b mark how) w is = absurd is
still s n r told (Committed l k b how) w is = absurd is
still s n r told (Wrote l k b mode mark how) w is = absurd is

still_rooms_of : (x : What) (r : ℕ → ℕ) → IsQuiet x → ReservesBy x r r
still_rooms_of (Began q (TellsCompile p)) r is = λ l. refl
still_rooms_of (Began q (TellsStats stats)) r is = λ l. refl
still_rooms_of (Began q (TellsDist info)) r is = absurd is
still_rooms_of (Began q (TellsHandshake info)) r is = λ l. refl
still_rooms_of (Began q (TellsValid v)) r is = λ l. refl
still_rooms_of (Began q TellsNothing) r is = λ l. refl
still_rooms_of (Outcome Http task) r is = absurd is
still_rooms_of (Outcome Error task) r is = λ l. refl
still_rooms_of (Outcome (CacheHit d) task) r is = λ l. refl
still_rooms_of (Outcome (CacheMiss miss dist d) task) r is = λ l. refl
still_rooms_of (Outcome (NotCached dist d) task) r is = λ l. refl
still_rooms_of (Outcome (NotCacheable dist d) task) r is = λ l. refl
still_rooms_of (Outcome (CompileFailed dist d) task) r is = λ l. refl
still_rooms_of (Outcome ProcessError task) r is = λ l. refl
still_rooms_of (Outcome Fault task) r is = λ l. refl
still_rooms_of (Sent g) r is = λ l. refl
still_rooms_of (TooLong z) r is = λ l. refl
still_rooms_of TokenTaken r is = λ l. refl
still_rooms_of (WriteEnded put hs) r is = λ l. refl
still_rooms_of Idle r is = absurd is
still_rooms_of (Passed k) r is = absurd is
still_rooms_of (Taken c b) r is = absurd is
still_rooms_of (Closed c) r is = absurd is
still_rooms_of (Keyed first client step) r is = absurd is
still_rooms_of (Asked l k mode a hs) r is = absurd is
still_rooms_of (Placed p) r is = absurd is
still_rooms_of (Ran a) r is = absurd is
still_rooms_of (Dist d) r is = absurd is
still_rooms_of (Reserved l k z how) r is = absurd is
still_rooms_of (Filled l k b mark how) r is = absurd is
still_rooms_of (Committed l k b how) r is = absurd is
still_rooms_of (Wrote l k b mode mark how) r is = absurd is

pub quiet_moves : (o : State) (n : Need) (x : What) → IsQuiet x → OwnedMoves o n x o
quiet_moves o n x is = (refl, still (setup (config_of o.config)) n (reserved_in o) o.told x o.world is, λ none l. (refl, λ number. refl), still_rooms_of x (reserved_in o) is, refl)

-- an event that opens, fills and closes no entry leaves what is open
pub still_rooms : (a : State) (n : Need) (x : What) (b : State) → OwnedMoves a n x b → OpensNone x → (l : ℕ) → SameRoom (disk_at a l) (disk_at b l)
still_rooms a n x b moves none l = moves.2 none l

-- whether the levels tell does not change
pub tells_same : (a : State) (n : Need) (x : What) (b : State) → OwnedMoves a n x b → (l : ℕ) → (disk_at b l).told ≡ (disk_at a l).told
tells_same a n x b moves l = moves.0

-- what is reserved are the event's bytes
pub reserves_rooms : (a : State) (n : Need) (x : What) (b : State) → OwnedMoves a n x b → ReservesBy x (λ l. (disk_at a l).reserved) (λ l. (disk_at b l).reserved)
reserves_rooms a n x b moves = moves.3
