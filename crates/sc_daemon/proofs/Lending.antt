-- An event of a handed write, at a daemon that has lent out what is left of them.
use Rattle.std.proofs.Common.{◌≡◌, ℕ, ◌+◌, List, [], length, refl, sym, ap, ◌∙◌, arith}
use Rattle.sc_daemon.proofs.Backing.{backed}
use Rattle.sc_daemon.specs.Backlogs.{Write}
use Rattle.sc_daemon.specs.Daemons.{Kept}
use Rattle.sc_daemon.specs.Moving.{KeptMoves}
use Rattle.sc_daemon.specs.Says.{counted}
use Rattle.sc_daemon_job.specs.Askers.{Asker}
use Rattle.sc_daemon_job.specs.Setups.{Config, setup}
use Rattle.sc_daemon_owned.specs.Facts.{DaemonFacts, config_of}
use Rattle.sc_model.specs.Dues.{Due, ToCommit, ToFill, ToReserve, ToWrite, kind_at, start_write}
use Rattle.sc_model.specs.Follows.{Fits, bytes_in}
use Rattle.sc_model.specs.Conns.{free_after}
use Rattle.sc_model.specs.Machine.{counted_level}
use Rattle.sc_model.specs.Pendings.{due_pending, due_stage}
use Rattle.sc_model.specs.Rows.{Origin_of_put, level_row, row}
use Rattle.sc_model.specs.Script.{Setup}
use Rattle.sc_model.specs.Trace.{Given, hands, no_request}
use Rattle.sc_model.specs.declared.event.Mode.{Mode}
use Rattle.sc_model.specs.declared.event.Mode.TheVariants.{Whole}
use Rattle.sc_model.specs.declared.event.What.{What}
use Rattle.sc_model.specs.declared.event.What.TheVariants.{Asked, Began, Closed, Committed, Dist, Filled, Idle, Keyed, Outcome, Passed, Placed, Ran, Reserved, Sent, Taken, TokenTaken, TooLong, WriteEnded, Wrote}
use Rattle.sc_model.specs.declared.level.LevelKind.{LevelKind}
use Rattle.sc_model.specs.declared.level.LevelKind.TheVariants.{Disk, Remote}
use Rattle.sc_model.specs.declared.message.Request.{Request}
use Rattle.sc_model.specs.declared.phase.Bytes.{Bytes}
use Rattle.sc_model.specs.declared.phase.Pending.{Pending}
use Rattle.sc_model.specs.declared.phase.Stage.{Stage}
use Rattle.sc_model.specs.declared.phase.Stage.TheVariants.{Filled as IsFilled, Fresh, Reserved as IsReserved}
use Rattle.sc_stats.specs.declared.counters.ServerStats.{ServerStats}

-- an event of a write
abbrev IsWriting : What → Type 0
IsWriting (Reserved lv k z how) = Unit {0}
IsWriting (Filled lv k d mark how) = Unit {0}
IsWriting (Committed lv k d how) = Unit {0}
IsWriting (Wrote lv k d kind mark how) = Unit {0}
IsWriting _ = ⊥

-- the events that may be due of one
abbrev IsWrite : Due → Type 0
IsWrite (ToReserve a b) = Unit {0}
IsWrite (ToFill a b) = Unit {0}
IsWrite (ToCommit a b) = Unit {0}
IsWrite (ToWrite a b d) = Unit {0}
IsWrite _ = ⊥

reserves : (s : Setup) (r : Request) (l : ℕ) (b : Bytes) (x : What) → Fits s r (ToReserve l b) x → IsWriting x
reserves s r at bytes Idle fits = absurd fits
reserves s r at bytes (Passed a) fits = absurd fits
reserves s r at bytes (Taken a b) fits = absurd fits
reserves s r at bytes (Closed a) fits = absurd fits
reserves s r at bytes (Began q told) fits = absurd fits
reserves s r at bytes (Keyed f client step) fits = absurd fits
reserves s r at bytes (Asked lv k mode a hs) fits = absurd fits
reserves s r at bytes (Placed p) fits = absurd fits
reserves s r at bytes TokenTaken fits = absurd fits
reserves s r at bytes (Ran a) fits = absurd fits
reserves s r at bytes (Dist a) fits = absurd fits
reserves s r at bytes (Outcome v task) fits = absurd fits
reserves s r at bytes (Reserved lv k z how) fits = tt
reserves s r at bytes (Filled lv k d mark how) fits = absurd fits
reserves s r at bytes (Committed lv k d how) fits = absurd fits
reserves s r at bytes (Wrote lv k d kind mark how) fits = absurd fits
reserves s r at bytes (WriteEnded put hs) fits = absurd fits
reserves s r at bytes (Sent g) fits = absurd fits
reserves s r at bytes (TooLong z) fits = absurd fits

fills : (s : Setup) (r : Request) (l : ℕ) (b : Bytes) (x : What) → Fits s r (ToFill l b) x → IsWriting x
fills s r at bytes Idle fits = absurd fits
fills s r at bytes (Passed a) fits = absurd fits
fills s r at bytes (Taken a b) fits = absurd fits
fills s r at bytes (Closed a) fits = absurd fits
fills s r at bytes (Began q told) fits = absurd fits
fills s r at bytes (Keyed f client step) fits = absurd fits
fills s r at bytes (Asked lv k mode a hs) fits = absurd fits
fills s r at bytes (Placed p) fits = absurd fits
fills s r at bytes TokenTaken fits = absurd fits
fills s r at bytes (Ran a) fits = absurd fits
fills s r at bytes (Dist a) fits = absurd fits
fills s r at bytes (Outcome v task) fits = absurd fits
fills s r at bytes (Reserved lv k z how) fits = absurd fits
fills s r at bytes (Filled lv k d mark how) fits = tt
fills s r at bytes (Committed lv k d how) fits = absurd fits
fills s r at bytes (Wrote lv k d kind mark how) fits = absurd fits
fills s r at bytes (WriteEnded put hs) fits = absurd fits
fills s r at bytes (Sent g) fits = absurd fits
fills s r at bytes (TooLong z) fits = absurd fits

commits : (s : Setup) (r : Request) (l : ℕ) (b : Bytes) (x : What) → Fits s r (ToCommit l b) x → IsWriting x
commits s r at bytes Idle fits = absurd fits
commits s r at bytes (Passed a) fits = absurd fits
commits s r at bytes (Taken a b) fits = absurd fits
commits s r at bytes (Closed a) fits = absurd fits
commits s r at bytes (Began q told) fits = absurd fits
commits s r at bytes (Keyed f client step) fits = absurd fits
commits s r at bytes (Asked lv k mode a hs) fits = absurd fits
commits s r at bytes (Placed p) fits = absurd fits
commits s r at bytes TokenTaken fits = absurd fits
commits s r at bytes (Ran a) fits = absurd fits
commits s r at bytes (Dist a) fits = absurd fits
commits s r at bytes (Outcome v task) fits = absurd fits
commits s r at bytes (Reserved lv k z how) fits = absurd fits
commits s r at bytes (Filled lv k d mark how) fits = absurd fits
commits s r at bytes (Committed lv k d how) fits = tt
commits s r at bytes (Wrote lv k d kind mark how) fits = absurd fits
commits s r at bytes (WriteEnded put hs) fits = absurd fits
commits s r at bytes (Sent g) fits = absurd fits
commits s r at bytes (TooLong z) fits = absurd fits

writes : (s : Setup) (r : Request) (m : Mode) (l : ℕ) (b : Bytes) (x : What) → Fits s r (ToWrite m l b) x → IsWriting x
writes s r m at bytes Idle fits = absurd fits
writes s r m at bytes (Passed a) fits = absurd fits
writes s r m at bytes (Taken a b) fits = absurd fits
writes s r m at bytes (Closed a) fits = absurd fits
writes s r m at bytes (Began q told) fits = absurd fits
writes s r m at bytes (Keyed f client step) fits = absurd fits
writes s r m at bytes (Asked lv k mode a hs) fits = absurd fits
writes s r m at bytes (Placed p) fits = absurd fits
writes s r m at bytes TokenTaken fits = absurd fits
writes s r m at bytes (Ran a) fits = absurd fits
writes s r m at bytes (Dist a) fits = absurd fits
writes s r m at bytes (Outcome v task) fits = absurd fits
writes s r m at bytes (Reserved lv k z how) fits = absurd fits
writes s r m at bytes (Filled lv k d mark how) fits = absurd fits
writes s r m at bytes (Committed lv k d how) fits = absurd fits
writes s r m at bytes (Wrote lv k d kind mark how) fits = tt
writes s r m at bytes (WriteEnded put hs) fits = absurd fits
writes s r m at bytes (Sent g) fits = absurd fits
writes s r m at bytes (TooLong z) fits = absurd fits

starts : (s : Setup) (r : Request) (kind : LevelKind) (l : ℕ) (b : Bytes) (x : What) → Fits s r (start_write kind l b) x → IsWriting x
starts s r Disk l b x fits = reserves s r l b x fits
starts s r Remote l b x fits = writes s r Whole l b x fits

goes : (s : Setup) (r : Request) (stage : Stage) (kind : LevelKind) (l : ℕ) (b : Bytes) (x : What) → Fits s r (due_stage stage kind l b) x → IsWriting x
goes s r Fresh kind l b x fits = starts s r kind l b x fits
goes s r IsReserved kind l b x fits = fills s r l b x fits
goes s r IsFilled kind l b x fits = commits s r l b x fits

-- it takes and gives back no token, hands nothing on, and counts nothing of the daemon
pub writing_leaves : (n m h : ℕ) (x : What) (before row : ServerStats) → IsWriting x → (free_after n x ≡ n) × (hands h m x ≡ []) × (counted x before row ≡ before)
writing_leaves n m h Idle before row writing = absurd writing
writing_leaves n m h (Passed a) before row writing = absurd writing
writing_leaves n m h (Taken a b) before row writing = absurd writing
writing_leaves n m h (Closed a) before row writing = absurd writing
writing_leaves n m h (Began q told) before row writing = absurd writing
writing_leaves n m h (Keyed f client step) before row writing = absurd writing
writing_leaves n m h (Asked lv k mode a hs) before row writing = absurd writing
writing_leaves n m h (Placed p) before row writing = absurd writing
writing_leaves n m h TokenTaken before row writing = absurd writing
writing_leaves n m h (Ran a) before row writing = absurd writing
writing_leaves n m h (Dist a) before row writing = absurd writing
writing_leaves n m h (Outcome v task) before row writing = absurd writing
writing_leaves n m h (Reserved lv k z how) before row writing = (refl, refl, refl)
writing_leaves n m h (Filled lv k d mark how) before row writing = (refl, refl, refl)
writing_leaves n m h (Committed lv k d how) before row writing = (refl, refl, refl)
writing_leaves n m h (Wrote lv k d kind mark how) before row writing = (refl, refl, refl)
writing_leaves n m h (WriteEnded put hs) before row writing = absurd writing
writing_leaves n m h (Sent g) before row writing = absurd writing
writing_leaves n m h (TooLong z) before row writing = absurd writing

unhanded : (n : ℕ) (hs : List Given) → hs ≡ [] → n + length hs ≡ n
unhanded n hs e = omega (arith, ap length e)

-- the daemon after it, once what is left of the writes is put back
pub put_back : (k : Config) (d lent after : Kept) (n : Asker) (x : What) (p : Pending) (ws : List Write) (from : Origin_of_put) (since : ℕ) → lent ≡ record d { background = lent.background } → Fits (setup k) no_request (due_pending k.levels p) x
    → n.origin ≡ from → n.last ≡ 0 → n.reserved ≡ since → KeptMoves lent n x after → record after { background = ws } ≡ backed d after.state ws from since d.state.world.moment x
put_back k d lent after n x p ws from since is fits origin last reserved moves =
    let m = lent.state.world.moment in
    let leaves = writing_leaves lent.free m lent.handed x lent.stats (row (setup (config_of lent.state.config)) n.request n.outcome m x) (goes (setup k) no_request p.stage (kind_at k.levels p.handed.level) p.handed.level (bytes_in p.handed) x fits) in
    let stats : after.stats ≡ d.stats = moves.stats ∙ leaves.2 ∙ ap (λ (e : Kept). e.stats) is in
    let free : after.free ≡ d.free = moves.free ∙ leaves.0 ∙ ap (λ (e : Kept). e.free) is in
    let handed : after.handed ≡ d.handed = moves.handed ∙ unhanded lent.handed (hands lent.handed m x) leaves.1 ∙ ap (λ (e : Kept). e.handed) is in
    let same : lent.state.config ≡ after.state.config = sym moves.moves.4 in
    let levels : after.levels ≡ counted_level after.state.config.policy (level_row from 0 since d.state.world.moment x) x d.levels = moves.levels
    ∙ ap (λ (f : DaemonFacts). counted_level f.policy (level_row n.origin n.last n.reserved m x) x lent.levels) same
    ∙ ap (λ (o : Origin_of_put). counted_level after.state.config.policy (level_row o n.last n.reserved m x) x lent.levels) origin
    ∙ ap (λ (z : ℕ). counted_level after.state.config.policy (level_row from z n.reserved m x) x lent.levels) last
    ∙ ap (λ (z : ℕ). counted_level after.state.config.policy (level_row from 0 z m x) x lent.levels) reserved
    ∙ ap (λ (e : Kept). counted_level after.state.config.policy (level_row from 0 since e.state.world.moment x) x e.levels) is in
    λ j. record { state = after.state; stats = stats j; free = free j; levels = levels j; background = ws; handed = handed j }
