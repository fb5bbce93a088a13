-- A served event that was counted.
use Rattle.std.proofs.Common.{◌≡◌, ℕ, true, false, Result, Ok, Err, refl, sym, ◌∙◌, subst, Some}
use Rattle.std.specs.Prelude.{IfOk, IsOk, OnOk}
use Rattle.sc_daemon.specs.Daemons.{Kept, ServesEvent}
use Rattle.sc_daemon.specs.Lines.{Line, asker_at, conn_of}
use Rattle.sc_daemon.specs.Moving.{KeptMoves}
use Rattle.sc_daemon.specs.Says.{counted}
use Rattle.sc_daemon.specs.Turns.{Serves_one}
use Rattle.sc_daemon_job.specs.Setups.{setup}
use Rattle.sc_daemon_owned.specs.Facts.{config_of}
use Rattle.sc_daemon_owned.specs.State.{disk_at}
use Rattle.sc_model.specs.Conns.{current}
use Rattle.sc_model.specs.Rows.{count, row, zeroes}
use Rattle.sc_model.specs.Script.{Setup}
use Rattle.sc_model.specs.declared.event.Owner.TheVariants.{Request as OfRequest}
use Rattle.sc_model.specs.declared.event.What.{What}
use Rattle.sc_model.specs.declared.event.What.TheVariants.{Asked, Began, Closed, Committed, Dist, Filled, Idle, Keyed, Outcome, Passed, Placed, Ran, Reserved, Sent, Taken, TokenTaken, TooLong, WriteEnded, Wrote}
use Rattle.sc_model.specs.declared.message.Request.{Request}
use Rattle.sc_stats.specs.Sums.{no_stats, sum}
use Rattle.sc_stats.specs.declared.counters.ServerStats.{ServerStats}

err_ok : false ≡ true → ⊥
err_ok e = absurd (cc)

-- a fact of an answer that is Ok only where another is
pub if_both : {A B E F : Type 0} {P R : A → Type 0} {Q : Type 0} (r : Result A E) (q : Result B F) → IfOk r P → (IsOk r → IsOk q) → IfOk q (λ x. Q) → ((a : A) → P a → Q → R a) → IfOk r R
if_both (Ok a) (Ok b) p both q f = f a p q
if_both (Ok a) (Err e) p both q f = absurd (err_ok (both refl))
if_both (Err e) q p both h f = tt

pub if_both_on : {A B E F : Type 0} {P R : A → Type 0} {Q : Type 0} (r : Result A E) (q : Result B F) → IfOk r P → (IsOk r → IsOk q) → OnOk q Q → ((a : A) → P a → Q → R a) → IfOk r R
if_both_on (Ok a) (Ok b) p both q f = f a p q
if_both_on (Ok a) (Err e) p both q f = absurd (err_ok (both refl))
if_both_on (Err e) q p both h f = tt

pub if_any : {A E : Type 0} {Q : Type 0} (r : Result A E) → Q → IfOk r (λ x. Q)
if_any (Ok a) q = q
if_any (Err e) q = tt

-- what an event counts, whether or not it counts anything, where nothing added changes nothing
counted_count : (s : Setup) (r : Request) (since m : ℕ) (x : What) (before : ServerStats) → sum before no_stats ≡ before → counted x before (row s r since m x) ≡ count (zeroes x) before (row s r since m x)
counted_count s r since m Idle before none = sym none
counted_count s r since m (Passed a) before none = sym none
counted_count s r since m (Taken a b) before none = sym none
counted_count s r since m (Closed a) before none = sym none
counted_count s r since m (Began q told) before none = refl
counted_count s r since m (Keyed true client step) before none = refl
counted_count s r since m (Keyed false client step) before none = sym none
counted_count s r since m (Asked l k mode a hs) before none = sym none
counted_count s r since m (Placed p) before none = sym none
counted_count s r since m TokenTaken before none = sym none
counted_count s r since m (Ran a) before none = sym none
counted_count s r since m (Dist a) before none = sym none
counted_count s r since m (Outcome v task) before none = refl
counted_count s r since m (Reserved l k z how) before none = sym none
counted_count s r since m (Filled l k b mark how) before none = sym none
counted_count s r since m (Committed l k b how) before none = sym none
counted_count s r since m (Wrote l k b mode mark how) before none = sym none
counted_count s r since m (WriteEnded put hs) before none = refl
counted_count s r since m (Sent g) before none = sym none
counted_count s r since m (TooLong z) before none = sym none

pub serves_event : (c j : ℕ) (x : What) (d d2 : Kept) (old new : Line) → j ≡ old.at → sum d.stats no_stats ≡ d.stats → Serves_one (config_of d.state.config) (Some (disk_at d.state)) (Some (disk_at d2.state)) d2.state.world.moment d.free x old new
    → KeptMoves d (asker_at (config_of d.state.config) old) x d2 → ServesEvent c (record { moment = d2.state.world.moment; owner = OfRequest c j; what = x }) d d2 old new
serves_event c j x d d2 old new number none one moves =
    let k = config_of d.state.config in
    let still : d2.state.world.moment ≡ d.state.world.moment = moves.moves.1.moment in
    record {
      moment = still;
      serves = (
        refl,
        record {
          number = number;
          one = subst (λ (m : ℕ). Serves_one k (Some (disk_at d.state)) (Some (disk_at d2.state)) m d.free x old new) still one;
          says = moves.says;
          moves = moves.moves;
          config = moves.moves.4;
          free = moves.free;
          levels = moves.levels;
          background = moves.background;
          handed = moves.handed;
          stats = moves.stats ∙ counted_count (setup k) (current (conn_of old)) old.outcome d.state.world.moment x d.stats none;
        },
      );
    }

pub if_map : {A E : Type 0} {P Q : A → Type 0} (r : Result A E) → IfOk r P → ((a : A) → P a → Q a) → IfOk r Q
if_map (Ok a) p f = f a p
if_map (Err e) p f = tt
