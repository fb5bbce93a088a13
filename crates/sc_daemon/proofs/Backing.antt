-- An event of a handed write that was counted.
use Rattle.std.proofs.Common.{◌≡◌, ℕ, List, Some, inr, refl, sym, ap, ◌∙◌, subst}
use Rattle.sc_daemon.proofs.Handing.{same_write}
use Rattle.sc_daemon.specs.Backlogs.{Advances, AdvancesAt, MarksAs, Write, with_write, write_at}
use Rattle.sc_daemon.specs.Daemons.{BacksAt, BacksEvent, Kept}
use Rattle.sc_daemon_job.specs.Setups.{setup}
use Rattle.sc_model.specs.Machine.{counted_level}
use Rattle.sc_model.specs.Pendings.{need_back}
use Rattle.sc_model.specs.Rows.{Origin_of_put, by_backfill, level_row}
use Rattle.sc_model.specs.Trace.{ends_write}
use Rattle.sc_model.specs.World.{Need}
use Rattle.sc_model.specs.declared.event.Owner.TheVariants.{Write as OfWrite}
use Rattle.sc_model.specs.declared.event.What.{What}
use Rattle.sc_daemon_owned.specs.Moving.{OwnedMoves}
use Rattle.sc_daemon_owned.specs.State.{State, disk_at}
use Rattle.sc_daemon_owned.specs.Facts.{DaemonFacts, config_of}

-- what was counted of it at its level
abbrev pub backed : Kept → State → List Write → Origin_of_put → (since moment : ℕ) → What → Kept
backed d o ws from since moment x = record d { state = o; background = ws; levels = counted_level o.config.policy (level_row from 0 since moment x) x d.levels }

backed_of : (i : ℕ) (w : Write) (number moment since : ℕ) (x : What) (from : Origin_of_put) (d new : Kept) (o : State) (ws : List Write) → moment ≡ d.state.world.moment → number ≡ w.pending.number → write_at i d.background ≡ Some w
    → AdvancesAt (config_of d.state.config) d.state.world.moment (Some (disk_at d.state)) (Some (disk_at o)) i x d.background ws → ((n : Need) → MarksAs n w.pending → OwnedMoves d.state n x o) → o.config ≡ d.state.config
    → from ≡ by_backfill w.pending.backfill w.pending.at → since ≡ w.pending.since → new ≡ backed d o ws from since moment x → BacksAt i w (record { moment = moment; owner = OfWrite number; what = x }) d new
backed_of i w number moment since x from d new o ws now is_number at goes moves same is_from is_since is =
    let k = config_of d.state.config in
    let left = with_write i (ends_write x) goes.then d.background in
    let shown = counted_level k.policy (level_row (by_backfill w.pending.backfill w.pending.at) 0 w.pending.since moment x) x d.levels in
    let its : goes.write ≡ w = same_write d.background i goes.write w goes.at at in
    record {
      moment = now;
      owner = ap OfWrite is_number;
      then = goes.then;
      advances = subst (λ (e : Kept). Advances k d.state.world.moment (Some (disk_at d.state)) (Some (disk_at e.state)) x w goes.then) (sym is)
          (subst (λ (v : Write). Advances k d.state.world.moment (Some (disk_at d.state)) (Some (disk_at o)) x v goes.then) its goes.advances);
      moves = subst (λ (e : Kept). OwnedMoves d.state (need_back (setup k) w.pending) x e.state) (sym is) (moves (need_back (setup k) w.pending) refl);
      config = ap (λ (e : Kept). e.state.config) is ∙ same;
      same = is
          ∙ ap (λ (f : DaemonFacts). record d { state = o; background = ws; levels = counted_level f.policy (level_row from 0 since moment x) x d.levels }) same
          ∙ ap (λ (f : Origin_of_put). record d { state = o; background = ws; levels = counted_level k.policy (level_row f 0 since moment x) x d.levels }) is_from
          ∙ ap (λ (n : ℕ). record d { state = o; background = ws; levels = counted_level k.policy (level_row (by_backfill w.pending.backfill w.pending.at) 0 n moment x) x d.levels }) is_since
          ∙ ap (λ (vs : List Write). record d { state = o; background = vs; levels = counted_level k.policy (level_row (by_backfill w.pending.backfill w.pending.at) 0 w.pending.since moment x) x d.levels }) goes.left
          ∙ ap (λ (s : State). record d { state = s; background = left; levels = shown }) (sym (ap (λ (e : Kept). e.state) is));
    }

pub backs_event : (i : ℕ) (w : Write) (number moment since : ℕ) (x : What) (from : Origin_of_put) (was d new : Kept) (o : State) (ws : List Write) → was ≡ d → moment ≡ d.state.world.moment → number ≡ w.pending.number → write_at i was.background ≡ Some w
    → AdvancesAt (config_of was.state.config) was.state.world.moment (Some (disk_at was.state)) (Some (disk_at o)) i x was.background ws → ((n : Need) → MarksAs n w.pending → OwnedMoves was.state n x o) → o.config ≡ was.state.config
    → from ≡ by_backfill w.pending.backfill w.pending.at → since ≡ w.pending.since → new ≡ backed was o ws from since moment x → BacksEvent i (record { moment = moment; owner = OfWrite number; what = x }) d new
backs_event i w number moment since x from was d new o ws is now is_number at goes moves same is_from is_since counted =
    inr (
      w,
      subst (λ (e : Kept). write_at i e.background ≡ Some w) is at,
      subst (λ (e : Kept). BacksAt i w (record { moment = moment; owner = OfWrite number; what = x }) e new) is
          (backed_of i w number moment since x from was new o ws (now ∙ ap (λ (e : Kept). e.state.world.moment) (sym is)) is_number at goes moves same is_from is_since counted),
    )
