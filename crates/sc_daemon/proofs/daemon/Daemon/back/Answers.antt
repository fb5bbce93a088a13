use Rattle.std.proofs.Common.{◌≡◌, ℕ, List, ◌<◌, length, Some, ap, refl, sym, subst, ◌∙◌}
use Rattle.sc_daemon.proofs.Backing.{backs_event}
use Rattle.sc_daemon.proofs.Handing.{place_within, same_write}
use Rattle.sc_daemon.proofs.Lending.{put_back}
use Rattle.sc_daemon.specs.Backlogs.{AdvancesAt, ArePending, MarksAs, Write, write_at}
use Rattle.sc_daemon.specs.Daemons.{BacksEvent, Kept}
use Rattle.sc_daemon.specs.Moving.{KeptMoves}
use Rattle.sc_daemon_job.specs.Askers.{asker}
use Rattle.sc_daemon_job.specs.LevelRows.{origin_of}
use Rattle.sc_daemon_job.specs.Setups.{setup}
use Rattle.sc_daemon_job.specs.declared.since.Since.{Since}
use Rattle.sc_daemon_owned.specs.Facts.{config_of}
use Rattle.sc_daemon_owned.specs.State.{disk_at}
use Rattle.sc_model.specs.Follows.{Fits}
use Rattle.sc_model.specs.Pendings.{due_pending, need_back}
use Rattle.sc_model.specs.Rows.{by_backfill}
use Rattle.sc_model.specs.Trace.{no_request}
use Rattle.sc_model.specs.World.{Need}
use Rattle.sc_model.specs.declared.event.Owner.TheVariants.{Write as OfWrite}
use Rattle.sc_model.specs.declared.message.Request.TheVariants.{ZeroStats}
use Rattle.sc_daemon.proofs.daemon.Daemon.back.Goals as goal

pub advance-what-requires-clause-place : goal.advance-what-requires-clause-place
advance-what-requires-clause-place g c = subst (λ (ws : List Write). c.args.place < length ws) (sym c.replace-backlog.ensures.value) (place_within c.self.inside.background c.args.place c.in-Some.write.now c.in-Some.ensures.some)

pub advance-what-requires-clause-pending : goal.advance-what-requires-clause-pending
advance-what-requires-clause-pending g c =
    let i = c.self.inside in
    subst (λ (ws : List Write). ArePending (config_of i.owned.config) (Some (disk_at i.owned)) ws) (sym c.replace-backlog.ensures.value)
    (subst (λ (d : Kept). ArePending (config_of d.state.config) (Some (disk_at d.state)) d.background) (sym c.self.view_is) c.requires.pending)

pub returns : goal.returns
returns g c =
    let i = c.self.inside in
    let d : Kept = record { state = i.owned; stats = i.stats; free = i.free; levels = i.levels.items; background = i.background; handed = i.handed } in
    let lent : Kept = record d { background = c.replace-backlog.new.dest } in
    let k = config_of d.state.config in
    let w = c.in-Some.write.now in
    let h = c.advance-what.new.hold in
    let x = c.in_ok-what.field-0 in
    let ws = c.advance-what.new.self in
    let t = c.self-2.inside in
    let new : Kept = record { state = t.owned; stats = t.stats; free = t.free; levels = t.levels.items; background = ws; handed = t.handed } in
    let e = c.in_ok-what.ensures in
    let since : Since = record { origin = c.handed_origin.result; last = 0; outcome = 0; reserved = c.since.result } in
    let from = origin_of c.handed_origin.result in
    let moves : (n : Need) → MarksAs n w.pending → KeptMoves lent (asker since n ZeroStats) x h = λ n marks. e.moves n ZeroStats (λ v there. subst (λ (u : Write). MarksAs n u.pending)
    (same_write i.background c.args.place w v c.in-Some.ensures.some (subst (λ (vs : List Write). write_at c.args.place vs ≡ Some v) c.replace-backlog.ensures.value there)) marks) in
    let all = moves (need_back (setup k) w.pending) refl in
    let goes : AdvancesAt k h.state.world.moment (Some (disk_at d.state)) (Some (disk_at h.state)) c.args.place x i.background ws = subst (λ (vs : List Write). AdvancesAt k h.state.world.moment (Some (disk_at d.state)) (Some (disk_at h.state)) c.args.place x vs ws) c.replace-backlog.ensures.value e.advances in
    let still : h.state.world.moment ≡ d.state.world.moment = all.moves.1.moment in
    let fits = subst (λ (v : Write). Fits (setup k) no_request (due_pending k.levels v.pending) x) (same_write i.background c.args.place goes.write w goes.at c.in-Some.ensures.some) goes.advances.fits in
    let whole = put_back k d lent h (asker since (need_back (setup k) w.pending) ZeroStats) x w.pending ws from c.since.result refl fits refl refl refl all in
    record {
      backs = subst (λ (m : ℕ). BacksEvent c.args.place (record { moment = m; owner = OfWrite c.number.result; what = x }) c.args.self.now new) (sym (c.now.ensures ∙ ap (λ (t : Kept). t.state.world.moment) c.self-2.view_is ∙ still))
          (backs_event c.args.place w c.number.result d.state.world.moment c.since.result x from d c.args.self.now new h.state ws c.self.view_is
          (ap (λ (t : Kept). t.state.world.moment) c.self.view_is) c.number.ensures c.in-Some.ensures.some
          (subst (λ (m : ℕ). AdvancesAt k m (Some (disk_at d.state)) (Some (disk_at h.state)) c.args.place x i.background ws) still goes) (λ n marks. (moves n marks).moves) all.moves.4
          (c.handed_origin.ensures ∙ λ j. by_backfill (c.is_backfill.ensures j) (c.at.ensures j)) c.since.ensures (ap (λ (t : Kept). record t { background = ws }) c.self-2.view_is ∙ whole));
    }
