use Rattle.std.proofs.Common.{ℕ, ap, refl, subst, ◌∙◌}
use Rattle.sc_daemon.proofs.Moved.{moved_at}
use Rattle.sc_daemon.specs.Daemons.{Kept}
use Rattle.sc_daemon.specs.Moving.{KeptMoves}
use Rattle.sc_daemon_job.specs.Askers.{asker}
use Rattle.sc_daemon_job.specs.LevelRows.{origin_of}
use Rattle.sc_model.specs.Rows.{level_row}
use Rattle.sc_model.specs.declared.event.Mode.TheVariants.{Pre}
use Rattle.sc_model.specs.declared.event.What.TheVariants.{Wrote}
use Rattle.sc_daemon.proofs.holding.DaemonHold.write_pre.Goals as goal

pub returns-clause-moves : goal.returns-clause-moves
returns-clause-moves g c n r =
    let i = c.self.inside in
    let d : Kept = record { state = i.owned; stats = i.stats; free = i.free; levels = i.levels.items; background = i.background; handed = i.handed } in
    let since = c.args.since in
    let x = Wrote c.args.level c.args.bytes.now.key c.args.bytes.now.bytes Pre c.args.bytes.now.run c.in_ok-written.written in
    let owned = c.in_ok-written.ensures.moves n in
    subst (λ (e : Kept). KeptMoves e (asker since n r) x c.count.new.self) c.self.view_is
    (moved_at d c.count.new.self (asker since n r) x c.args.level c.wrote_row-row.result c.write_pre.new.self refl (refl, refl, refl) tt owned (c.wrote_row-row.ensures c.args.level c.args.bytes.now.key c.args.bytes.now.bytes c.args.bytes.now.run since.reserved ∙ ap (λ (z : ℕ). level_row (origin_of since.origin) since.last since.reserved z x) (c.now-now.ensures ∙ owned.1.moment)) c.count.ensures.levels)
