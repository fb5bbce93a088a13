use Rattle.std.proofs.Common.{ℕ, ◌-◌, ap, refl, subst, ◌∙◌}
use Rattle.sc_daemon.proofs.Moved.{moved_at}
use Rattle.sc_daemon.specs.Daemons.{Kept}
use Rattle.sc_daemon.specs.Moving.{KeptMoves}
use Rattle.sc_daemon_job.specs.Askers.{asker}
use Rattle.sc_daemon_job.specs.LevelRows.{origin_of}
use Rattle.sc_model.specs.Rows.{written_level_row}
use Rattle.sc_model.specs.declared.event.What.TheVariants.{Committed}
use Rattle.sc_daemon.proofs.holding.DaemonHold.commit.Goals as goal

pub returns-clause-moves : goal.returns-clause-moves
returns-clause-moves g c n r mark =
    let i = c.self.inside in
    let d : Kept = record { state = i.owned; stats = i.stats; free = i.free; levels = i.levels.items; background = i.background; handed = i.handed } in
    let since = c.args.since in
    let x = Committed c.args.level c.args.bytes.now.key c.args.bytes.now.bytes c.in_ok-written.written in
    let owned = c.in_ok-written.ensures.moves n mark in
    subst (λ (e : Kept). KeptMoves e (asker since n r) x c.count.new.self) c.self.view_is
    (moved_at d c.count.new.self (asker since n r) x c.args.level c.written_row-row.result c.commit.new.self refl (refl, refl, refl) tt owned (c.written_row-row.ensures ∙ ap (λ (t : ℕ). written_level_row (origin_of since.origin) t c.in_ok-written.written) (c.saturating_sub-duration.ensures ∙ ap (λ (z : ℕ). z - since.reserved) (c.now.ensures ∙ owned.1.moment))) c.count.ensures.levels)
