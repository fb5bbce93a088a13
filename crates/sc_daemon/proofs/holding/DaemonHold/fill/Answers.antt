use Rattle.std.proofs.Common.{refl, subst}
use Rattle.sc_daemon.proofs.Moved.{moved_at}
use Rattle.sc_daemon.specs.Daemons.{Kept}
use Rattle.sc_daemon.specs.Moving.{KeptMoves}
use Rattle.sc_daemon_hold.specs.Holding.{filled_of}
use Rattle.sc_daemon_job.specs.Askers.{asker}
use Rattle.sc_model.specs.declared.event.What.TheVariants.{Filled}
use Rattle.sc_daemon.proofs.holding.DaemonHold.fill.Goals as goal

pub returns-clause-moves : goal.returns-clause-moves
returns-clause-moves g c n r =
    let i = c.self.inside in
    let d : Kept = record { state = i.owned; stats = i.stats; free = i.free; levels = i.levels.items; background = i.background; handed = i.handed } in
    let since = c.args.since in
    let x = Filled c.args.level c.args.bytes.now.key c.args.bytes.now.bytes c.args.bytes.now.run (filled_of c.in_ok-how.how) in
    let owned = c.in_ok-how.ensures.moves n in
    subst (λ (e : Kept). KeptMoves e (asker since n r) x c.count.new.self) c.self.view_is
    (moved_at d c.count.new.self (asker since n r) x c.args.level c.filled_row.result c.fill.new.self refl (refl, refl, refl) tt owned (c.filled_row.ensures c.args.level c.args.bytes.now.key c.args.bytes.now.bytes c.args.bytes.now.run since.last since.reserved i.owned.world.moment) c.count.ensures.levels)
