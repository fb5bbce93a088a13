use Rattle.std.proofs.Common.{length, refl, subst}
use Rattle.sc_daemon.proofs.Moved.{moved_at}
use Rattle.sc_daemon.specs.Daemons.{Kept}
use Rattle.sc_daemon.specs.Moving.{KeptMoves}
use Rattle.sc_daemon_job.specs.Askers.{asker}
use Rattle.sc_model.specs.declared.event.What.TheVariants.{Reserved}
use Rattle.sc_store_disk.specs.Moving.{written_of}
use Rattle.sc_daemon.proofs.holding.DaemonHold.reserve.Goals as goal

pub returns-clause-moves : goal.returns-clause-moves
returns-clause-moves g c n r =
    let i = c.self.inside in
    let d : Kept = record { state = i.owned; stats = i.stats; free = i.free; levels = i.levels.items; background = i.background; handed = i.handed } in
    let since = c.args.since in
    let x = Reserved c.args.level c.args.bytes.now.key (length c.args.bytes.now.bytes) (written_of c.in_ok-how.how) in
    let owned = c.in_ok-how.ensures.moves n in
    subst (λ (e : Kept). KeptMoves e (asker since n r) x c.count.new.self) c.self.view_is
    (moved_at d c.count.new.self (asker since n r) x c.args.level c.reserved_row.result c.reserve.new.self refl (refl, refl, refl) tt owned (c.reserved_row.ensures c.args.level (length c.args.bytes.now.bytes) c.args.bytes.now.key since.last since.reserved i.owned.world.moment) c.count.ensures.levels)
