use Rattle.std.proofs.Common.{◌≡◌, ℕ, Option, Some, sym, subst}
use Rattle.sc_daemon.proofs.Counted.{serves_event}
use Rattle.sc_daemon.specs.Daemons.{Kept, ServesEvent}
use Rattle.sc_daemon.specs.Lines.{asker_at}
use Rattle.sc_daemon.specs.Moving.{KeptMoves}
use Rattle.sc_daemon.specs.Turns.{MovesHold, ServesLine}
use Rattle.sc_daemon_owned.specs.Facts.{config_of}
use Rattle.sc_daemon_owned.specs.State.{disk_at}
use Rattle.sc_model.specs.declared.event.Owner.TheVariants.{Request as OfRequest}
use Rattle.sc_model.specs.declared.event.What.{What}
use Rattle.sc_stats.specs.Sums.{no_stats, sum}
use Rattle.sc_daemon.proofs.daemon.Daemon.serve.Goals as goal

pub returns-in-Some : goal.returns-in-Some
returns-in-Some g c =
    let d = c.args.self.now in
    let old = c.args.conn.now in
    let line = c.serve.new.self in
    let new = c.serve.new.hold in
    let e = c.in_ok-serve.ensures in
    let k = config_of d.state.config in
    let free = subst (λ (b : Kept). ServesLine k (Some (disk_at d.state)) (Some (disk_at new.state)) new.state.world.moment b.free c.in_ok-serve.field-0 old line) c.self.view_is e.serves in
    let one = subst (λ (o : Option What). ServesLine k (Some (disk_at d.state)) (Some (disk_at new.state)) new.state.world.moment d.free o old line) c.in-Some.is free in
    let moves = subst (λ (o : Option What). MovesHold KeptMoves (asker_at k old) o d new) c.in-Some.is e.moves in
    let none = subst (λ (b : Kept). sum b.stats no_stats ≡ b.stats) c.self.view_is c.adds_nothing.ensures in
    record {
      serves = subst (λ (m : ℕ). ServesEvent c.args.number (record { moment = m; owner = OfRequest c.args.number c.at-at.result; what = c.in-Some.what }) d new old line) (sym c.now.ensures)
          (serves_event c.args.number c.at-at.result c.in-Some.what d new old line c.at-at.ensures none one moves);
      rests = e.rests;
    }
