use Rattle.std.proofs.Common.{ap}
use Rattle.sc_daemon.proofs.Writes.{advanced_by, stepped_view}
use Rattle.sc_daemon.specs.Backlogs.{Write}
use Rattle.sc_daemon.proofs.write.Write.advance.Goals as goal

pub returns-clause-advances : goal.returns-clause-advances
returns-clause-advances g c =
    let m = g.H.Hold.moment c.act.new.hold in
    let x = c.in_ok-what.what in
    advanced_by (g.H.Hold.config c.args.hold.now) m (g.H.Hold.rooms c.args.hold.now) (g.H.Hold.rooms c.act.new.hold) x c.args.self.now c.act.new.self _ c.requires c.in_ok-what.ensures.goes
    (stepped_view _ c.act.new.self m c.now-now.result x c.stage_after-self-inside.result c.since_after-self-inside.result c.self.view_is c.now-now.ensures c.stage_after-self-inside.ensures c.since_after-self-inside.ensures)
    (ap (λ (w : Write). w.entry) c.self.view_is)
