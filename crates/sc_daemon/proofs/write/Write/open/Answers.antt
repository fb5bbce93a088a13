use Rattle.std.proofs.Common.{refl}
use Rattle.sc_daemon.proofs.Writes.{opens}
use Rattle.sc_daemon.proofs.write.Write.open.Goals as goal

pub returns-clause-goes : goal.returns-clause-goes
returns-clause-goes g c =
    let e = c.in_ok-action.ensures in
    opens (g.H.Hold.config c.args.hold.now) (g.H.Hold.rooms c.args.hold.now) (g.H.Hold.rooms c.open_entry.new.hold) _ c.args.self.now _ c.in_ok-action.action.what c.in_ok-action.action.entry c.in_ok-action.action.written
    c.self.view_is c.requires.pending c.requires.fresh c.requires.disk e.what e.held e.hands e.others refl refl
