use Rattle.std.proofs.Common.{refl, sym, ◌∙◌}
use Rattle.sc_daemon.proofs.Writes.{fills, reserved_holds}
use Rattle.sc_daemon.proofs.write.Write.fill.Goals as goal

pub fill_entry-requires-clause-holds : goal.fill_entry-requires-clause-holds
fill_entry-requires-clause-holds g c =
    reserved_holds (g.H.Hold.config c.args.hold.now) (g.H.Hold.rooms c.args.hold.now) _ c.args.self.now c.in-Some.held c.self.view_is c.requires.pending c.requires.reserved (sym c.take.ensures.value ∙ c.in-Some.is)

pub returns-clause-goes : goal.returns-clause-goes
returns-clause-goes g c =
    let e = c.in_ok-action.ensures in
    fills (g.H.Hold.config c.args.hold.now) (g.H.Hold.rooms c.args.hold.now) (g.H.Hold.rooms c.fill_entry.new.hold) _ c.args.self.now _ c.in_ok-action.action.what c.in_ok-action.action.entry c.in-Some.held c.in_ok-action.action.written
    c.self.view_is c.requires.pending c.requires.reserved (sym c.take.ensures.value ∙ c.in-Some.is) e.what e.held e.hands e.others refl refl
