use Rattle.std.proofs.Common.{◌≡◌, ap, refl, sym, ◌∙◌}
use Rattle.sc_daemon.proofs.Writes.{commits, filled_holds}
use Rattle.sc_daemon.specs.Backlogs.{Write}
use Rattle.sc_model.specs.Job.{mark_of}
use Rattle.sc_model.specs.Pendings.{stage_fills}
use Rattle.sc_daemon.proofs.write.Write.commit.Goals as goal

pub commit_entry-requires-clause-holds : goal.commit_entry-requires-clause-holds
commit_entry-requires-clause-holds g c =
    filled_holds (g.H.Hold.config c.args.hold.now) (g.H.Hold.rooms c.args.hold.now) _ c.args.self.now c.in-Some.held c.self.view_is c.requires.pending c.requires.filled (sym c.take.ensures.value ∙ c.in-Some.is)

pub returns-clause-goes : goal.returns-clause-goes
returns-clause-goes g c =
    let e = c.in_ok-action.ensures in
    commits (g.H.Hold.config c.args.hold.now) (g.H.Hold.rooms c.args.hold.now) (g.H.Hold.rooms c.commit_entry.new.hold) _ c.args.self.now _ c.in_ok-action.action.what c.in-Some.held c.in_ok-action.action.written
    c.self.view_is c.requires.pending c.requires.filled (sym c.take.ensures.value ∙ c.in-Some.is) e.what e.hands e.others refl c.take.ensures.after

pub returns-clause-moves : goal.returns-clause-moves
returns-clause-moves g c n r marks =
    let w = c.args.self.now in
    let filled : mark_of (stage_fills w.pending.stage w.pending.handed.marked) ≡ w.pending.handed.marked = ap (λ stage. mark_of (stage_fills stage w.pending.handed.marked)) c.requires.filled in
    c.in_ok-action.ensures.moves n r (marks ∙ filled ∙ ap (λ (v : Write). v.pending.handed.marked) (sym c.self.view_is))
