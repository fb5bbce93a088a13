use Rattle.std.proofs.Common.{Option, sym, subst}
use Rattle.sc_daemon_action.specs.Hands.{hand_of}
use Rattle.sc_disk.specs.Store.{AddEntry}
use Rattle.sc_daemon_hold.specs.Holding.{KeepsIn}
use Rattle.sc_daemon_job.specs.Askers.{asker}
use Rattle.sc_daemon_job.specs.Setups.{setup}
use Rattle.sc_model.specs.Conns.{need_at}
use Rattle.sc_model.specs.declared.phase.Phase.{Phase}
use Rattle.sc_model.specs.declared.phase.Phase.TheVariants.{AtCommit, AtFill}
use Rattle.sc_daemon_action.proofs.Putting.{keeps_write}
use Rattle.sc_daemon_action.proofs.writing.act_writing.Goals as goal

pub returns-in_ok-action-in-AtWrite-clause-others : goal.returns-in_ok-action-in-AtWrite-clause-others
returns-in_ok-action-in-AtWrite-clause-others g c =
    let w = c.in-AtWrite in
    let old = g.H.Hold.rooms c.args.hold.now in
    let new = g.H.Hold.rooms c.act_next.new.hold in
    subst (λ (p : Phase). KeepsIn (hand_of c.args.entry p) old new) (sym w.is) (keeps_write c.args.entry w.bytes w.levels w.refusal w.ending old new c.in_ok-action-in-AtWrite.ensures.others)

pub returns-in_ok-action-in-AtWrite-clause-moves : goal.returns-in_ok-action-in-AtWrite-clause-moves
returns-in_ok-action-in-AtWrite-clause-moves g c =
    subst (λ (p : Phase). g.H.Hold.moves c.args.hold.now (asker c.args.since (need_at (setup (g.H.Hold.config c.args.hold.now)) c.args.request.now p) c.args.request.now) c.in_ok-action-in-AtWrite.action.what c.act_next.new.hold) (sym c.in-AtWrite.is) c.in_ok-action-in-AtWrite.ensures.moves

pub returns-in_ok-action-in-AtFill-clause-others : goal.returns-in_ok-action-in-AtFill-clause-others
returns-in_ok-action-in-AtFill-clause-others g c =
    let w = c.in-AtFill in
    let old = g.H.Hold.rooms c.args.hold.now in
    let new = g.H.Hold.rooms c.act_fill.new.hold in
    subst (λ (p : Phase). KeepsIn (hand_of c.args.entry p) old new) (sym w.is)
    (subst (λ (e : Option AddEntry). KeepsIn (hand_of e (AtFill w.bytes w.level w.rest w.refusal w.ending)) old new) (sym c.in-Some.is) c.in_ok-action-in-AtFill.ensures.others)

pub returns-in_ok-action-in-AtFill-clause-moves : goal.returns-in_ok-action-in-AtFill-clause-moves
returns-in_ok-action-in-AtFill-clause-moves g c =
    subst (λ (p : Phase). g.H.Hold.moves c.args.hold.now (asker c.args.since (need_at (setup (g.H.Hold.config c.args.hold.now)) c.args.request.now p) c.args.request.now) c.in_ok-action-in-AtFill.action.what c.act_fill.new.hold) (sym c.in-AtFill.is) (c.in_ok-action-in-AtFill.ensures.moves c.args.request.now)

pub returns-in_ok-action-in-AtCommit-clause-others : goal.returns-in_ok-action-in-AtCommit-clause-others
returns-in_ok-action-in-AtCommit-clause-others g c =
    let w = c.in-AtCommit in
    let old = g.H.Hold.rooms c.args.hold.now in
    let new = g.H.Hold.rooms c.act_commit.new.hold in
    subst (λ (p : Phase). KeepsIn (hand_of c.args.entry p) old new) (sym w.is)
    (subst (λ (e : Option AddEntry). KeepsIn (hand_of e (AtCommit w.bytes w.level w.rest w.refusal w.ending)) old new) (sym c.in-Some-entry.is) c.in_ok-action-in-AtCommit.ensures.others)

pub returns-in_ok-action-in-AtCommit-clause-moves : goal.returns-in_ok-action-in-AtCommit-clause-moves
returns-in_ok-action-in-AtCommit-clause-moves g c =
    subst (λ (p : Phase). g.H.Hold.moves c.args.hold.now (asker c.args.since (need_at (setup (g.H.Hold.config c.args.hold.now)) c.args.request.now p) c.args.request.now) c.in_ok-action-in-AtCommit.action.what c.act_commit.new.hold) (sym c.in-AtCommit.is) (c.in_ok-action-in-AtCommit.ensures.moves c.args.request.now)
