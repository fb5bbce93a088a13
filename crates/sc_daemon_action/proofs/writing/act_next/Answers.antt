use Rattle.std.proofs.Common.{None, sym, subst}
use Rattle.sc_daemon_action.specs.declared.acted.Action.{Action}
use Rattle.sc_daemon_job.specs.Askers.{asker}
use Rattle.sc_daemon_job.specs.Setups.{setup}
use Rattle.sc_model.specs.Conns.{need_at}
use Rattle.sc_model.specs.declared.phase.Phase.TheVariants.{AtWrite}
use Rattle.sc_daemon_action.proofs.Holding.{still_keeps, still_none}
use Rattle.sc_daemon_action.proofs.writing.act_next.Goals as goal

pub returns-in_ok-action-in-Disk-clause-moves : goal.returns-in_ok-action-in-Disk-clause-moves
returns-in_ok-action-in-Disk-clause-moves g c = c.in_ok-action-in-Disk.ensures.moves c.args.request.now

pub returns-in_ok-acted-in-Remote-clause-others : goal.returns-in_ok-acted-in-Remote-clause-others
returns-in_ok-acted-in-Remote-clause-others g c =
    let acts = c.in_ok-acted-in-Remote.ensures.acts c.args.request.now c.requires.ending in
    still_keeps None (g.H.Hold.rooms c.args.hold.now) (g.H.Hold.rooms c.write_level.new.hold)
    (g.met.H.Hold.still c.args.hold.now _ _ c.write_level.new.hold (c.in_ok-acted-in-Remote.ensures.moves c.args.request.now) (still_none _ acts.still))

pub returns-in_ok-acted-in-Remote-clause-moves : goal.returns-in_ok-acted-in-Remote-clause-moves
returns-in_ok-acted-in-Remote-clause-moves g c =
    subst (λ (a : Action). g.H.Hold.moves c.args.hold.now (asker c.args.since (need_at (setup (g.H.Hold.config c.args.hold.now)) c.args.request.now (AtWrite c.args.bytes c.args.levels c.args.refusal c.args.ending)) c.args.request.now) a.what c.write_level.new.hold) (sym c.holding_none-in-Remote.ensures)
    (c.in_ok-acted-in-Remote.ensures.moves c.args.request.now)

pub returns-in_default-clause-others : goal.returns-in_default-clause-others
returns-in_default-clause-others g c =
    let e = c.in_ok-acted.ensures in
    still_keeps None (g.H.Hold.rooms c.args.hold.now) (g.H.Hold.rooms c.end.new.hold) (g.met.H.Hold.still c.args.hold.now _ _ c.end.new.hold e.moves (still_none _ e.acts.still))
