use Rattle.std.proofs.Common.{◌∙◌, Option, None, sym, subst}
use Rattle.sc_daemon_action.proofs.Holding.{plain_serves, still_hands, still_keeps, still_none}
use Rattle.sc_daemon_action.specs.Hands.{hand_of}
use Rattle.sc_daemon_action.specs.declared.acted.Action.{Action}
use Rattle.sc_disk.specs.Store.{AddEntry}
use Rattle.sc_daemon_hold.specs.Holding.{HandsIn}
use Rattle.sc_daemon_action.proofs.dispatch.act.Goals as goal

pub returns-clause-hands : goal.returns-clause-hands
returns-clause-hands g c =
    let d = g.H.Hold.rooms c.args.hold.now in
    let plain = plain_serves (g.H.Hold.config c.args.hold.now) d c.args.phase c.args.entry c.args.request.now (sym c.is_write.ensures ∙ c.if-is_write.false) c.requires in
    let what = c.in_ok-acted.acted.what in
    subst (λ (a : Action). HandsIn d a.what (hand_of c.args.entry c.args.phase) (hand_of a.entry a.phase)) (sym c.holding_none.ensures)
    (subst (λ (e : Option AddEntry). HandsIn d what (hand_of e c.args.phase) None) (sym plain.1) (still_hands d what c.in_ok-acted.ensures.acts.still))

pub returns-clause-others : goal.returns-clause-others
returns-clause-others g c = still_keeps (hand_of c.args.entry c.args.phase) (g.H.Hold.rooms c.args.hold.now) (g.H.Hold.rooms c.act_plain.new.hold)
    (g.met.H.Hold.still c.args.hold.now _ _ c.act_plain.new.hold c.in_ok-acted.ensures.moves (still_none _ c.in_ok-acted.ensures.acts.still))
