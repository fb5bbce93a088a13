use Rattle.std.proofs.Common.{sym, subst}
use Rattle.std.specs.Prelude.{IfOk}
use Rattle.sc_daemon_action.specs.declared.acted.Acted.{Acted}
use Rattle.sc_daemon_job.specs.Askers.{asker}
use Rattle.sc_daemon_job.specs.Setups.{setup}
use Rattle.sc_daemon_job.specs.declared.since.Since.{Since}
use Rattle.sc_model.specs.Conns.{need_at}
use Rattle.sc_model.specs.declared.message.Request.TheVariants.{StorageGetPath}
use Rattle.sc_model.specs.declared.message.Request.{Request}
use Rattle.sc_model.specs.declared.phase.Phase.{Phase}
use Rattle.sc_model.specs.declared.phase.Phase.TheVariants.{AtSend}
use Rattle.sc_daemon_action.proofs.Requests.{if_all}
use Rattle.sc_daemon_action.proofs.dispatch.act_get_path.Goals as goal

pub returns-in-AtBegin-clause-moves : goal.returns-in-AtBegin-clause-moves
returns-in-AtBegin-clause-moves g c = if_all (λ (a : Acted) (since : Since). g.H.Hold.moves c.args.hold.now (asker since (need_at (setup (g.H.Hold.config c.args.hold.now)) (StorageGetPath c.args.key.now) c.args.phase) (StorageGetPath c.args.key.now)) a.what c.act_begin_path.new.hold) c.act_begin_path.result c.args.since
    (subst (λ (p : Phase). IfOk c.act_begin_path.result (λ (a : Acted). (since : Since) → g.H.Hold.moves c.args.hold.now (asker since (need_at (setup (g.H.Hold.config c.args.hold.now)) (StorageGetPath c.args.key.now) p) (StorageGetPath c.args.key.now)) a.what c.act_begin_path.new.hold)) (sym c.in-AtBegin.is) c.act_begin_path.ensures.moves)

pub returns-in-PathAsk-clause-moves : goal.returns-in-PathAsk-clause-moves
returns-in-PathAsk-clause-moves g c = subst (λ (p : Phase). IfOk c.act_path_ask.result (λ (a : Acted). g.H.Hold.moves c.args.hold.now (asker c.args.since (need_at (setup (g.H.Hold.config c.args.hold.now)) (StorageGetPath c.args.key.now) p) (StorageGetPath c.args.key.now)) a.what c.act_path_ask.new.hold)) (sym c.in-PathAsk.is) c.act_path_ask.ensures.moves

pub returns-in-AtSend-clause-moves : goal.returns-in-AtSend-clause-moves
returns-in-AtSend-clause-moves g c = if_all (λ (a : Acted) (since : Since). g.H.Hold.moves c.args.hold.now (asker since (need_at (setup (g.H.Hold.config c.args.hold.now)) (StorageGetPath c.args.key.now) c.args.phase) (StorageGetPath c.args.key.now)) a.what c.act_send.new.hold) c.act_send.result c.args.since
    (subst (λ (p : Phase). IfOk c.act_send.result (λ (a : Acted). (since : Since) → g.H.Hold.moves c.args.hold.now (asker since (need_at (setup (g.H.Hold.config c.args.hold.now)) (StorageGetPath c.args.key.now) p) (StorageGetPath c.args.key.now)) a.what c.act_send.new.hold)) (sym c.in-AtSend.is) (if_all (λ (a : Acted) (q : Request). (since : Since) → g.H.Hold.moves c.args.hold.now (asker since (need_at (setup (g.H.Hold.config c.args.hold.now)) q (AtSend c.in-AtSend.reply)) q) a.what c.act_send.new.hold) c.act_send.result (StorageGetPath c.args.key.now) c.act_send.ensures.moves))
