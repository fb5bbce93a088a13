use Rattle.std.proofs.Common.{sym, subst}
use Rattle.std.specs.Prelude.{IfOk}
use Rattle.sc_daemon_action.specs.declared.acted.Acted.{Acted}
use Rattle.sc_daemon_job.specs.Askers.{asker}
use Rattle.sc_daemon_job.specs.Setups.{setup}
use Rattle.sc_daemon_job.specs.declared.since.Since.{Since}
use Rattle.sc_model.specs.Conns.{need_at}
use Rattle.sc_model.specs.declared.message.Request.TheVariants.{StoragePutPreprocessorEntry as PutPre}
use Rattle.sc_model.specs.declared.message.Request.{Request}
use Rattle.sc_model.specs.declared.phase.Phase.{Phase}
use Rattle.sc_model.specs.declared.phase.Phase.TheVariants.{AtSend, PrePut}
use Rattle.sc_daemon_action.proofs.Requests.{if_all}
use Rattle.sc_daemon_action.proofs.dispatch.act_put_pre.Goals as goal

pub returns-in-AtBegin-clause-moves : goal.returns-in-AtBegin-clause-moves
returns-in-AtBegin-clause-moves g c = if_all (λ (a : Acted) (since : Since). g.H.Hold.moves c.args.hold.now (asker since (need_at (setup (g.H.Hold.config c.args.hold.now)) (PutPre c.args.key.now c.args.put.now) c.args.phase) (PutPre c.args.key.now c.args.put.now)) a.what c.act_begin_put_pre.new.hold) c.act_begin_put_pre.result c.args.since
    (subst (λ (p : Phase). IfOk c.act_begin_put_pre.result (λ (a : Acted). (since : Since) → g.H.Hold.moves c.args.hold.now (asker since (need_at (setup (g.H.Hold.config c.args.hold.now)) (PutPre c.args.key.now c.args.put.now) p) (PutPre c.args.key.now c.args.put.now)) a.what c.act_begin_put_pre.new.hold)) (sym c.in-AtBegin.is) c.act_begin_put_pre.ensures.moves)

pub returns-in-PrePut-clause-moves : goal.returns-in-PrePut-clause-moves
returns-in-PrePut-clause-moves g c = subst (λ (p : Phase). IfOk c.act_pre_put.result (λ (a : Acted). g.H.Hold.moves c.args.hold.now (asker c.args.since (need_at (setup (g.H.Hold.config c.args.hold.now)) (PutPre c.args.key.now c.args.put.now) p) (PutPre c.args.key.now c.args.put.now)) a.what c.act_pre_put.new.hold)) (sym c.in-PrePut.is)
    (if_all (λ (a : Acted) (q : Request). g.H.Hold.moves c.args.hold.now (asker c.args.since (need_at (setup (g.H.Hold.config c.args.hold.now)) q (PrePut c.in-PrePut.bytes c.in-PrePut.levels c.in-PrePut.refusal)) q) a.what c.act_pre_put.new.hold) c.act_pre_put.result (PutPre c.args.key.now c.args.put.now) c.act_pre_put.ensures.moves)

pub returns-in-AtSend-clause-moves : goal.returns-in-AtSend-clause-moves
returns-in-AtSend-clause-moves g c = if_all (λ (a : Acted) (since : Since). g.H.Hold.moves c.args.hold.now (asker since (need_at (setup (g.H.Hold.config c.args.hold.now)) (PutPre c.args.key.now c.args.put.now) c.args.phase) (PutPre c.args.key.now c.args.put.now)) a.what c.act_send.new.hold) c.act_send.result c.args.since
    (subst (λ (p : Phase). IfOk c.act_send.result (λ (a : Acted). (since : Since) → g.H.Hold.moves c.args.hold.now (asker since (need_at (setup (g.H.Hold.config c.args.hold.now)) (PutPre c.args.key.now c.args.put.now) p) (PutPre c.args.key.now c.args.put.now)) a.what c.act_send.new.hold)) (sym c.in-AtSend.is) (if_all (λ (a : Acted) (q : Request). (since : Since) → g.H.Hold.moves c.args.hold.now (asker since (need_at (setup (g.H.Hold.config c.args.hold.now)) q (AtSend c.in-AtSend.reply)) q) a.what c.act_send.new.hold) c.act_send.result (PutPre c.args.key.now c.args.put.now) c.act_send.ensures.moves))
