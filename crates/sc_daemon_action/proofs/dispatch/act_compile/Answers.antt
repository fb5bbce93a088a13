use Rattle.std.proofs.Common.{sym, subst}
use Rattle.std.specs.Prelude.{IfOk}
use Rattle.sc_daemon_action.specs.declared.acted.Acted.{Acted}
use Rattle.sc_daemon_job.specs.Askers.{asker}
use Rattle.sc_daemon_job.specs.Setups.{setup}
use Rattle.sc_daemon_job.specs.declared.since.Since.{Since}
use Rattle.sc_model.specs.Conns.{need_at}
use Rattle.sc_model.specs.declared.message.Request.TheVariants.{Compile as CompileOf}
use Rattle.sc_model.specs.declared.message.Request.{Request}
use Rattle.sc_model.specs.declared.phase.Phase.{Phase}
use Rattle.sc_model.specs.declared.phase.Phase.TheVariants.{AtSend}
use Rattle.sc_daemon_action.proofs.Requests.{if_all}
use Rattle.sc_daemon_action.proofs.dispatch.act_compile.Goals as goal

pub returns-in-AtBegin-clause-moves : goal.returns-in-AtBegin-clause-moves
returns-in-AtBegin-clause-moves g c = if_all (λ (a : Acted) (since : Since). g.H.Hold.moves c.args.hold.now (asker since (need_at (setup (g.H.Hold.config c.args.hold.now)) (CompileOf c.args.request.now) c.args.phase) (CompileOf c.args.request.now)) a.what c.act_begin.new.hold) c.act_begin.result c.args.since
    (subst (λ (p : Phase). IfOk c.act_begin.result (λ (a : Acted). (since : Since) → g.H.Hold.moves c.args.hold.now (asker since (need_at (setup (g.H.Hold.config c.args.hold.now)) (CompileOf c.args.request.now) p) (CompileOf c.args.request.now)) a.what c.act_begin.new.hold)) (sym c.in-AtBegin.is) c.act_begin.ensures.moves)

pub returns-in-AtSend-clause-moves : goal.returns-in-AtSend-clause-moves
returns-in-AtSend-clause-moves g c = if_all (λ (a : Acted) (since : Since). g.H.Hold.moves c.args.hold.now (asker since (need_at (setup (g.H.Hold.config c.args.hold.now)) (CompileOf c.args.request.now) c.args.phase) (CompileOf c.args.request.now)) a.what c.act_send.new.hold) c.act_send.result c.args.since
    (subst (λ (p : Phase). IfOk c.act_send.result (λ (a : Acted). (since : Since) → g.H.Hold.moves c.args.hold.now (asker since (need_at (setup (g.H.Hold.config c.args.hold.now)) (CompileOf c.args.request.now) p) (CompileOf c.args.request.now)) a.what c.act_send.new.hold)) (sym c.in-AtSend.is) (if_all (λ (a : Acted) (q : Request). (since : Since) → g.H.Hold.moves c.args.hold.now (asker since (need_at (setup (g.H.Hold.config c.args.hold.now)) q (AtSend c.in-AtSend.reply)) q) a.what c.act_send.new.hold) c.act_send.result (CompileOf c.args.request.now) c.act_send.ensures.moves))

pub returns-in-AtStarted-clause-moves : goal.returns-in-AtStarted-clause-moves
returns-in-AtStarted-clause-moves g c = if_all (λ (a : Acted) (since : Since). g.H.Hold.moves c.args.hold.now (asker since (need_at (setup (g.H.Hold.config c.args.hold.now)) (CompileOf c.args.request.now) c.args.phase) (CompileOf c.args.request.now)) a.what c.act_started.new.hold) c.act_started.result c.args.since
    (subst (λ (p : Phase). IfOk c.act_started.result (λ (a : Acted). (since : Since) → g.H.Hold.moves c.args.hold.now (asker since (need_at (setup (g.H.Hold.config c.args.hold.now)) (CompileOf c.args.request.now) p) (CompileOf c.args.request.now)) a.what c.act_started.new.hold)) (sym c.in-AtStarted.is) c.act_started.ensures.moves)

pub returns-in-AtKey-clause-moves : goal.returns-in-AtKey-clause-moves
returns-in-AtKey-clause-moves g c = if_all (λ (a : Acted) (since : Since). g.H.Hold.moves c.args.hold.now (asker since (need_at (setup (g.H.Hold.config c.args.hold.now)) (CompileOf c.args.request.now) c.args.phase) (CompileOf c.args.request.now)) a.what c.act_key.new.hold) c.act_key.result c.args.since
    (subst (λ (p : Phase). IfOk c.act_key.result (λ (a : Acted). (since : Since) → g.H.Hold.moves c.args.hold.now (asker since (need_at (setup (g.H.Hold.config c.args.hold.now)) (CompileOf c.args.request.now) p) (CompileOf c.args.request.now)) a.what c.act_key.new.hold)) (sym c.in-AtKey.is) c.act_key.ensures.moves)

pub returns-in-AtAsk-clause-moves : goal.returns-in-AtAsk-clause-moves
returns-in-AtAsk-clause-moves g c = subst (λ (p : Phase). IfOk c.act_ask.result (λ (a : Acted). g.H.Hold.moves c.args.hold.now (asker c.args.since (need_at (setup (g.H.Hold.config c.args.hold.now)) (CompileOf c.args.request.now) p) (CompileOf c.args.request.now)) a.what c.act_ask.new.hold)) (sym c.in-AtAsk.is) c.act_ask.ensures.moves

pub returns-in-AtPlace-clause-moves : goal.returns-in-AtPlace-clause-moves
returns-in-AtPlace-clause-moves g c = if_all (λ (a : Acted) (since : Since). g.H.Hold.moves c.args.hold.now (asker since (need_at (setup (g.H.Hold.config c.args.hold.now)) (CompileOf c.args.request.now) c.args.phase) (CompileOf c.args.request.now)) a.what c.act_place.new.hold) c.act_place.result c.args.since
    (subst (λ (p : Phase). IfOk c.act_place.result (λ (a : Acted). (since : Since) → g.H.Hold.moves c.args.hold.now (asker since (need_at (setup (g.H.Hold.config c.args.hold.now)) (CompileOf c.args.request.now) p) (CompileOf c.args.request.now)) a.what c.act_place.new.hold)) (sym c.in-AtPlace.is) c.act_place.ensures.moves)

pub returns-in-AtDist-clause-moves : goal.returns-in-AtDist-clause-moves
returns-in-AtDist-clause-moves g c = if_all (λ (a : Acted) (since : Since). g.H.Hold.moves c.args.hold.now (asker since (need_at (setup (g.H.Hold.config c.args.hold.now)) (CompileOf c.args.request.now) c.args.phase) (CompileOf c.args.request.now)) a.what c.act_dist.new.hold) c.act_dist.result c.args.since
    (subst (λ (p : Phase). IfOk c.act_dist.result (λ (a : Acted). (since : Since) → g.H.Hold.moves c.args.hold.now (asker since (need_at (setup (g.H.Hold.config c.args.hold.now)) (CompileOf c.args.request.now) p) (CompileOf c.args.request.now)) a.what c.act_dist.new.hold)) (sym c.in-AtDist.is) c.act_dist.ensures.moves)

pub returns-in-AtTake-clause-moves : goal.returns-in-AtTake-clause-moves
returns-in-AtTake-clause-moves g c = if_all (λ (a : Acted) (since : Since). g.H.Hold.moves c.args.hold.now (asker since (need_at (setup (g.H.Hold.config c.args.hold.now)) (CompileOf c.args.request.now) c.args.phase) (CompileOf c.args.request.now)) a.what c.act_take.new.hold) c.act_take.result c.args.since
    (subst (λ (p : Phase). IfOk c.act_take.result (λ (a : Acted). (since : Since) → g.H.Hold.moves c.args.hold.now (asker since (need_at (setup (g.H.Hold.config c.args.hold.now)) (CompileOf c.args.request.now) p) (CompileOf c.args.request.now)) a.what c.act_take.new.hold)) (sym c.in-AtTake.is) c.act_take.ensures.moves)

pub returns-in-AtRun-clause-moves : goal.returns-in-AtRun-clause-moves
returns-in-AtRun-clause-moves g c = if_all (λ (a : Acted) (since : Since). g.H.Hold.moves c.args.hold.now (asker since (need_at (setup (g.H.Hold.config c.args.hold.now)) (CompileOf c.args.request.now) c.args.phase) (CompileOf c.args.request.now)) a.what c.act_run.new.hold) c.act_run.result c.args.since
    (subst (λ (p : Phase). IfOk c.act_run.result (λ (a : Acted). (since : Since) → g.H.Hold.moves c.args.hold.now (asker since (need_at (setup (g.H.Hold.config c.args.hold.now)) (CompileOf c.args.request.now) p) (CompileOf c.args.request.now)) a.what c.act_run.new.hold)) (sym c.in-AtRun.is) c.act_run.ensures.moves)

pub returns-in-AtEnd-clause-moves : goal.returns-in-AtEnd-clause-moves
returns-in-AtEnd-clause-moves g c = if_all (λ (a : Acted) (since : Since). g.H.Hold.moves c.args.hold.now (asker since (need_at (setup (g.H.Hold.config c.args.hold.now)) (CompileOf c.args.request.now) c.args.phase) (CompileOf c.args.request.now)) a.what c.act_end.new.hold) c.act_end.result c.args.since
    (subst (λ (p : Phase). IfOk c.act_end.result (λ (a : Acted). (since : Since) → g.H.Hold.moves c.args.hold.now (asker since (need_at (setup (g.H.Hold.config c.args.hold.now)) (CompileOf c.args.request.now) p) (CompileOf c.args.request.now)) a.what c.act_end.new.hold)) (sym c.in-AtEnd.is) c.act_end.ensures.moves)

pub returns-in-AtStore-clause-moves : goal.returns-in-AtStore-clause-moves
returns-in-AtStore-clause-moves g c = if_all (λ (a : Acted) (since : Since). g.H.Hold.moves c.args.hold.now (asker since (need_at (setup (g.H.Hold.config c.args.hold.now)) (CompileOf c.args.request.now) c.args.phase) (CompileOf c.args.request.now)) a.what c.act_store.new.hold) c.act_store.result c.args.since
    (subst (λ (p : Phase). IfOk c.act_store.result (λ (a : Acted). (since : Since) → g.H.Hold.moves c.args.hold.now (asker since (need_at (setup (g.H.Hold.config c.args.hold.now)) (CompileOf c.args.request.now) p) (CompileOf c.args.request.now)) a.what c.act_store.new.hold)) (sym c.in-AtStore.is) c.act_store.ensures.moves)

pub returns-in-AtFinish-clause-moves : goal.returns-in-AtFinish-clause-moves
returns-in-AtFinish-clause-moves g c = if_all (λ (a : Acted) (since : Since). g.H.Hold.moves c.args.hold.now (asker since (need_at (setup (g.H.Hold.config c.args.hold.now)) (CompileOf c.args.request.now) c.args.phase) (CompileOf c.args.request.now)) a.what c.act_finish.new.hold) c.act_finish.result c.args.since
    (subst (λ (p : Phase). IfOk c.act_finish.result (λ (a : Acted). (since : Since) → g.H.Hold.moves c.args.hold.now (asker since (need_at (setup (g.H.Hold.config c.args.hold.now)) (CompileOf c.args.request.now) p) (CompileOf c.args.request.now)) a.what c.act_finish.new.hold)) (sym c.in-AtFinish.is) c.act_finish.ensures.moves)
