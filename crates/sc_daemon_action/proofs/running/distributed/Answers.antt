use Rattle.std.proofs.Common.{ℕ, List, [], ap, sym, ◌∙◌}
use Rattle.sc_daemon_job.specs.Setups.{setup}
use Rattle.sc_model.specs.Finishing.{finish_fatal}
use Rattle.sc_model.specs.Phases.{dist_phase, ending_of}
use Rattle.sc_model.specs.declared.event.DistAnswer.{DistAnswer}
use Rattle.sc_model.specs.declared.event.Verdict.TheVariants.{Fault, Http}
use Rattle.sc_model.specs.declared.message.CompileFinished.{CompileFinished}
use Rattle.sc_model.specs.declared.message.Request.TheVariants.{Compile as CompileOf}
use Rattle.sc_model.specs.declared.phase.Phase.TheVariants.{AtEnd}
use Rattle.sc_daemon_action.proofs.running.distributed.Goals as goal

pub returns-in_ok-last-in-Http-clause-phase : goal.returns-in_ok-last-in-Http-clause-phase
returns-in_ok-last-in-Http-clause-phase g c =
    let k = g.H.Hold.config c.args.hold.now in
    let task = c.args.work.job.task in
    ap (λ (n : List (List ℕ)). AtEnd Http task (ending_of n c.in_ok-last-in-Http.last)) c.new-notes.ensures ∙ ap (λ (l : CompileFinished). AtEnd Http task (ending_of [] l)) c.in_ok-last-in-Http.ensures ∙
    ap (λ (a : DistAnswer). dist_phase (setup k) (CompileOf c.args.request.now) c.args.work c.args.now a) (sym c.in-Http.is)

pub returns-in_ok-faulted-in-TooLarge-clause-phase : goal.returns-in_ok-faulted-in-TooLarge-clause-phase
returns-in_ok-faulted-in-TooLarge-clause-phase g c =
    let k = g.H.Hold.config c.args.hold.now in
    let task = c.args.work.job.task in
    let request = CompileOf c.args.request.now in
    c.in_ok-faulted-in-TooLarge.ensures.phase k c.args.request.now ∙ ap (λ (n : List (List ℕ)). AtEnd Fault task (ending_of n (finish_fatal (setup k) request c.as_slice.result.now))) c.new-notes-in-TooLarge.ensures ∙
    ap (λ (l : List (List ℕ)). AtEnd Fault task (ending_of [] (finish_fatal (setup k) request l))) (c.as_slice.ensures ∙ c.in_ok-chain-in-TooLarge.ensures) ∙
    ap (λ (a : DistAnswer). dist_phase (setup k) request c.args.work c.args.now a) (sym c.in-TooLarge.is)
