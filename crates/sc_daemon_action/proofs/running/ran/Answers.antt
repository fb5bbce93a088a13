use Rattle.std.proofs.Common.{ℕ, List, [], ap, sym, ◌∙◌}
use Rattle.sc_daemon_job.specs.Setups.{setup}
use Rattle.sc_model.specs.Finishing.{finish_fatal, finish_output, notes_in}
use Rattle.sc_model.specs.Phases.{ending_of, ran_phase}
use Rattle.sc_model.specs.declared.event.RunAnswer.{RunAnswer}
use Rattle.sc_model.specs.declared.event.Verdict.TheVariants.{Fault, ProcessError}
use Rattle.sc_model.specs.declared.message.Request.TheVariants.{Compile as CompileOf}
use Rattle.sc_model.specs.declared.phase.Phase.TheVariants.{AtEnd}
use Rattle.sc_daemon_action.proofs.running.ran.Goals as goal

pub returns-in_ok-unstored-in-ProcessError-clause-phase : goal.returns-in_ok-unstored-in-ProcessError-clause-phase
returns-in_ok-unstored-in-ProcessError-clause-phase c k r =
    let task = c.args.work.job.task in
    let notes = c.in_ok-notes-in-ProcessError.ensures k r ∙ ap (λ (l : List ℕ). notes_in (setup k) (CompileOf r) task.kind l) c.as_slice-in-ProcessError.ensures in
    c.in_ok-unstored-in-ProcessError.ensures.phase k r ∙ ap (λ (n : List (List ℕ)). AtEnd ProcessError task (ending_of n (finish_output (setup k) (CompileOf r) c.in-ProcessError.out))) notes ∙
    ap (λ (a : RunAnswer). ran_phase (setup k) (CompileOf r) c.args.work c.args.now a) (sym c.in-ProcessError.is)

pub returns-in_ok-faulted-in-Fault-clause-phase : goal.returns-in_ok-faulted-in-Fault-clause-phase
returns-in_ok-faulted-in-Fault-clause-phase c k r =
    let task = c.args.work.job.task in
    c.in_ok-faulted-in-Fault.ensures.phase k r ∙ ap (λ (n : List (List ℕ)). AtEnd Fault task (ending_of n (finish_fatal (setup k) (CompileOf r) c.as_slice-in-Fault.result.now))) c.new-notes.ensures ∙
    ap (λ (l : List (List ℕ)). AtEnd Fault task (ending_of [] (finish_fatal (setup k) (CompileOf r) l))) c.as_slice-in-Fault.ensures ∙ ap (λ (a : RunAnswer). ran_phase (setup k) (CompileOf r) c.args.work c.args.now a) (sym c.in-Fault.is)
