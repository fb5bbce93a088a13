-- Where a job stands after a run that gave an output, by its judgement.
use Rattle.std.specs.Prelude.{ℕ, Bool, List}
use Rattle.sc_daemon_job.specs.Setups.{Config, setup}
use Rattle.sc_model.specs.Finishing.{finish_judged}
use Rattle.sc_model.specs.Job.{run_bytes}
use Rattle.sc_model.specs.Judging.{Judged, judged_verdict}
use Rattle.sc_model.specs.Phases.{ending_of, judged_phase}
use Rattle.sc_model.specs.declared.event.RunOutput.{RunOutput}
use Rattle.sc_model.specs.declared.message.Compile.{Compile as CompileRequest}
use Rattle.sc_model.specs.declared.message.Request.TheVariants.{Compile}
use Rattle.sc_model.specs.declared.phase.Phase.{Phase}
use Rattle.sc_model.specs.declared.phase.Work.{Work}

-- mark: whether it ran here; notes: what its compiler told
abbrev pub ran_by : Config → CompileRequest → Work → (mark : Bool) (notes : List (List ℕ)) → ℕ → RunOutput → Judged → Phase
ran_by k c work mark notes d out j =
    judged_phase j (judged_verdict j work.miss work.dist d) work.job.task (run_bytes (setup k) work.job mark out)
    (ending_of notes (finish_judged (setup k) (Compile c) j out.output))
