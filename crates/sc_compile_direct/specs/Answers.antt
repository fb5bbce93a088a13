-- What a compile answers, by its events, the newest first.
use Rattle.std.specs.Prelude.{ℕ, List, [], ◌∷◌, Option, Some, None, codes}
use Rattle.sc_entry.specs.Entries.{objects}
use Rattle.sc_model.specs.Finishing.{stored_bytes}
use Rattle.sc_model.specs.Job.{At, Own, hit_of}
use Rattle.sc_model.specs.declared.event.DistAnswer.{DistAnswer}
use Rattle.sc_model.specs.declared.event.DistAnswer.TheVariants.{Done as DistDone, Http as DistHttp, TooLarge as DistTooLarge}
use Rattle.sc_model.specs.declared.event.KeyStep.{KeyStep}
use Rattle.sc_model.specs.declared.event.KeyStep.TheVariants.{Fault as KeyFault, ProcessError as KeyError}
use Rattle.sc_model.specs.declared.event.Objects.{Objects}
use Rattle.sc_model.specs.declared.event.Objects.TheVariants.{Broken, Collected}
use Rattle.sc_model.specs.declared.event.Output.{Output}
use Rattle.sc_model.specs.declared.event.Placing.{Placing}
use Rattle.sc_model.specs.declared.event.Placing.TheVariants.{Fault as PlaceFault}
use Rattle.sc_model.specs.declared.event.RunAnswer.{RunAnswer}
use Rattle.sc_model.specs.declared.event.RunAnswer.TheVariants.{Fault as RanFault, Output as RanOutput, ProcessError as RanError}
use Rattle.sc_model.specs.declared.event.Status.TheVariants.{Code}
use Rattle.sc_model.specs.declared.event.Verdict.{Verdict}
use Rattle.sc_model.specs.declared.event.Verdict.TheVariants as verdicts
use Rattle.sc_model.specs.declared.event.What.{What}
use Rattle.sc_model.specs.declared.event.What.TheVariants.{Dist, Keyed, Outcome, Placed, Ran}
use Rattle.sc_compile_direct.specs.declared.answer.CompileAnswer.{CompileAnswer}
use Rattle.sc_compile_direct.specs.declared.answer.CompileAnswer.TheVariants.{Done, Fault, HttpClientError, ProcessError}
use Rattle.sc_compile_direct.specs.declared.answer.CompileResult.TheVariants.{CacheHit, CacheMiss, CompileFailed, Error, NotCacheable, NotCached}

abbrev pub newest : List Own → Option What
newest [] = None
newest (At m x ∷ own) = Some x

abbrev pub no_output : Output
no_output = record { status = Code 0; stdout = []; stderr = [] }

-- ---- how a process ended, and what it printed

abbrev pub output_of_run : RunAnswer → Output
output_of_run (RanOutput out) = out.output
output_of_run (RanError out) = out
output_of_run (RanFault chain) = no_output

abbrev pub output_of_dist : DistAnswer → Output
output_of_dist (DistDone server out) = out.output
output_of_dist _ = no_output

abbrev pub output_of_key : KeyStep → Output
output_of_key (KeyError out) = out
output_of_key _ = no_output

abbrev pub output_in : Option What → Output
output_in (Some (Ran a)) = output_of_run a
output_in (Some (Dist d)) = output_of_dist d
output_in (Some (Keyed first client step)) = output_of_key step
output_in _ = no_output

-- ---- what a server said that refused a job

abbrev pub text_of_dist : DistAnswer → List ℕ
text_of_dist (DistHttp text) = text
text_of_dist _ = []

abbrev pub text_in : Option What → List ℕ
text_in (Some (Dist d)) = text_of_dist d
text_in _ = []

-- ---- a fault's chain

abbrev pub broken_of : Objects → List (List ℕ)
broken_of (Broken chain) = chain
broken_of (Collected os) = []

abbrev pub chain_of_run : RunAnswer → List (List ℕ)
chain_of_run (RanOutput out) = broken_of out.objects
chain_of_run (RanFault chain) = chain
chain_of_run (RanError out) = []

abbrev pub chain_of_dist : DistAnswer → List (List ℕ)
chain_of_dist (DistDone server out) = broken_of out.objects
chain_of_dist (DistTooLarge text) = text ∷ []
chain_of_dist _ = []

abbrev pub chain_of_key : KeyStep → List (List ℕ)
chain_of_key (KeyFault chain) = chain
chain_of_key _ = []

abbrev pub chain_of_place : Placing → List (List ℕ)
chain_of_place (PlaceFault chain) = chain
chain_of_place _ = []

abbrev pub chain_in : Option What → List (List ℕ)
chain_in (Some (Ran a)) = chain_of_run a
chain_in (Some (Dist d)) = chain_of_dist d
chain_in (Some (Keyed first client step)) = chain_of_key step
chain_in (Some (Placed p)) = chain_of_place p
chain_in _ = []

-- ---- the answer

-- what a hit's entry holds
abbrev pub hit_output : List ℕ → Output
hit_output b = record { status = Code 0; stdout = stored_bytes (objects b) (codes "stdout"); stderr = stored_bytes (objects b) (codes "stderr") }

-- by how the job ended, and the events before
abbrev pub answer_by : Verdict → List Own → CompileAnswer
answer_by verdicts.Error own = Done Error (output_in (newest own))
answer_by (verdicts.CacheHit d) own = Done (CacheHit d) (hit_output (hit_of own))
answer_by (verdicts.CacheMiss miss dist d) own = Done (CacheMiss miss dist d) (output_in (newest own))
answer_by (verdicts.NotCached dist d) own = Done (NotCached dist d) (output_in (newest own))
answer_by (verdicts.NotCacheable dist d) own = Done (NotCacheable dist d) (output_in (newest own))
answer_by (verdicts.CompileFailed dist d) own = Done (CompileFailed dist d) (output_in (newest own))
answer_by verdicts.ProcessError own = ProcessError (output_in (newest own))
answer_by verdicts.Http own = HttpClientError (text_in (newest own))
answer_by verdicts.Fault own = Fault (chain_in (newest own))

abbrev pub answer_in : List Own → CompileAnswer
answer_in [] = Fault []
answer_in (At m (Outcome v task) ∷ own) = answer_by v own
answer_in (_ ∷ own) = answer_in own
