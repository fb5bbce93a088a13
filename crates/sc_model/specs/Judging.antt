-- What becomes of a run's output.
use Rattle.std.specs.Prelude.{ℕ, zero, suc, Bool, true, false, List}
use Rattle.sc_model.specs.declared.event.DistType.{DistType}
use Rattle.sc_model.specs.declared.event.MissType.{MissType}
use Rattle.sc_model.specs.declared.event.MissType.TheVariants.{ForcedNoCache}
use Rattle.sc_entry.specs.declared.object.Object.{Object}
use Rattle.sc_model.specs.declared.event.Objects.{Objects}
use Rattle.sc_model.specs.declared.event.Objects.TheVariants.{Broken, Collected}
use Rattle.sc_model.specs.declared.event.RunAnswer.{RunAnswer}
use Rattle.sc_model.specs.declared.event.RunAnswer.TheVariants.{Fault as RanFault, Output as RanOutput, ProcessError as RanError}
use Rattle.sc_model.specs.declared.event.RunOutput.{RunOutput}
use Rattle.sc_model.specs.declared.event.Status.{Status}
use Rattle.sc_model.specs.declared.event.Status.TheVariants.{Code, Neither, Signal}
use Rattle.sc_model.specs.declared.event.Verdict.{Verdict}
use Rattle.sc_model.specs.declared.event.Verdict.TheVariants.{CacheMiss, CompileFailed, Fault as FatalFault, NotCacheable, NotCached, ProcessError as RunError}
use Rattle.sc_model.specs.declared.phase.Job.{Job}

-- what an output is, under this miss: the first that holds
pub data Judged : Type 0 where
  IsFailed : Judged
  IsNotCached : Judged
  IsNotCacheable : Judged
  IsBroken : (chain : List (List ℕ)) → Judged
  IsStored : (objects : List Object) → Judged

abbrev pub judge_objects : Objects → Judged
judge_objects (Collected os) = IsStored os
judge_objects (Broken chain) = IsBroken chain

abbrev pub judge_cacheable : Bool → Objects → Judged
judge_cacheable true os = judge_objects os
judge_cacheable false os = IsNotCacheable

abbrev pub judge_miss : MissType → Bool → Objects → Judged
judge_miss ForcedNoCache cacheable os = IsNotCached
judge_miss _ cacheable os = judge_cacheable cacheable os

abbrev pub judge_status : Status → MissType → Bool → Objects → Judged
judge_status (Code zero) miss cacheable os = judge_miss miss cacheable os
judge_status (Code (suc n)) miss cacheable os = IsFailed
judge_status (Signal n) miss cacheable os = IsFailed
judge_status Neither miss cacheable os = IsFailed

abbrev pub judge : Job → MissType → RunOutput → Judged
judge job miss out = judge_status out.output.status miss job.found.cacheable out.objects

abbrev pub judged_verdict : Judged → MissType → DistType → ℕ → Verdict
judged_verdict IsFailed miss dist d = CompileFailed dist d
judged_verdict IsNotCached miss dist d = NotCached dist d
judged_verdict IsNotCacheable miss dist d = NotCacheable dist d
judged_verdict (IsBroken chain) miss dist d = FatalFault
judged_verdict (IsStored os) miss dist d = CacheMiss miss dist d

-- how a run ended
abbrev pub run_verdict : Job → MissType → DistType → ℕ → RunAnswer → Verdict
run_verdict job miss dist d (RanOutput out) = judged_verdict (judge job miss out) miss dist d
run_verdict job miss dist d (RanError out) = RunError
run_verdict job miss dist d (RanFault chain) = FatalFault
