-- How a run's output is judged, without what it carries.
use Rattle.sc_daemon_job.specs.declared.verdict.Judgement.{Judgement}
use Rattle.sc_daemon_job.specs.declared.verdict.Judgement.TheVariants.{Cacheable, Failed, NotCacheable, NotCached}
use Rattle.sc_model.specs.Judging.{IsFailed, IsNotCacheable, IsNotCached, Judged, judge_objects}
use Rattle.sc_model.specs.declared.event.Objects.{Objects}

-- what an output is, by what is said of it and its objects
abbrev pub judged_by : Judgement → Objects → Judged
judged_by Failed objects = IsFailed
judged_by NotCached objects = IsNotCached
judged_by NotCacheable objects = IsNotCacheable
judged_by Cacheable objects = judge_objects objects
