-- A distributed client in memory: its lines, the jobs that it did, and how often it failed.
use Rattle.std.specs.Prelude.{ℕ, List, [], ◌∷◌, ◌++◌}
use Rattle.sc_entry.specs.Failing.{faults_after}
use Rattle.sc_model.specs.declared.event.DistAnswer.{DistAnswer}
use Rattle.sc_compile_dist.specs.Jobs.{Jobs, is_lost}
use Rattle.sc_compile_dist.specs.declared.dist_line.DistLine.{DistLine}

pub record Doing : Type 0 where
  pub lines : List DistLine
  pub jobs : Jobs
  pub faults : ℕ

-- nothing was done yet
abbrev pub new_doing : List DistLine → Doing
new_doing lines = record { lines = lines; jobs = []; faults = 0 }

-- one job more; the count rises where it was lost
abbrev pub after_job : Doing → List ℕ → DistAnswer → Doing
after_job d key a = record d { jobs = d.jobs ++ (key, a) ∷ []; faults = faults_after (is_lost a) d.faults }
