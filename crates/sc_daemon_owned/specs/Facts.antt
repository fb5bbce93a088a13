-- What a daemon that one owner holds is made of, as plain data, and the daemon that this is.
use Rattle.std.specs.Prelude.{ℕ, List, Option}
use Rattle.sc_compile.specs.Answers.{told_answer}
use Rattle.sc_compile.specs.Placings.{told_refusal}
use Rattle.sc_compile.specs.Plain.{plain_pretty}
use Rattle.sc_compile.specs.Tools.{reading, told_key}
use Rattle.sc_compile.specs.declared.key_line.KeyLine.{KeyLine}
use Rattle.sc_compile.specs.declared.place_line.PlaceLine.{PlaceLine}
use Rattle.sc_compile.specs.declared.run_line.RunLine.{RunLine}
use Rattle.sc_compile.specs.declared.tool.Tool.{Tool}
use Rattle.sc_compile_dist.specs.Containers.{scheduler_of}
use Rattle.sc_compile_dist.specs.Jobs.{told_dist}
use Rattle.sc_compile_dist.specs.declared.dist_line.DistLine.{DistLine}
use Rattle.sc_daemon_job.specs.Setups.{Config, StoreTold}
use Rattle.sc_model.specs.declared.level.LevelFacts.{LevelFacts}
use Rattle.sc_model.specs.declared.level.Policy.{Policy}
use Rattle.sc_stats.specs.declared.counters.DistInfo.{DistInfo}
use Rattle.sc_stats.specs.declared.counters.LevelStats.{LevelStats}
use Rattle.sc_wire.specs.Responses.{payload}

-- what a distributed client tells: the scheduler's address, and, where these are told, what it says of itself or that it refuses to,
-- and the lines by which jobs are answered
pub record DistTold : Type 0 where
  pub url : Option (List ℕ)
  pub status : Option (Option DistInfo)
  pub lines : Option (List DistLine)

-- what a daemon is made of, as plain data: what its store tells of itself, the counters that its levels begin with, its
-- levels, the tools that its probe finds and the keys that these refuse, the lines by which its workshop answers runs and
-- refuses placings, where these are told, and what its distributed client tells
pub record DaemonFacts : Type 0 where
  pub store : StoreTold
  pub counters : List LevelStats
  pub levels : List LevelFacts
  pub policy : Policy
  pub tokens : ℕ
  pub limit : ℕ
  pub table : Option (List Tool)
  pub keys : Option (List KeyLine)
  pub lines : Option (List RunLine)
  pub refusals : Option (List PlaceLine)
  pub dist : DistTold

-- The daemon over plain compilers that this is, whose replies are spelled as they are on the wire.
abbrev pub config_of : DaemonFacts → Config
config_of f = record {
  store = f.store;
  counters = f.counters;
  levels = f.levels;
  policy = f.policy;
  tokens = f.tokens;
  limit = f.limit;
  payload = payload;
  reads = λ c. reading f.table c;
  keys = λ c control. told_key f.keys c;
  pretty = λ c. plain_pretty c;
  scheduler = scheduler_of f.dist.url f.dist.status;
  workshop = told_answer f.lines;
  placing = told_refusal f.refusals;
  dist = told_dist f.dist.lines;
}
