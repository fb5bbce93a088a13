-- What a daemon over memory is made of, and what it holds at first.
use Rattle.std.specs.Prelude.{◌≡◌, ℕ, zero, suc, true, false, List, [], ◌∷◌, ◌++◌, codes, decimal, map, Option, Some, None}
use Rattle.sc_compile.specs.declared.place_line.PlaceLine.{PlaceLine}
use Rattle.sc_compile.specs.declared.run_line.RunLine.{RunLine}
use Rattle.sc_disk.specs.Disks.{DiskState, no_disk_files}
use Rattle.sc_disk.specs.Memory.{outside_of}
use Rattle.sc_disk.specs.declared.change.Change.{Change}
use Rattle.sc_disk.specs.declared.change.Change.TheVariants.{Added, Made}
use Rattle.sc_store_disk.specs.DiskStores.{unopened_store}
use Rattle.sc_store_disk.specs.Marks.{no_marks}
use Rattle.sc_compile_dist.specs.declared.dist_line.DistLine.{DistLine}
use Rattle.sc_entry.specs.declared.calls.Calls.{Calls as Counted}
use Rattle.sc_entry.specs.Keys.{make_key_path, normalize_key}
use Rattle.sc_daemon_owned.specs.Facts.{DistTold}
use Rattle.sc_model.specs.Devices.{calls_failing}
use Rattle.sc_model.specs.Containers.{Container}
use Rattle.sc_model.specs.Levels.{Files, no_files}
use Rattle.sc_model.specs.World.{World}
use Rattle.sc_model.specs.declared.event.DistAnswer.{DistAnswer}
use Rattle.sc_model.specs.declared.event.RunAnswer.{RunAnswer}
use Rattle.sc_model.specs.declared.level.DistClientState.{DistClientState}
use Rattle.sc_model.specs.declared.level.DistClientState.TheVariants.{Disabled, RetryCreateAt}
use Rattle.sc_model.specs.declared.level.LevelKind.{LevelKind}
use Rattle.sc_model.specs.declared.level.LevelKind.TheVariants.{Disk, Remote}
use Rattle.sc_disk_pair.specs.Twos.{joined_state, joins}
use Rattle.sc_main_script.specs.declared.job_rule.JobRule.{JobRule}
use Rattle.sc_main_script.specs.declared.level_rule.LevelRule.{LevelRule}
use Rattle.sc_main_script.specs.declared.place_rule.PlaceRule.{PlaceRule}
use Rattle.sc_main_script.specs.declared.run_rule.RunRule.{RunRule}
use Rattle.sc_main_script.specs.declared.script.Script.{Script}
use Rattle.sc_stats.specs.declared.counters.DistInfo.TheVariants.{SchedulerStatus}
use Rattle.sc_store.specs.Held.{Held, HeldLevel, as_configured, held_of, held_remote, memory_names, nothing_given, of_disk}
use Rattle.sc_store.specs.Paths.{put_all}

-- what is held under keys, at the paths of the keys
abbrev pub placed : List (List ℕ × List ℕ) → List (List ℕ × List ℕ)
placed [] = []
placed (h ∷ holds) = (normalize_key h.0, h.1) ∷ placed holds

-- what a remote level holds at first, by path
abbrev pub first_files : List (List ℕ × List ℕ) → Files
first_files holds = put_all no_files (placed holds)

-- where the files of the level of this number stand: those of entries, and those of preprocessor entries
unfoldable pub main_root : ℕ → List ℕ
main_root level = codes "/" ++ decimal level

unfoldable pub pre_root : ℕ → List ℕ
pre_root level = codes "/" ++ decimal level ++ codes "/preprocessor"

-- Each key's file is made at its path and filled, one after another, the first at this moment, each later one a moment later;
-- the newest change stands first.
abbrev pub filled_from : ℕ → List (List ℕ × List ℕ) → List Change → List Change
filled_from moment [] done = done
filled_from moment (h ∷ holds) done = filled_from (suc moment) holds (Added (make_key_path h.0) h.1 ∷ Made (make_key_path h.0) moment ∷ done)

-- a disk under this root that holds the files of these keys, with the moments 0, 1, .. in their order, and its device's calls
abbrev pub first_disk : List ℕ → List (List ℕ × List ℕ) → Option Counted → DiskState
first_disk root holds calls = record { told = Some (record { outside = outside_of []; first = no_disk_files; done = filled_from zero holds [] }); faults = 0; calls = calls; root = root; divided = false; letters = [] }

-- a level whose device was not called yet, and is to fail at the calls of these numbers
abbrev pub failing_at : List ℕ → HeldLevel → HeldLevel
failing_at numbers h = record h { level = record h.level { calls = Some (calls_failing numbers) } }

-- The level of this number, as a script says it. A disk level isn't opened, and holds no preprocessor entry; its calls are those
-- of the disk of its other entries.
abbrev pub held_as : LevelKind → ℕ → LevelRule → HeldLevel
held_as Disk level rule = failing_at rule.fails (of_disk nothing_given (unopened_store rule.mode rule.capacity (joined_state (joins (first_disk (main_root level) rule.holds None) (first_disk (pre_root level) [] None)))))
held_as Remote level rule = held_remote memory_names nothing_given (as_configured rule.mode) (Some (first_files rule.holds)) 0 0 (Some (calls_failing rule.fails)) None no_marks

abbrev pub first_held : ℕ → LevelRule → HeldLevel
first_held level rule = held_as rule.kind level rule

-- levels, of which the first has this number
abbrev pub held_from : ℕ → List LevelRule → List HeldLevel
held_from level [] = []
held_from level (r ∷ rules) = first_held level r ∷ held_from (suc level) rules

abbrev pub held_first : List LevelRule → List HeldLevel
held_first rules = held_from zero rules

-- all levels of a script
abbrev pub first_levels : Script → Held
first_levels script = held_of (held_first script.levels) script.policy

-- keys and answers, in order
abbrev pub told_lines : List RunLine → List (List ℕ × RunAnswer)
told_lines lines = map (λ l. (l.key, l.answer)) lines

abbrev pub told_runs : List RunRule → List (List ℕ × RunAnswer)
told_runs runs = map (λ r. (r.key, r.answer)) runs

-- the lines are told, and say what the rules say
abbrev pub AreLines : Option (List RunLine) → List RunRule → Type 0
AreLines None runs = ⊥
AreLines (Some lines) runs = told_lines lines ≡ told_runs runs

-- keys and chains, in order
abbrev pub told_refusals : List PlaceLine → List (List ℕ × List (List ℕ))
told_refusals lines = map (λ l. (l.key, l.chain)) lines

abbrev pub told_places : List PlaceRule → List (List ℕ × List (List ℕ))
told_places places = map (λ r. (r.key, r.chain)) places

-- the lines by which placings are refused are told, and say what the rules say
abbrev pub AreRefusals : Option (List PlaceLine) → List PlaceRule → Type 0
AreRefusals None places = ⊥
AreRefusals (Some lines) places = told_refusals lines ≡ told_places places

-- keys and answers of jobs, in order
abbrev pub told_jobs : List DistLine → List (List ℕ × DistAnswer)
told_jobs lines = map (λ l. (l.key, l.answer)) lines

abbrev pub told_answers : List JobRule → List (List ℕ × DistAnswer)
told_answers jobs = map (λ r. (r.key, r.answer)) jobs

-- the lines by which jobs are answered are told, and say what the rules say
abbrev pub AreJobs : Option (List DistLine) → List JobRule → Type 0
AreJobs None jobs = ⊥
AreJobs (Some lines) jobs = told_jobs lines ≡ told_answers jobs

-- A distributed client that answers by the rules: its scheduler has no address and no servers.
abbrev pub IsDist : DistTold → List JobRule → Type 0
IsDist d jobs = (d.url ≡ None) × (d.status ≡ Some (Some (SchedulerStatus None 0 0 0))) × AreJobs d.lines jobs

-- there is one where a rule is on its jobs
abbrev pub first_container : List JobRule → DistClientState
first_container [] = Disabled
first_container (r ∷ jobs) = RetryCreateAt 0

-- where it stands, and that it is made whenever that is due
abbrev pub container_first : List JobRule → Container
container_first jobs = record { state = first_container jobs; faults = 0; makings = Some [] }

-- nothing was run, placed or refused
abbrev pub first_world : Script → World
first_world script = record {
  moment = 0;
  levels = (first_levels script).levels;
  runs = Some [];
  placings = Some [];
  dists = Some [];
  shop_faults = 0;
  dist_faults = 0;
  container = container_first script.jobs;
}
