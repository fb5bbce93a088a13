-- A workshop in memory: its lines on runs and placings, what it did, and how often it failed.
use Rattle.std.specs.Prelude.{ℕ, true, List, [], ◌∷◌, ◌++◌}
use Rattle.sc_entry.specs.Failing.{faults_after}
use Rattle.sc_model.specs.World.{Place}
use Rattle.sc_model.specs.declared.event.RunAnswer.{RunAnswer}
use Rattle.sc_compile.specs.Answers.{Runs, is_fault}
use Rattle.sc_compile.specs.declared.place_line.PlaceLine.{PlaceLine}
use Rattle.sc_compile.specs.declared.run_line.RunLine.{RunLine}

pub record Shop : Type 0 where
  pub lines : List RunLine
  -- why placings fail
  pub refusals : List PlaceLine
  pub runs : Runs
  pub placings : List Place
  pub faults : ℕ

-- nothing was done yet
abbrev pub new_shop : List RunLine → List PlaceLine → Shop
new_shop lines refusals = record { lines = lines; refusals = refusals; runs = []; placings = []; faults = 0 }

-- one run more; the count rises where it is a fault
abbrev pub after_run : Shop → List ℕ → RunAnswer → Shop
after_run s key a = record s { runs = s.runs ++ (key, a) ∷ []; faults = faults_after (is_fault a) s.faults }

-- one placing more
abbrev pub after_placing : Shop → Place → Shop
after_placing s place = record s { placings = s.placings ++ place ∷ [] }

-- a placing that failed
abbrev pub after_refusal : Shop → Shop
after_refusal s = record s { faults = faults_after true s.faults }
