-- Which levels a write goes to, as code tells it.
use Rattle.std.specs.Prelude.{ℕ, Bool, List, [], ◌∷◌, map}
use Rattle.sc_model.specs.Plan.{is_background, is_required, levels_of, takes_writes}
use Rattle.sc_model.specs.declared.level.LevelFacts.{LevelFacts}
use Rattle.sc_model.specs.declared.level.LevelPolicy.{LevelPolicy}
use Rattle.sc_model.specs.declared.level.Policy.{Policy}
use Rattle.sc_model.specs.declared.level.Policy.TheVariants.{Levels, Single}
use Rattle.sc_store.specs.Levels.{held_level}
use Rattle.sc_store.specs.declared.level.Level.{Level}
use Rattle.sc_store.specs.declared.planning.Takes.{Takes}
use Rattle.sc_store.specs.declared.planning.Takes.TheVariants.{Any, Background, Required}

abbrev pub test_of : Takes → LevelPolicy → Bool
test_of Required = is_required
test_of Background = is_background
test_of Any = takes_writes

-- the levels of these writes, in order; a single store is one, also where it refuses
abbrev pub planned : Takes → Policy → List LevelFacts → List ℕ
planned which Single fs = 0 ∷ []
planned which (Levels ps) fs = levels_of (test_of which) 0 ps fs

-- what does not change of each of these levels
abbrev pub facts_of : {R : Type 0} {D : Type 0} {V : Type 0} → List (Level R D V) → List LevelFacts
facts_of levels = map (λ l. (held_level l).facts) levels
