-- Levels that are there, as code keeps them.
use Rattle.std.specs.Prelude.{ℕ, ◌<◌, List, [], ◌∷◌}
use Rattle.sc_model.specs.declared.event.What.{What}
use Rattle.sc_model.specs.declared.event.What.TheVariants.{Asked, WriteEnded}
use Rattle.sc_model.specs.declared.level.Handed.{Handed}

abbrev pub AreLevels : ℕ → List ℕ → Type 0
AreLevels n [] = Unit {0}
AreLevels n (l ∷ ls) = (l < n) × AreLevels n ls

-- writes that are handed to such levels
abbrev pub AreHanded : ℕ → List Handed → Type 0
AreHanded n [] = Unit {0}
AreHanded n (h ∷ hs) = (h.level < n) × AreHanded n hs

-- the writes that an event hands on
abbrev pub handed_in : What → List Handed
handed_in (Asked l k mode a hs) = hs
handed_in (WriteEnded put hs) = hs
handed_in _ = []
