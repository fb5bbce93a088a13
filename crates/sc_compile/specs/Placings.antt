-- What placing answers.
use Rattle.std.specs.Prelude.{◌≡◌, ℕ, List, [], Option, Some, None, option_map}
use Rattle.sc_entry.specs.Causes.{Rose}
use Rattle.sc_model.specs.Levels.{and_one}
use Rattle.sc_model.specs.World.{Place}
use Rattle.sc_compile_table.specs.Tables.{first_of}
use Rattle.sc_compile.specs.declared.place_line.PlaceLine.{PlaceLine}

-- A placing is done and joins the list, or its fault is told, and the count rose.
abbrev pub Places : Place → Option (List Place) → Option (List Place) → ℕ → ℕ → Option (List (List ℕ)) → Type 0
Places place before now f g None = (now ≡ and_one before place) × (g ≡ f)
Places place before now f g (Some chain) = (now ≡ before) × Rose f g × (chain ≡ [] → ⊥)

-- why the placings under a key fail, by its first line
abbrev pub refusal_at : List PlaceLine → List ℕ → Option (List (List ℕ))
refusal_at lines key = option_map (λ (l : PlaceLine). l.chain) (first_of (λ (l : PlaceLine). l.key) key lines)

-- the same, where the lines are told
abbrev pub told_refusal : Option (List PlaceLine) → List ℕ → Option (Option (List (List ℕ)))
told_refusal None key = None
told_refusal (Some lines) key = Some (refusal_at lines key)
