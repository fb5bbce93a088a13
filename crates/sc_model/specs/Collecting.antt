-- What a run's objects come to, by the outputs that are wanted of it.
use Rattle.std.specs.Prelude.{ℕ, Bool, true, false, List, [], ◌∷◌, ◌++◌, Option, Some, None, codes}
use Rattle.sc_entry.specs.declared.object.FileObjectSource.{FileObjectSource}
use Rattle.sc_entry.specs.declared.object.Object.{Object}
use Rattle.sc_model.specs.World.{first_missing}
use Rattle.sc_model.specs.declared.event.Objects.{Objects}
use Rattle.sc_model.specs.declared.event.Objects.TheVariants.{Broken, Collected}
use Rattle.sc_model.specs.declared.event.RunOutput.{RunOutput}

-- a required output that isn't there takes the place of the objects
abbrev pub collected : List Object → Option (List ℕ) → Objects
collected os None = Collected os
collected os (Some name) = Broken (codes "failed to zip up compiler outputs" ∷ (codes "failed to open file " ++ name) ∷ [])

abbrev pub collected_from : List FileObjectSource → Objects → Objects
collected_from outputs (Collected os) = collected os (first_missing (Some os) outputs)
collected_from outputs (Broken chain) = Broken chain

-- a run's output, of which these outputs are wanted
abbrev pub output_with : List FileObjectSource → RunOutput → RunOutput
output_with outputs out = record { output = out.output; objects = collected_from outputs out.objects }

-- a chain stands in place of the objects
abbrev pub is_broken : Objects → Bool
is_broken (Collected os) = false
is_broken (Broken chain) = true
