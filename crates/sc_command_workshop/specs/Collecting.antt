-- What is collected of a run's outputs.
use Rattle.std.specs.Prelude.{◌≡◌, ℕ, Bool, true, false, List, [], ◌∷◌, ◌++◌, length, slice_get, codes, Option, Some}
use Rattle.sc_entry.specs.Causes.{Rose}
use Rattle.sc_entry.specs.FileMaps.{FileMap}
use Rattle.sc_entry.specs.Gathering.{Gathered, TakesSource}
use Rattle.sc_entry.specs.declared.object.Object.{Object}
use Rattle.sc_entry.specs.declared.object.FileObjectSource.{FileObjectSource}
use Rattle.sc_model.specs.declared.event.Objects.{Objects}
use Rattle.sc_model.specs.declared.event.Objects.TheVariants.{Broken, Collected}

-- why the objects of a run can't be had: the file of this name wasn't read
abbrev pub unread : List ℕ → List (List ℕ)
unread name = codes "failed to zip up compiler outputs" ∷ ((codes "failed to open file " ++ name) ∷ [])

-- an output gave its object or needn't, or the files refused a required one
abbrev pub TakesOutput : Option FileMap → FileObjectSource → List Object → List Object → ℕ → ℕ → Bool → Type 0
TakesOutput held s before after f g true = TakesSource held s before after f g
TakesOutput held s before after f g false = (s.optional ≡ false) × Rose f g

-- The files refused a required output; those before it gave their objects, or were optional.
abbrev pub LacksOne : Option FileMap → List FileObjectSource → List (List ℕ) → Type 0
LacksOne held outputs chain =
    (i : ℕ) × (os : List Object) × (s : FileObjectSource) × Gathered held outputs i os × (slice_get outputs i ≡ Some s) × (s.optional ≡ false) × (chain ≡ unread s.key)

-- Each output in its order gives an object of its name that holds what stands at its path; an optional one that the files
-- refuse is left out, and a required one takes the place of all. f, g: the files' counts of faults before and after.
abbrev pub Collects : Option FileMap → List FileObjectSource → ℕ → ℕ → Objects → Type 0
Collects held outputs f g (Collected os) = Gathered held outputs (length outputs) os × ((Rose f g → ⊥) → length os ≡ length outputs)
Collects held outputs f g (Broken chain) = LacksOne held outputs chain × Rose f g
