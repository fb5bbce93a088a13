-- What placing an entry comes to.
use Rattle.std.specs.Prelude.{◌≡◌, ◌⊎◌, Bool, true, false, List, [], ◌∷◌, codes, Option, Some, None, ℕ}
use Rattle.sc_entry.specs.Causes.{Rose, Told}
use Rattle.sc_entry.specs.Failing.{one_more}
use Rattle.sc_entry.specs.FileMaps.{FileMap}
use Rattle.sc_entry.specs.Gathering.{PlacesSome, lacks_any, place_each}
use Rattle.sc_entry.specs.declared.object.FileObjectSource.{FileObjectSource}
use Rattle.sc_entry.specs.declared.object.Object.{Object}
use Rattle.sc_command_workshop.specs.declared.placing.Placed.{Placed}
use Rattle.sc_command_workshop.specs.declared.placing.Placed.TheVariants.{Done, BadEntry, Lacking, FileFault}

abbrev pub bad_entry : List (List ℕ)
bad_entry = codes "Failed to parse cache entry" ∷ []

abbrev pub lacking : List (List ℕ)
lacking = codes "failed to decompress content" ∷ []

abbrev pub file_fault : List (List ℕ)
file_fault = codes "file fault" ∷ []

-- the objects are placed in the outputs' order; where the files refuse, those of some first outputs
abbrev pub PlacesAll : List Object → List FileObjectSource → Option (List (List ℕ)) → Option FileMap → Option FileMap → Type 0
PlacesAll os outputs None before after = Told (λ old new. new ≡ place_each os outputs old) before after
PlacesAll os outputs (Some chain) before after = (chain ≡ file_fault) × Told (PlacesSome os outputs) before after

abbrev pub PlacesUnless : Bool → List Object → List FileObjectSource → Option (List (List ℕ)) → Option FileMap → Option FileMap → Type 0
PlacesUnless true os outputs answer before after = (answer ≡ Some lacking) × (after ≡ before)
PlacesUnless false os outputs answer before after = PlacesAll os outputs answer before after

-- Bytes that spell no entry, and an entry that lacks a required object, place nothing. `None` is done.
abbrev pub PlacesEntry : Option (List Object) → List FileObjectSource → Option (List (List ℕ)) → Option FileMap → Option FileMap → Type 0
PlacesEntry None outputs answer before after = (answer ≡ Some bad_entry) × (after ≡ before)
PlacesEntry (Some os) outputs answer before after = PlacesUnless (lacks_any os outputs) os outputs answer before after

-- why a placing wasn't done, in words
abbrev pub told_placed : Placed → Option (List (List ℕ))
told_placed Done = None
told_placed BadEntry = Some bad_entry
told_placed Lacking = Some lacking
told_placed FileFault = Some file_fault

-- The files' count rises where they refused, and nowhere else.
abbrev pub PlacedCause : ℕ → ℕ → Placed → Type 0
PlacedCause f g FileFault = Rose f g
PlacedCause f g _ = g ≡ f

-- A done placing counts nothing. One that isn't done was refused by the files, and they counted it, or for what the entry
-- holds, and the workshop counts that.
abbrev pub PlaceCounts : ℕ → ℕ → ℕ → ℕ → Option (List (List ℕ)) → Type 0
PlaceCounts f g before now None = (g ≡ f) × (now ≡ before)
PlaceCounts f g before now (Some chain) = (Rose f g × (now ≡ before)) ⊎ ((g ≡ f) × (now ≡ one_more before))
