-- What warming one store from another does, key by key.
use Rattle.std.specs.Prelude.{◌≡◌, ◌≢◌, ◌⊎◌, ◌++◌, ℕ, List, [], ◌∷◌, length, Option, Some, None}
use Rattle.sc_entry.specs.Entries.{objects}
use Rattle.sc_model.specs.declared.event.Mode.TheVariants.{Raw}
use Rattle.sc_store_alone.specs.Lookups.{AreSpelled}
use Rattle.sc_store_alone.specs.Storages.{GetsRaw, KeepsStore, PutsIn, RefusesLookup, RefusesPut, State}
use Rattle.sc_store_alone.specs.declared.storage_error.StorageError.TheVariants.{NoMemory, Unsupported}
use Rattle.sc_store_warm.specs.declared.warmed.Warmed.{Warmed}
use Rattle.sc_store_warm.specs.declared.warmed.Warmed.TheVariants.{Absent, Copied, FromRefused, ToRefused, Torn}

-- the same bytes, where they spell an entry
abbrev pub SpelledAs : List ℕ → Option (List ℕ) → Type 0
SpelledAs bytes (Some same) = (same ≡ bytes) × AreSpelled bytes
SpelledAs bytes None = objects bytes ≡ None

-- The source was read under a key, and this is what stands there.
abbrev pub ReadsAs : List ℕ → Option (List ℕ) → State → State → Type 0
ReadsAs key found old new = KeepsStore old new × GetsRaw old new key found

-- An entry's bytes were put at the target under a key, or it refused them.
abbrev pub PutsAs : List ℕ → List ℕ → Warmed → State → State → Type 0
PutsAs key bytes (Copied size) old new = (size ≡ length bytes) × PutsIn old new key bytes
PutsAs key bytes (ToRefused refusal) old new = (refusal ≢ NoMemory) × RefusesPut Unsupported old new key bytes refusal
PutsAs key bytes warmed old new = ⊥

-- What became of one key. The target is asked for an entry that was read, and for nothing else; else it stays as it was.
abbrev pub WarmsKey : List ℕ → Warmed → State → State → State → State → Type 0
WarmsKey key (FromRefused refusal) from from2 to to2 = (refusal ≢ NoMemory) × KeepsStore from from2 × RefusesLookup from from2 key Raw refusal × (to2 ≡ to)
WarmsKey key Absent from from2 to to2 = ReadsAs key None from from2 × (to2 ≡ to)
WarmsKey key Torn from from2 to to2 = (bytes : List ℕ) × ReadsAs key (Some bytes) from from2 × (objects bytes ≡ None) × (to2 ≡ to)
WarmsKey key warmed from from2 to to2 = (bytes : List ℕ) × ReadsAs key (Some bytes) from from2 × AreSpelled bytes × KeepsStore to to2 × PutsAs key bytes warmed to to2

-- For each key in order: a relation of it, of what became of it, and of both stores before and after it.
abbrev pub Each : (List ℕ → Warmed → State → State → State → State → Type 0) → List (List ℕ) → List Warmed → State → State → State → State → Type 0
Each step [] [] from from2 to to2 = (from2 ≡ from) × (to2 ≡ to)
Each step (key ∷ keys) (warmed ∷ rest) from from2 to to2 = (source target : State) × step key warmed from source to target × Each step keys rest source from2 target to2
Each step keys rest from from2 to to2 = ⊥

-- what became of a key, and a fact of that
abbrev pub WarmsWith : (List ℕ → Warmed → State → State → State → State → Type 0) → List ℕ → Warmed → State → State → State → State → Type 0
WarmsWith fact key warmed from from2 to to2 = WarmsKey key warmed from from2 to to2 × fact key warmed from from2 to to2

-- Memory ran out at a key: as it was read or tested, or as its entry was put. What the call of a store that wanted memory did to
-- what the store holds isn't told.
abbrev pub StopsKey : List ℕ → State → State → State → State → Type 0
StopsKey key from from2 to to2 = KeepsStore from from2 × ((to2 ≡ to) ⊎ ((bytes : List ℕ) × GetsRaw from from2 key (Some bytes) × AreSpelled bytes × KeepsStore to to2))

-- at the first of the keys that are left; where none is left nothing moved
abbrev pub StopsAt : List (List ℕ) → State → State → State → State → Type 0
StopsAt [] from from2 to to2 = (from2 ≡ from) × (to2 ≡ to)
StopsAt (key ∷ keys) from from2 to to2 = StopsKey key from from2 to to2

-- Memory ran out: something became of some first keys by then, and of both stores.
pub record Stops (keys : List (List ℕ)) (from from2 to to2 : State) : Type 0 where
  pub done : List (List ℕ)
  pub left : List (List ℕ)
  pub split : keys ≡ done ++ left
  pub warmed : List Warmed
  pub source : State
  pub target : State
  pub each : Each WarmsKey done warmed from source to target
  pub ends : StopsAt left source from2 target to2
