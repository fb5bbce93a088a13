-- What warming leaves in both stores.
use Rattle.std.specs.Prelude.{◌≡◌, ◌⊎◌, ◌+◌, ◌<◌, ◌≤◌, ◌++◌, ℕ, true, List, [], ◌∷◌, length, Some, None}
use Rattle.sc_disk_pair.specs.declared.part.Part.{Part}
use Rattle.sc_disk_pair.specs.declared.part.Part.TheVariants.{Main, Pre}
use Rattle.sc_entry.specs.Causes.{Rose}
use Rattle.sc_model.specs.Evicting.{part_size}
use Rattle.sc_model.specs.Levels.{Keeps_all, find_file, main_path}
use Rattle.sc_model.specs.declared.level.LevelKind.{LevelKind}
use Rattle.sc_model.specs.declared.level.LevelKind.TheVariants.{Disk, Remote}
use Rattle.sc_store.specs.Held.{HeldLevel}
use Rattle.sc_store_alone.specs.Lookups.{AreSpelled}
use Rattle.sc_store_alone.specs.Storages.{Alone, Layered, State, Wrapped}
use Rattle.sc_store_disk.specs.Moving.{part_files}
use Rattle.sc_store_warm.specs.Causes.{IfTells, held_under}
use Rattle.sc_store_warm.specs.declared.warmed.Warmed.{Warmed}
use Rattle.sc_store_warm.specs.declared.warmed.Warmed.TheVariants.{Copied}

-- the entry was copied
abbrev pub IsCopy : Warmed → Type 0
IsCopy (Copied size) = Unit {0}
IsCopy warmed = ⊥

-- a key was copied, at one of its places
abbrev pub IsCopied : List ℕ → List (List ℕ) → List Warmed → Type 0
IsCopied key (first ∷ keys) (warmed ∷ rest) = ((first ≡ key) × IsCopy warmed) ⊎ IsCopied key keys rest
IsCopied key keys rest = ⊥

-- the key that is listed next, behind those of which these tell
abbrev pub IsNext : List ℕ → List (List ℕ) → List Warmed → Type 0
IsNext key [] before = ⊥
IsNext key (first ∷ keys) [] = first ≡ key
IsNext key (first ∷ keys) (warmed ∷ before) = IsNext key keys before

-- all bytes that were copied
abbrev pub copied_bytes : List Warmed → ℕ
copied_bytes [] = 0
copied_bytes (Copied size ∷ rest) = size + copied_bytes rest
copied_bytes (warmed ∷ rest) = copied_bytes rest

-- each entry that was copied fits beside what is reserved
abbrev pub FitEach : ℕ → ℕ → List Warmed → Type 0
FitEach capacity reserved [] = Unit {0}
FitEach capacity reserved (Copied size ∷ rest) = (size + reserved ≤ capacity) × FitEach capacity reserved rest
FitEach capacity reserved (warmed ∷ rest) = FitEach capacity reserved rest

-- What lookups leave of a store that stands alone: it is what it was and holds what it held, but for what a remote store finds
-- lost, whose count of losses rises then.
pub record LooksOnly (old new : HeldLevel) : Type 0 where
  pub facts : new.facts ≡ old.facts
  pub told : new.told ≡ old.told
  pub losses : old.level.losses ≤ new.level.losses
  pub keeps : old.told ≡ true → Keeps_all old.facts.kind old.level new.level

-- the same behind a wrapper that is only read; a lookup over levels may put what it hits at the levels before
abbrev pub SourceStays : State → State → Type 0
SourceStays (Alone old) (Alone new) = LooksOnly old new
SourceStays (Layered old) (Layered new) = Unit {0}
SourceStays (Wrapped old) (Wrapped new) = SourceStays old new
SourceStays old new = ⊥

-- An eviction took a file for the entry of a listed key: the files that stood at first and the entries that were copied before that
-- key took, with what is reserved and that entry, more than the capacity.
pub record WasEvicted (keys : List (List ℕ)) (warmed : List Warmed) (from : State) (old : HeldLevel) : Type 0 where
  pub key : List ℕ
  pub before : List Warmed
  pub behind : List Warmed
  pub split : warmed ≡ before ++ behind
  pub listed : IsNext key keys before
  pub bytes : List ℕ
  pub spelled : AreSpelled bytes
  pub wanted : IfTells from (λ source. held_under source key ≡ Some bytes)
  pub over : old.facts.capacity < part_size old.level + copied_bytes before + (old.room.reserved + length bytes)

-- Why a file is gone: at a disk store it was evicted; a remote store found it lost, and keeps no preprocessor entries.
abbrev pub WhyGone : LevelKind → List (List ℕ) → List Warmed → State → Part → HeldLevel → HeldLevel → Type 0
WhyGone Disk keys warmed from part old new = WasEvicted keys warmed from old
WhyGone Remote keys warmed from Main old new = Rose old.level.losses new.level.losses
WhyGone Remote keys warmed from Pre old new = ⊥

-- What stands at a path is as it was, or it is gone.
abbrev pub StaysOrGone : List (List ℕ) → List Warmed → State → Part → List ℕ → HeldLevel → HeldLevel → Type 0
StaysOrGone keys warmed from part path old new =
    (find_file (part_files part new.level) path ≡ find_file (part_files part old.level) path)
    ⊎ ((find_file (part_files part new.level) path ≡ None) × WhyGone old.facts.kind keys warmed from part old new)

-- A path at which no entry was put: that of no key that was copied. No entry is put among those of the preprocessor.
abbrev pub IsOther : Part → LevelKind → List ℕ → List (List ℕ) → List Warmed → Type 0
IsOther Main kind path keys warmed = (key : List ℕ) → IsCopied key keys warmed → main_path kind key ≡ path → ⊥
IsOther Pre kind path keys warmed = Unit {0}
