-- What each part of a pair of folders holds, in a store of both.
use Rattle.std.specs.Prelude.{◌≡◌, ◌⊎◌, ℕ, Bool, true, false, cond, bytes_eq, List, [], ◌∷◌, drop, Option, Some, None}
use Rattle.std.specs.Map.{remove_entry}
use Rattle.sc_entry.specs.Causes.{IfTold}
use Rattle.sc_lru.specs.Order.{touched}
use Rattle.sc_disk.specs.Calls.{RefusesGet}
use Rattle.sc_disk.specs.Disks.{DiskRecord, files_now}
use Rattle.sc_disk.specs.Paths.{abs_path, has_path}
use Rattle.sc_disk.specs.Store.{Alters, Store, filed}
use Rattle.sc_disk.specs.declared.error.Error.{Error}
use Rattle.sc_disk.specs.declared.error.Error.TheVariants.{NoMemory}
use Rattle.sc_disk_pair.specs.Parts.{cut_part, file_of}
use Rattle.sc_disk_pair.specs.declared.part.Part.{Part}
use Rattle.sc_disk_pair.specs.declared.part.Part.TheVariants.{Main, Pre}

abbrev pub other : Part → Part
other Main = Pre
other Pre = Main

abbrev pub same_part : Part → Part → Bool
same_part Main Main = true
same_part Main Pre = false
same_part Pre Main = false
same_part Pre Pre = true

-- what a path is in this part, if it is of this part
abbrev pub own_key : Part → Option (Part × List ℕ) → Option (List ℕ)
own_key part None = None
own_key part (Some p) = cond (same_part part p.0) (Some p.1) None

abbrev pub with_own : Option (List ℕ) → ℕ → List (List ℕ × ℕ) → List (List ℕ × ℕ)
with_own None size es = es
with_own (Some key) size es = (key, size) ∷ es

-- a part's keys, each with its file's size, the least recently used first
abbrev pub index_of : Part → List (List ℕ × ℕ) → List (List ℕ × ℕ)
index_of part [] = []
index_of part (e ∷ es) = with_own (own_key part (cut_part e.0)) e.1 (index_of part es)

-- the first ones of a part's files went, and no others
abbrev pub Evicts : Part → Store → Store → Type 0
Evicts part old new = (n : ℕ) × (index_of part new.index ≡ drop n (index_of part old.index))

-- a part's files stay as they were, but for some that went
abbrev pub Leaves : Part → Option DiskRecord → Option DiskRecord → Type 0
Leaves part old new = IfTold old (λ r. IfTold new (λ s. (q : List ℕ) → (file_of part (files_now s) q ≡ None) ⊎ (file_of part (files_now s) q ≡ file_of part (files_now r) q)))

-- A file was put in a part under a key, once the first ones of its files went; of the other part's files the first ones went.
pub record Files (part : Part) (key : List ℕ) (r : ℕ) (old new : Store) : Type 0 where
  pub n : ℕ
  pub index : index_of part new.index ≡ filed key r (drop n (index_of part old.index))
  pub others : Evicts (other part) old new
  pub leaves : Leaves (other part) old.disk.told new.disk.told

-- a part's key was used, and the other part stayed as it was
pub record Uses (part : Part) (key : List ℕ) (old new : Store) : Type 0 where
  pub index : index_of part new.index ≡ touched (bytes_eq key) (index_of part old.index)
  pub others : index_of (other part) new.index ≡ index_of (other part) old.index
  pub leaves : Leaves (other part) old.disk.told new.disk.told

-- a part's key was taken out, and the other part stayed as it was
pub record Drops (part : Part) (key : List ℕ) (old new : Store) : Type 0 where
  pub index : index_of part new.index ≡ remove_entry (bytes_eq key) (index_of part old.index)
  pub others : index_of (other part) new.index ≡ index_of (other part) old.index
  pub leaves : Leaves (other part) old.disk.told new.disk.told

-- a part's file isn't read; memory may be wanting before its key is used
abbrev pub RefusesRead : Error → List ℕ → ℕ → Bool → Store → Store → Type 0
RefusesRead refused key now touches old new = RefusesGet refused key now touches old new ⊎ ((refused ≡ NoMemory) × Alters [] old new)

abbrev pub root_of : Part → List ℕ → List ℕ → List ℕ
root_of Main main pre = main
root_of Pre main pre = pre

-- where a part's key's file stands, and the key was used; or the key has none
abbrev pub FindsPath : Part → List ℕ → List ℕ → Option (List ℕ) → Store → Store → Type 0
FindsPath part key root None old new = (has_path key (index_of part old.index) ≡ false) × (new.index ≡ old.index)
FindsPath part key root (Some path) old new =
    (has_path key (index_of part old.index) ≡ true) × (path ≡ abs_path root key) × (index_of part new.index ≡ touched (bytes_eq key) (index_of part old.index)) × (index_of (other part) new.index ≡ index_of (other part) old.index)
