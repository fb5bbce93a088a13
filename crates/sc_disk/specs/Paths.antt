-- Paths under the root of a disk.
use Rattle.std.specs.Prelude.{◌≡◌, ℕ, ◌-◌, ◌==◌, ◌&&◌, if◌then◌else◌, Bool, true, false, is_some, bytes_eq, List, [], ◌∷◌, ◌++◌, length, slice_index_or, Option, Some, None}
use Rattle.std.specs.Map.{lookup}
use Rattle.sc_entry.specs.Keys.{is_file_key}
use Rattle.sc_lru.specs.Order.{touched}
use Rattle.sc_disk.specs.Store.{Store}

-- the root as a folder: it is empty, or ends in a slash
abbrev pub as_root : List ℕ → List ℕ
as_root root = if slice_index_or root (length root - 1) 47 == 47 then root else root ++ 47 ∷ []

-- where a key's file stands
abbrev pub abs_path : List ℕ → List ℕ → List ℕ
abs_path root key = as_root root ++ key

-- a key that may be asked for, and is indexed
abbrev pub has_path : List ℕ → List (List ℕ × ℕ) → Bool
has_path key index = is_file_key key && is_some (lookup (bytes_eq key) index)

-- the path is that of the key's file, and the key went last; or the key has none
abbrev pub FindsPath : List ℕ → Option (List ℕ) → Store → Store → Type 0
FindsPath key None old new = (has_path key old.index ≡ false) × (new.index ≡ old.index)
FindsPath key (Some path) old new = (has_path key old.index ≡ true) × (path ≡ abs_path old.disk.root key) × (new.index ≡ touched (bytes_eq key) old.index)
