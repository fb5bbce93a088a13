-- What stands behind an entry that is being written.
use Rattle.std.specs.Prelude.{◌≡◌, ℕ, List, length, Some, String}
use Rattle.std.specs.Global.{Global}
use Rattle.std.specs.BTreeSet.{BTreeSet, contains_text}
use Rattle.sc_entry.specs.Entries.{has_name, listed, objects}

-- the bytes are the spelling of the objects so far, the set has their names, and the count is theirs
abbrev pub IsWrittenEntry : List ℕ → BTreeSet (String Global) → ℕ → Type 0
IsWrittenEntry bytes names count =
    (objects bytes ≡ Some (listed (objects bytes)))
    × ((name : List ℕ) → contains_text names name ≡ has_name name (listed (objects bytes)))
    × (count ≡ length (listed (objects bytes)))
