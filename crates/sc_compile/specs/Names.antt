-- A set of names beside a list, so that no name is looked for in the list.
use Rattle.std.specs.Prelude.{◌≡◌, ℕ, List, String}
use Rattle.std.specs.Global.{Global}
use Rattle.std.specs.BTreeSet.{BTreeSet, contains_text}
use Rattle.sc_entry.specs.declared.object.FileObjectSource.{FileObjectSource}
use Rattle.sc_compile.specs.Plain.{has_key}

-- the set has the outputs' names and no other
abbrev pub HasNames : List FileObjectSource → BTreeSet (String Global) → Type 0
HasNames outputs names = (name : List ℕ) → contains_text names name ≡ has_key name outputs
