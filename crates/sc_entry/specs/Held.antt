-- How an index of names finds the objects of an entry in its bytes.
use Rattle.std.specs.Prelude.{◌≡◌, ℕ, ◌+◌, ◌≤◌, List, length, take, drop, Option, Some, None, Result, Ok, Err, String}
use Rattle.std.specs.Borrow.{Bor}
use Rattle.std.specs.Global.{Global}
use Rattle.std.specs.BTreeMap.{BTreeMap, get_by_text}
use Rattle.sc_entry.specs.Entries.{find_object, listed, objects}
use Rattle.sc_entry.specs.declared.object.Object.{Object}
use Rattle.sc_entry.specs.declared.held.Held.{Held}
use Rattle.sc_entry.specs.declared.entry_error.ReadEntryError.{ReadEntryError}
use Rattle.sc_entry.specs.declared.entry_error.ReadEntryError.TheVariants.{NoMemory, BadEntry}

-- a range of the bytes holds an object's data, and its mode is kept
abbrev pub IsHeld : List ℕ → Option Object → Option Held → Type 0
IsHeld bytes None None = Unit {0}
IsHeld bytes None (Some h) = ⊥
IsHeld bytes (Some o) None = ⊥
IsHeld bytes (Some o) (Some h) = (h.mode ≡ o.mode) × (take h.len (drop h.start bytes) ≡ o.bytes) × (h.start + h.len ≤ length bytes)

-- each name finds its object's range, and no other name finds one
abbrev pub IsIndexOf : List ℕ → List Object → BTreeMap (String Global) Held → Type 0
IsIndexOf bytes os index = (name : List ℕ) → IsHeld bytes (find_object name os) (get_by_text index name)

-- what stands behind an entry that was read
abbrev pub IsReadEntry : List ℕ → BTreeMap (String Global) Held → Type 0
IsReadEntry bytes index = (objects bytes ≡ Some (listed (objects bytes))) × IsIndexOf bytes (listed (objects bytes)) index

-- the index of the list that some bytes spell; refused exactly where they spell none
abbrev pub IndexAnswer : List ℕ → Option (List Object) → Result (BTreeMap (String Global) Held) ReadEntryError → Type 0
IndexAnswer bytes (Some os) (Ok index) = IsIndexOf bytes os index
IndexAnswer bytes None (Ok index) = ⊥
IndexAnswer bytes listed' (Err NoMemory) = Unit {0}
IndexAnswer bytes listed' (Err BadEntry) = listed' ≡ None

-- an object's mode and data, as they were found
abbrev pub IsFound : Option Object → Option (Option ℕ × Bor (List ℕ)) → Type 0
IsFound None None = Unit {0}
IsFound None (Some p) = ⊥
IsFound (Some o) None = ⊥
IsFound (Some o) (Some p) = (p.0 ≡ o.mode) × (p.1.now ≡ o.bytes)
