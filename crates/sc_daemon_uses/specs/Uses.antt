-- The uses of a level that events are.
use Rattle.std.specs.Prelude.{ℕ, List, [], ◌∷◌, ◌++◌, length, ◌==◌, if◌then◌else◌, Option, Some, None, option_to_list}
use Rattle.std.specs.Borrow.{Bor}
use Rattle.sc_entry.specs.Keys.{is_store_key}
use Rattle.sc_lru.specs.declared.capacity_report.Use.{Use}
use Rattle.sc_lru.specs.declared.capacity_report.Use.TheVariants.{Get, Put}
use Rattle.sc_model.specs.declared.event.Event.{Event}
use Rattle.sc_model.specs.declared.event.Mode.{Mode}
use Rattle.sc_model.specs.declared.event.Mode.TheVariants.{Raw, Whole}
use Rattle.sc_model.specs.declared.event.What.{What}
use Rattle.sc_model.specs.declared.event.What.TheVariants.{Asked, Committed, Wrote}
use Rattle.sc_model.specs.declared.event.Written.{Written}
use Rattle.sc_model.specs.declared.event.Written.TheVariants.{Done, Refused}

-- a use whose key was lent, by what the key is
abbrev pub lent : {K : Type 0} → Use (Bor K) → Use K
lent (Get key) = Get key.now
lent (Put key bytes) = Put key.now bytes

-- a lookup of an entry by a store key is a get, whatever it answers
abbrev pub asked : List ℕ → Mode → Option (Use (List ℕ))
asked key Whole = if is_store_key key then Some (Get key) else None
asked key Raw = if is_store_key key then Some (Get key) else None
asked key _ = None

-- an entry's write that was done is a put
abbrev pub put : List ℕ → List ℕ → Written → Option (Use (List ℕ))
put key bytes Done = Some (Put key (length bytes))
put key bytes (Refused cause) = None

-- and so is that of a remote level, which writes for the preprocessor too
abbrev pub wrote : List ℕ → List ℕ → Mode → Written → Option (Use (List ℕ))
wrote key bytes Whole written = put key bytes written
wrote key bytes _ written = None

-- the use of a level that an event is
abbrev pub use_in : ℕ → What → Option (Use (List ℕ))
use_in level (Asked at key mode answer handed) = if at == level then asked key mode else None
use_in level (Committed at key bytes written) = if at == level then put key bytes written else None
use_in level (Wrote at key bytes mode marked written) = if at == level then wrote key bytes mode written else None
use_in level _ = None

-- the uses of a level that events are, in their order
abbrev pub uses_in : ℕ → List Event → List (Use (List ℕ))
uses_in level [] = []
uses_in level (e ∷ es) = option_to_list (use_in level e.what) ++ uses_in level es
