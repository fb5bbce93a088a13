-- Values that are found by their keys.
use Rattle.std.specs.Prelude.{◌≡◌, ℕ, suc, List, [], ◌∷◌, Option, Some, None, if◌then◌else◌}
use Rattle.std.specs.BTreeMap.{BTreeMap, get}
use Rattle.std.specs.Cmp.Lexicographic.{slice_cmp}
use Rattle.std.specs.Ordering.{nat_cmp}
use Rattle.std.specs.Str.{bytes_eq}

-- the first value with a key
abbrev pub first_of : {T : Type 0} → (T → List ℕ) → List ℕ → List T → Option T
first_of key_of key [] = None
first_of key_of key (v ∷ vs) = if bytes_eq (key_of v) key then Some v else first_of key_of key vs

-- where it stands, counted on from a number
abbrev pub place_from : {T : Type 0} → (T → List ℕ) → List ℕ → ℕ → List T → Option ℕ
place_from key_of key i [] = None
place_from key_of key i (v ∷ vs) = if bytes_eq (key_of v) key then Some i else place_from key_of key (suc i) vs

-- the places of first values are kept beside their list
abbrev pub AreFirsts : {T : Type 0} → (T → List ℕ) → List T → BTreeMap (List ℕ) ℕ → Type 0
AreFirsts key_of values firsts = (key : List ℕ) → get (slice_cmp nat_cmp) firsts key ≡ place_from key_of key 0 values
