-- Values by key that are taken in turn: the nth time a key is answered its nth value is taken, and behind the last the last.
use Rattle.std.specs.Prelude.{◌≡◌, ℕ, zero, suc, List, [], ◌∷◌, Option, Some, None, if◌then◌else◌, unwrap_or}
use Rattle.std.specs.BTreeMap.{BTreeMap, get}
use Rattle.std.specs.Cmp.Lexicographic.{slice_cmp}
use Rattle.std.specs.Global.{Vec}
use Rattle.std.specs.Option.{option_map_or}
use Rattle.std.specs.Ordering.{nat_cmp}
use Rattle.std.specs.Str.{bytes_eq}

-- the values with a key, in their order
abbrev pub values_of : {T : Type 0} → (T → List ℕ) → List ℕ → List T → List T
values_of key_of key [] = []
values_of key_of key (v ∷ vs) = if bytes_eq (key_of v) key then v ∷ values_of key_of key vs else values_of key_of key vs

-- how often a key was answered
abbrev pub count_of : {A : Type 0} → List ℕ → List (List ℕ × A) → ℕ
count_of key [] = 0
count_of key (d ∷ ds) = if bytes_eq (d.0) key then suc (count_of key ds) else count_of key ds

-- the one after so many of a list; behind the last, the last
abbrev pub next_of : {A : Type 0} → ℕ → List A → Option A
next_of n [] = None
next_of n (a ∷ []) = Some a
next_of zero (a ∷ b ∷ rest) = Some a
next_of (suc n) (a ∷ b ∷ rest) = next_of n (b ∷ rest)

-- the value that the next answer under a key takes
abbrev pub next_value : {T A : Type 0} → (T → List ℕ) → List ℕ → List T → List (List ℕ × A) → Option T
next_value key_of key values done = next_of (count_of key done) (values_of key_of key values)

-- what a book holds: its values, and what was answered under which key
pub record Turns (T A : Type 0) : Type 0 where
  pub values : List T
  pub done : List (List ℕ × A)

-- where a key's values stand, counted on from a number
abbrev pub places_from : {T : Type 0} → (T → List ℕ) → List ℕ → ℕ → List T → List ℕ
places_from key_of key i [] = []
places_from key_of key i (v ∷ vs) = if bytes_eq (key_of v) key then i ∷ places_from key_of key (suc i) vs else places_from key_of key (suc i) vs

abbrev pub places_at : BTreeMap (List ℕ) (Vec ℕ) → List ℕ → List ℕ
places_at places key = option_map_or (λ v. v.items) (get (slice_cmp nat_cmp) places key) []

abbrev pub taken_at : BTreeMap (List ℕ) ℕ → List ℕ → ℕ
taken_at taken key = unwrap_or (get (slice_cmp nat_cmp) taken key) 0

-- each key's places, and how often it was answered, are kept beside the lists
pub record IsBook {T A : Type 0} (key_of : T → List ℕ) (values : List T) (done : List (List ℕ × A)) (places : BTreeMap (List ℕ) (Vec ℕ)) (taken : BTreeMap (List ℕ) ℕ) : Type 0 where
  pub stand : (key : List ℕ) → places_at places key ≡ places_from key_of key 0 values
  pub counted : (key : List ℕ) → taken_at taken key ≡ count_of key done
