-- What a contract sees of an order of use.
use Rattle.std.specs.Prelude.{◌≡◌, ℕ, ◌<◌, ◌≤◌, Bool, List, [], ◌∷◌, ◌++◌, length, position, slice_get, swap_remove, refl}
use Rattle.std.specs.List.{position_or_len}
use Rattle.std.specs.Option.{option_map_or}
use Rattle.std.specs.Map.{keys_of, lookup_entry, remove_entry, set_value}
use Rattle.std.specs.Coded.{Coded, code_by, coded×, coded_list, coded_ℕ}

pub record Order (K V S : Type 0) : Type 0 where
  -- the pairs, the least recently used first
  pub entries : List (K × V)
  -- the keys, each at its position in the table
  pub slots : List K
  pub hasher : S
  -- how many more pairs fit with no allocation
  pub spare : ℕ

module _ {K V S : Type 0} where
  abbrev pub order : List (K × V) → List K → S → ℕ → Order K V S
  order es ks s n = record { entries = es; slots = ks; hasher = s; spare = n }

  abbrev pub order_code : Coded K → Coded V → Coded S → Coded (Order K V S)
  order_code k v s = code_by (List (K × V) × (List K × (S × ℕ))) (coded× (coded_list (coded× k v)) (coded× (coded_list k) (coded× s coded_ℕ))) (λ o. (o.entries, (o.slots, (o.hasher, o.spare)))) (λ p. order p.0 p.1.0 p.1.1.0 p.1.1.1) (λ _. refl)

  -- the order, with these pairs at the same positions
  abbrev pub with_entries : Order K V S → List (K × V) → Order K V S
  with_entries o es = order es o.slots o.hasher o.spare

  -- the hasher stays, and at least as many more pairs fit with no allocation
  abbrev pub KeepsRoom : Order K V S → Order K V S → Type 0
  KeepsRoom old new = (old.spare ≤ new.spare) × (new.hasher ≡ old.hasher)

module _ {K V : Type 0} (test : K → Bool) where
  -- the pair whose key passes goes last
  abbrev pub touched : List (K × V) → List (K × V)
  touched es = option_map_or (λ e. remove_entry test es ++ e ∷ []) (lookup_entry test es) es

-- the keys at their positions, after the one that passes was taken out: the last key comes to its position
abbrev pub vacated : {K : Type 0} → (K → Bool) → List K → List K
vacated test ks = option_map_or (λ i. option_map_or (swap_remove ks i) (slice_get ks i) ks) (position test ks) ks

module _ {K V : Type 0} (eq : K → K → Bool) where
  -- the keys at their positions, after the first pair of the order was taken out
  abbrev pub vacated_first : List (K × V) → List K → List K
  vacated_first es ks = option_map_or (λ e. vacated (eq e.0) ks) (slice_get es 0) ks

  -- the position in the table of the i-th pair of the order, and 0 where there is none
  abbrev pub position_at : List (K × V) → List K → ℕ → ℕ
  position_at es ks i = option_map_or (λ k. position_or_len (eq k) ks) (slice_get (keys_of es) i) 0

  -- a pair of the order stands at position p
  abbrev pub IsPosition : List (K × V) → List K → ℕ → Type 0
  IsPosition es ks p = (i : ℕ) × (i < length es) × (p ≡ position_at es ks i)

  -- the pairs, with w as the value of the key at position p
  abbrev pub written_at : List (K × V) → List K → ℕ → V → List (K × V)
  written_at es ks p w = option_map_or (λ k. set_value (eq k) es w) (slice_get ks p) es
