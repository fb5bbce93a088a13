-- What a contract sees of an `LruCache`.
use Rattle.std.specs.Prelude.{◌≡◌, ℕ, ◌+◌, ◌≤◌, Bool, nat_le, if◌then◌else◌, List, [], ◌∷◌, ◌++◌, length, refl}
use Rattle.std.specs.List.{sum_by}
use Rattle.std.specs.Map.{remove_entry}
use Rattle.std.specs.Coded.{Coded, code_by, coded×, coded_ℕ}
use Rattle.sc_lru.specs.Order.{Order, order}

pub record LruCache (K V S M : Type 0) : Type 0 where
  -- the pairs, the least recently used first
  pub entries : List (K × V)
  -- the keys, each at its position in the table
  pub slots : List K
  pub hasher : S
  -- how many more pairs fit with no allocation
  pub spare : ℕ
  -- what the pairs may measure together
  pub capacity : ℕ
  pub meter : M

module _ {K V S M : Type 0} where
  abbrev pub lru_cache : Order K V S → ℕ → M → LruCache K V S M
  lru_cache o n m = record { entries = o.entries; slots = o.slots; hasher = o.hasher; spare = o.spare; capacity = n; meter = m }

  abbrev pub order_of : LruCache K V S M → Order K V S
  order_of c = order c.entries c.slots c.hasher c.spare

  abbrev pub lru_cache_code : Coded (Order K V S) → Coded M → Coded (LruCache K V S M)
  lru_cache_code o m = code_by (Order K V S × (ℕ × M)) (coded× o (coded× coded_ℕ m)) (λ c. (order_of c, (c.capacity, c.meter))) (λ p. lru_cache p.0 p.1.0 p.1.1) (λ _. refl)

  -- the cache, with these pairs at the same positions
  abbrev pub with_entries : LruCache K V S M → List (K × V) → LruCache K V S M
  with_entries c es = lru_cache (order es c.slots c.hasher c.spare) c.capacity c.meter

  -- the pairs and their positions stay
  pub record IsUnchanged (old new : LruCache K V S M) : Type 0 where
    pub entries : new.entries ≡ old.entries
    pub slots : new.slots ≡ old.slots

  -- it has this capacity, meter and hasher
  pub record HasParts (c : LruCache K V S M) (n : ℕ) (m : M) (s : S) : Type 0 where
    pub capacity : c.capacity ≡ n
    pub meter : c.meter ≡ m
    pub hasher : c.hasher ≡ s

  -- the capacity, the meter and the hasher stay
  abbrev pub KeepsParts : LruCache K V S M → LruCache K V S M → Type 0
  KeepsParts old new = HasParts new old.capacity old.meter old.hasher

module _ {K V : Type 0} (measure : K → V → ℕ) where
  -- the sum of the pairs' measures
  abbrev pub total : List (K × V) → ℕ
  total es = sum_by (λ e. measure e.0 e.1) es

  -- the longest suffix whose measures sum to at most n
  abbrev pub suffix_within : ℕ → List (K × V) → List (K × V)
  suffix_within n [] = []
  suffix_within n (e ∷ es) = if nat_le (total (e ∷ es)) n then e ∷ es else suffix_within n es

  -- the pairs after `insert`
  abbrev pub inserted : (K → Bool) → ℕ → List (K × V) → K → V → List (K × V)
  inserted test n es k v = suffix_within n (remove_entry test es ++ (k, v) ∷ [])

  -- the pairs after each of xs is inserted in turn
  abbrev pub inserted_all : (K → K → Bool) → ℕ → List (K × V) → List (K × V) → List (K × V)
  inserted_all eq n es [] = es
  inserted_all eq n es (x ∷ xs) = inserted_all eq n (inserted (eq x.0) n es x.0 x.1) xs

-- the pairs xs were inserted in turn
pub record Extends {K V S M : Type 0} (measure : M → K → V → ℕ) (eq : K → K → Bool) (old : LruCache K V S M) (xs : List (K × V)) (new : LruCache K V S M) : Type 0 where
  pub entries : new.entries ≡ inserted_all (measure old.meter) eq old.capacity old.entries xs
  pub parts : KeepsParts old new
  pub spare : old.spare ≤ new.spare + length xs
