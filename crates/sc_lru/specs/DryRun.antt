-- What a list of uses finds at one capacity. A pair's value is its number of bytes, and its measure.
use Rattle.std.specs.Prelude.{ℕ, ◌+◌, ◌-◌, ◌^◌, ◌<◌, Bool, nat_le, is_some, if◌then◌else◌, List, [], ◌∷◌, length, map}
use Rattle.std.specs.Borrow.{Bor}
use Rattle.std.specs.Map.{lookup, remove_entry}
use Rattle.sc_lru.specs.declared.capacity_report.Use.{Use}
use Rattle.sc_lru.specs.declared.capacity_report.Use.TheVariants.{Get, Put}
use Rattle.sc_lru.specs.declared.capacity_report.DryLine.{DryLine}
use Rattle.sc_lru.specs.LruCache.{inserted}
use Rattle.sc_lru.specs.Order.{touched}

module _ {K : Type 0} (eq : K → K → Bool) (capacity : ℕ) where
  abbrev pub put_in : List (K × ℕ) → K → ℕ → List (K × ℕ)
  put_in es k bytes = inserted (λ _ size. size) (eq k) capacity es k bytes

  -- the pairs after a use: a put over the capacity is left out
  abbrev pub used : List (K × ℕ) → Use K → List (K × ℕ)
  used es (Get k) = touched (eq k) es
  used es (Put k bytes) = if nat_le bytes capacity then put_in es k bytes else es

  -- 1 for a get whose key is there
  abbrev pub hit : List (K × ℕ) → Use K → ℕ
  hit es (Get k) = if is_some (lookup (eq k) es) then 1 else 0
  hit es (Put k bytes) = 0

  -- 1 for a get whose key isn't
  abbrev pub missed : List (K × ℕ) → Use K → ℕ
  missed es (Get k) = if is_some (lookup (eq k) es) then 0 else 1
  missed es (Put k bytes) = 0

  -- the pairs that a put pushes out, beside the key's old one
  abbrev pub dropped : List (K × ℕ) → Use K → ℕ
  dropped es (Get k) = 0
  dropped es (Put k bytes) = if nat_le bytes capacity then (length (remove_entry (eq k) es) + 1) - length (put_in es k bytes) else 0

  -- 1 for a put over the capacity
  abbrev pub over : List (K × ℕ) → Use K → ℕ
  over es (Get k) = 0
  over es (Put k bytes) = if nat_le bytes capacity then 0 else 1

  -- the sum over the uses, each of the pairs that it finds
  abbrev pub sum_uses : (List (K × ℕ) → Use K → ℕ) → List (K × ℕ) → List (Use K) → ℕ
  sum_uses f es [] = 0
  sum_uses f es (u ∷ us) = f es u + sum_uses f (used es u) us

  -- the line, with one use counted
  abbrev pub counted : List (K × ℕ) → DryLine → Use K → DryLine
  counted es l u = record { capacity = l.capacity; hits = l.hits + hit es u; misses = l.misses + missed es u; evicted = l.evicted + dropped es u; too_large = l.too_large + over es u }

-- the counts of the uses, from no pair on
abbrev pub dry_line : {K : Type 0} → (K → K → Bool) → List (Use K) → ℕ → DryLine
dry_line eq us n = record { capacity = n; hits = sum_uses eq n (hit eq n) [] us; misses = sum_uses eq n (missed eq n) [] us; evicted = sum_uses eq n (dropped eq n) [] us; too_large = sum_uses eq n (over eq n) [] us }

-- the pairs, whose keys were borrowed
abbrev pub shown : {K : Type 0} → List (Bor K × ℕ) → List (K × ℕ)
shown es = map (λ e. (e.0.now, e.1)) es

-- there is room to count one use more, beside m pairs
pub record HasRoom (l : DryLine) (m : ℕ) : Type 0 where
  pub hits : l.hits + 1 < 2 ^ 64
  pub misses : l.misses + 1 < 2 ^ 64
  pub evicted : l.evicted + m + 1 < 2 ^ 64
  pub too_large : l.too_large + 1 < 2 ^ 64
