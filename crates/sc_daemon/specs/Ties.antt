-- Who holds which open entry of the disk levels, and what is reserved for it.
use Rattle.std.specs.Prelude.{◌≡◌, ℕ, ◌==◌, ◌&&◌, if◌then◌else◌, List, [], ◌∷◌, Option, Some, None}
use Rattle.sc_store_disk.specs.DiskStores.{DiskStore, OpenEntry, entry_at}
use Rattle.sc_daemon_hold.specs.Holding.{Hand}
use Rattle.sc_model.specs.Trace.{Open, same_owner}
use Rattle.sc_model.specs.declared.event.Owner.{Owner}

-- whose the open entry of a level and number is, where it is anyone's
abbrev pub Owners : Type 0
Owners = ℕ → ℕ → Option Owner

-- the size of an owner's newest reservation at a level
abbrev pub first_open : Owner → ℕ → List Open → Option ℕ
first_open o l [] = None
first_open o l (r ∷ rs) = if same_owner r.owner o && (r.level == l) then Some r.size else first_open o l rs

-- The owner of a held entry has reserved its size, and the entry is open at its level, and nobody else's.
pub record Ties (owns : Owners) (opens : List Open) (d : ℕ → DiskStore) (o : Owner) (h : Hand) : Type 0 where
  pub reserved : first_open o h.level opens ≡ Some h.size
  pub owned : owns h.level h.number ≡ Some o
  pub slot : OpenEntry
  pub there : entry_at (d h.level).entries h.number ≡ Some slot

abbrev pub TiesHand : Owners → List Open → (ℕ → DiskStore) → Owner → Option Hand → Type 0
TiesHand owns opens d o None = Unit {0}
TiesHand owns opens d o (Some h) = Ties owns opens d o h

-- the entry that one holds is open
abbrev pub IsThere : (ℕ → DiskStore) → Option Hand → Type 0
IsThere d None = Unit {0}
IsThere d (Some h) = (slot : OpenEntry) × (entry_at (d h.level).entries h.number ≡ Some slot)

-- one more entry is this owner's
abbrev pub with_owner : Owners → Owner → Option Hand → Owners
with_owner owns o None l number = owns l number
with_owner owns o (Some h) l number = if (l == h.level) && (number == h.number) then Some o else owns l number
