-- Entries of disk levels that are open, and who holds one.
use Rattle.std.specs.Prelude.{◌≡◌, ◌≢◌, ℕ, ◌+◌, Bool, true, List, length, Option, Some, None}
use Rattle.sc_disk.specs.Store.{AddEntry}
use Rattle.sc_store_disk.specs.DiskStores.{DiskStore, OpenEntry, entry_at, entry_path}
use Rattle.sc_store_disk.specs.declared.filling.Filling.{Filling}
use Rattle.sc_store_disk.specs.declared.filling.Filling.TheVariants.{Filled as Filled_on, Refused as NotFilled}
use Rattle.sc_store_disk.specs.declared.reserving.Reservation.{Reservation}
use Rattle.sc_store_disk.specs.declared.reserving.Reservation.TheVariants.{Open, Refused as NotReserved}
use Rattle.sc_entry.specs.Causes.{IfTold, Told}
use Rattle.sc_entry.specs.Keys.{IsStoreKey}
use Rattle.sc_model.specs.declared.event.What.{What}
use Rattle.sc_model.specs.declared.event.What.TheVariants.{Committed, Filled, Reserved}
use Rattle.sc_model.specs.declared.event.Written.{Written}
use Rattle.sc_model.specs.declared.event.Written.TheVariants.{Done, Refused}
use Rattle.sc_model.specs.declared.phase.Bytes.{Bytes}

-- the levels as disk stores
abbrev pub Rooms : Type 0
Rooms = ℕ → DiskStore

-- What everybody knows of an entry that was opened under this key: another may have closed it since.
pub record IsFor (e : AddEntry) (k : List ℕ) : Type 0 where
  pub good : IsStoreKey k
  pub key : e.key ≡ entry_path k
  pub divided : e.divided ≡ true

-- The level has it open for these bytes. It has declared their length, and was filled with `filled`; what its fills came to is nothing
-- before the first, then its mark.
pub record IsOpenFor (s : DiskStore) (e : AddEntry) (b : Bytes) (filled : List ℕ) (fills : Option Bool) : Type 0 where
  pub bytes : List ℕ
  pub entry : entry_at s.entries e.number ≡ Some (record { path = entry_path b.key; size = length b.bytes; bytes = bytes; fills = fills })
  pub told : s.told ≡ true → bytes ≡ filled

-- an entry at a level: where nobody else moves the levels it is open there
abbrev pub Holds : Option Rooms → ℕ → AddEntry → Bytes → List ℕ → Option Bool → Type 0
Holds rooms l e b filled fills = IsFor e b.key × IfTold rooms (λ d. IsOpenFor (d l) e b filled fills)

-- an entry is opened under this key
abbrev pub IsGood : Reservation → List ℕ → Type 0
IsGood (Open e) key = IsFor e key
IsGood (NotReserved c) key = Unit {0}

-- a fill gives the entry that it was given
abbrev pub IsSame : AddEntry → Filling → Type 0
IsSame e (Filled_on same) = same ≡ e
IsSame e (NotFilled c) = Unit {0}

-- how a fill ended
abbrev pub filled_of : Filling → Written
filled_of (Filled_on e) = Done
filled_of (NotFilled c) = Refused c

-- nothing was opened or closed at a level: the same is reserved, and each number has the same entry
abbrev pub SameRoom : DiskStore → DiskStore → Type 0
SameRoom old new = (new.reserved ≡ old.reserved) × ((number : ℕ) → entry_at new.entries number ≡ entry_at old.entries number)

-- nor at any level but this one
abbrev pub Elsewhere : ℕ → Rooms → Rooms → Type 0
Elsewhere l old new = (m : ℕ) → m ≢ l → SameRoom (old m) (new m)

-- one level moves so, and no other
abbrev pub AtLevel : ℕ → (DiskStore → DiskStore → Type 0) → Rooms → Rooms → Type 0
AtLevel l change old new = change (old l) (new l) × Elsewhere l old new

-- an event that opens, fills and closes no entry
abbrev pub OpensNone : What → Type 0
OpensNone (Reserved l k n how) = ⊥
OpensNone (Filled l k b mark how) = ⊥
OpensNone (Committed l k b how) = ⊥
OpensNone _ = Unit {0}

-- what an event does to the bytes that are reserved at each level
abbrev pub ReservesBy : What → (ℕ → ℕ) → (ℕ → ℕ) → Type 0
ReservesBy (Reserved l k n Done) old new = (new l ≡ old l + n) × ((m : ℕ) → m ≢ l → new m ≡ old m)
ReservesBy (Filled l k b mark (Refused c)) old new = (new l + length b ≡ old l) × ((m : ℕ) → m ≢ l → new m ≡ old m)
ReservesBy (Committed l k b how) old new = (new l + length b ≡ old l) × ((m : ℕ) → m ≢ l → new m ≡ old m)
ReservesBy _ old new = (m : ℕ) → new m ≡ old m

-- the entry that one holds for these bytes, filled with those
abbrev pub IsHeld : Option Rooms → ℕ → Option AddEntry → Bytes → List ℕ → Option Bool → Type 0
IsHeld rooms l None b filled fills = ⊥
IsHeld rooms l (Some e) b filled fills = Holds rooms l e b filled fills

-- one holds it where the last event at it was done, and none where that was refused
abbrev pub HeldBy : Written → Option Rooms → ℕ → Option AddEntry → Bytes → List ℕ → Option Bool → Type 0
HeldBy Done rooms l entry b filled fills = IsHeld rooms l entry b filled fills
HeldBy (Refused c) rooms l entry b filled fills = entry ≡ None

-- An open entry that one holds: its level, its number there, and the bytes that it has declared.
pub record Hand : Type 0 where
  pub level : ℕ
  pub number : ℕ
  pub size : ℕ

abbrev pub hand_at : Option AddEntry → ℕ → ℕ → Option Hand
hand_at None l size = None
hand_at (Some e) l size = Some (record { level = l; number = e.number; size = size })

-- the entry of that level and number is the one that is held
abbrev pub IsHand : Option Hand → ℕ → ℕ → Type 0
IsHand None l number = ⊥
IsHand (Some h) l number = (l ≡ h.level) × (number ≡ h.number)

-- What an event makes of the entry that its owner holds: a new one has a number that was free; d are the levels before it.
abbrev pub HandsBy : Rooms → What → Option Hand → Option Hand → Type 0
HandsBy d (Reserved l k n Done) old new = (old ≡ None) × ((number : ℕ) × (new ≡ Some (record { level = l; number = number; size = n })) × (entry_at (d l).entries number ≡ None))
HandsBy d (Filled l k b mark Done) old new = (number : ℕ) × (old ≡ Some (record { level = l; number = number; size = length b })) × (new ≡ Some (record { level = l; number = number; size = length b }))
HandsBy d (Filled l k b mark (Refused c)) old new = (number : ℕ) × (old ≡ Some (record { level = l; number = number; size = length b })) × (new ≡ None)
HandsBy d (Committed l k b how) old new = (number : ℕ) × (old ≡ Some (record { level = l; number = number; size = length b })) × (new ≡ None)
HandsBy d _ old new = (old ≡ None) × (new ≡ None)

-- every open entry but the one that is held is open as it was
abbrev pub KeepsHands : Option Hand → Rooms → Rooms → Type 0
KeepsHands held old new = (l number : ℕ) (o : OpenEntry) → (IsHand held l number → ⊥) → entry_at (old l).entries number ≡ Some o → entry_at (new l).entries number ≡ Some o

-- these two where nobody else moves the levels
abbrev pub HandsIn : Option Rooms → What → Option Hand → Option Hand → Type 0
HandsIn rooms x old new = IfTold rooms (λ d. HandsBy d x old new)

abbrev pub KeepsIn : Option Hand → Option Rooms → Option Rooms → Type 0
KeepsIn held old new = Told (KeepsHands held) old new
