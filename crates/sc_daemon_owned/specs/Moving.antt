-- How a daemon that one owner holds moves.
use Rattle.std.specs.Prelude.{◌≡◌, ℕ, Bool, true, List, Option, Some, None}
use Rattle.sc_daemon_hold.specs.Holding.{OpensNone, ReservesBy}
use Rattle.sc_daemon_job.specs.Setups.{setup}
use Rattle.sc_daemon_owned.specs.Facts.{config_of}
use Rattle.sc_model.specs.Script.{Setup}
use Rattle.sc_model.specs.World.{MovesDist, MovesLevels, MovesShop, Need, World}
use Rattle.sc_model.specs.declared.event.Answer.{Answer}
use Rattle.sc_model.specs.declared.event.Answer.TheVariants.{Size as SizeIs}
use Rattle.sc_model.specs.declared.event.Placing.{Placing}
use Rattle.sc_model.specs.declared.event.Placing.TheVariants.{Done, Fault}
use Rattle.sc_model.specs.declared.event.What.{What}
use Rattle.sc_daemon_owned.specs.State.{State, reserved_in}
use Rattle.sc_store.specs.Held.{Room, room_in}
use Rattle.sc_store_disk.specs.DiskStores.{entry_at}

-- What an event of the parts moves: the levels, where they tell what they hold; the workshop, the distributed client and its container
-- whether or not they do.
pub record MovesWorld (s : Setup) (n : Need) (r : ℕ → ℕ) (told : Bool) (x : What) (w w2 : World) : Type 0 where
  pub moment : w2.moment ≡ w.moment
  pub levels : told ≡ true → MovesLevels s n r x w w2
  pub shop : MovesShop s n x w w2
  pub dist : MovesDist s n x w w2

-- what is reserved at each level stays, and each number has the same entry
abbrev pub SameRooms : List Room → List Room → Type 0
SameRooms old new = (l : ℕ) → ((room_in new l).reserved ≡ (room_in old l).reserved) × ((number : ℕ) → entry_at (room_in new l).entries number ≡ entry_at (room_in old l).entries number)

-- What the daemon is made of and whether its levels tell does not change. What the parts hold moves by the event. What is open at the
-- levels stays but by an event that opens, fills or closes an entry, and the bytes that are reserved are those of the event.
abbrev pub OwnedMoves : State → Need → What → State → Type 0
OwnedMoves old n x new =
    (new.told ≡ old.told) × MovesWorld (setup (config_of old.config)) n (reserved_in old) old.told x old.world new.world
    × (OpensNone x → SameRooms old.rooms new.rooms) × ReservesBy x (reserved_in old) (reserved_in new) × (new.config ≡ old.config)

-- what a workshop's placing comes to: done, or a fault's chain of texts
abbrev pub placing_of : Option (List (List ℕ)) → Placing
placing_of None = Done
placing_of (Some chain) = Fault chain

-- the size that an answer tells
abbrev pub size_in : Answer → Option ℕ
size_in (SizeIs size counters) = size
size_in _ = None
