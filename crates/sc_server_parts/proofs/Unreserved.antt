-- A store that stands alone.
use Rattle.std.proofs.Common.{◌≡◌, ℕ, zero, suc, [], ◌∷◌, refl}
use Rattle.sc_model.specs.declared.level.Policy.TheVariants.{Single}
use Rattle.sc_store.specs.Held.{HeldLevel, held_of, room_in}

-- nothing is reserved at any level where nothing is at its own
pub alone_free : (h : HeldLevel) → h.room.reserved ≡ 0 → (l : ℕ) → (room_in (held_of (h ∷ []) Single).rooms l).reserved ≡ 0
alone_free h free zero = free
alone_free h free (suc l) = refl
