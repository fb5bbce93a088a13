-- What an order ends as, once a reference into it has ended.
use Rattle.std.specs.Prelude.{◌≡◌, ℕ, Bool, List, Option, ⊤}
use Rattle.std.specs.Borrow.{Fml, RattleType, MutBor, Lends, LendsIf, follows_so}
use Rattle.std.specs.HashMap.Lent.{HashMembers}
use Rattle.std.specs.Map.{set_value}
use Rattle.std.specs.declared.hash.Hasher as hasher
use Rattle.std.specs.declared.hash.BuildHasher as builder
use mathlib.Core.Option.{none}
use Rattle.sc_lru.specs.Order.{Order, with_entries, written_at}
use Rattle.sc_lru.specs.contracts.linked.Order.{the_row}

module _ (K V S H : RattleType) (key : HashMembers K.Denot) (build : builder.Ghosts S.Denot H.Denot) (hash : hasher.Ghosts H.Denot) where
  -- the order's type, as the logic holds it
  abbrev pub order_row : RattleType
  order_row = the_row K V S H (record { eq = key.eq }) (record { hash_input = key.hash_input }) build hash

  module _ (o : MutBor (Order K.Denot V.Denot S.Denot)) where
    -- it has the pairs es at the same positions
    abbrev pub ends_as : List (K.Denot × V.Denot) → Fml
    ends_as es = follows_so order_row order_row o.ghost_name none (λ _ _. ⊤) (λ n. n ≡ with_entries o.now es)

    -- it has the pairs es, with the last value written through r at the key that passes, and at `None` it stays as it is
    abbrev pub lends_value : (K.Denot → Bool) → List (K.Denot × V.Denot) → Option (MutBor V.Denot) → Fml
    lends_value test es r = LendsIf order_row V o r (λ w. with_entries o.now (set_value test es w)) o.now

    -- it has the last value written through r at the key of position i
    abbrev pub lends_pair : ℕ → MutBor V.Denot → Fml
    lends_pair i r = Lends order_row V o r (λ w. with_entries o.now (written_at key.eq o.now.entries o.now.slots i w))
