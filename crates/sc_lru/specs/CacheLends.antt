-- What a cache ends as, once a reference into it has ended.
use Rattle.std.specs.Prelude.{◌≡◌, ℕ, Bool, List, Option, ⊤}
use Rattle.std.specs.Borrow.{Fml, RattleType, MutBor, Lends, LendsIf, follows_so}
use Rattle.std.specs.HashMap.Lent.{HashMembers}
use Rattle.std.specs.Map.{set_value}
use Rattle.std.specs.declared.hash.Hasher as hasher
use Rattle.std.specs.declared.hash.BuildHasher as builder
use mathlib.Core.Option.{none}
use Rattle.sc_lru.specs.declared.meter.Meter as metering
use Rattle.sc_lru.specs.LruCache.{LruCache, with_entries}
use Rattle.sc_lru.specs.Order.{written_at}
use Rattle.sc_lru.specs.contracts.meter.Count.{the_row as count_row}
use Rattle.sc_lru.specs.contracts.cache.LruCache.{the_row}

module _ (K V S M H : RattleType) (key : HashMembers K.Denot) (build : builder.Ghosts S.Denot H.Denot) (hash : hasher.Ghosts H.Denot) (meter : metering.Ghosts M.Denot K.Denot V.Denot) where
  -- the cache's type, as the logic holds it
  abbrev pub cache_row : RattleType
  cache_row = the_row K V S M H (record { eq = key.eq }) (record { hash_input = key.hash_input }) build hash meter

  module _ (c : MutBor (LruCache K.Denot V.Denot S.Denot M.Denot)) where
    -- it has the pairs es at the same positions
    abbrev pub ends_as : List (K.Denot × V.Denot) → Fml
    ends_as es = follows_so cache_row cache_row c.ghost_name none (λ _ _. ⊤) (λ n. n ≡ with_entries c.now es)

module _ (K V S H : RattleType) (key : HashMembers K.Denot) (build : builder.Ghosts S.Denot H.Denot) (hash : hasher.Ghosts H.Denot) where
  -- a cache that counts its pairs
  abbrev pub counting_row : RattleType
  counting_row = cache_row K V S count_row H key build hash (record { measure = λ _ _ _. 1 })

  module _ (c : MutBor (LruCache K.Denot V.Denot S.Denot count_row.Denot)) where
    -- it has the pairs es, with the last value written through r at the key that passes, and at `None` it stays as it is
    abbrev pub lends_value : (K.Denot → Bool) → List (K.Denot × V.Denot) → Option (MutBor V.Denot) → Fml
    lends_value test es r = LendsIf counting_row V c r (λ w. with_entries c.now (set_value test es w)) c.now

    -- it has the last value written through r at the key of position i
    abbrev pub lends_pair : ℕ → MutBor V.Denot → Fml
    lends_pair i r = Lends counting_row V c r (λ w. with_entries c.now (written_at key.eq c.now.entries c.now.slots i w))
