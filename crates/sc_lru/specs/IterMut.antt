-- What an `IterMut` shows, and what it ends as once a pair that it lent has ended.
use Rattle.std.specs.Prelude.{Bool, ◌≡◌, ℕ, ◌+◌, ◌-◌, ◌^◌, ◌<◌, ◌≤◌, List, [], Option, length, take, drop}
use Rattle.std.specs.Borrow.{Fml, RattleType, MutBor, LendsIf}
use Rattle.std.specs.HashMap.Lent.{HashMembers}
use Rattle.std.specs.declared.hash.Hasher as hasher
use Rattle.std.specs.declared.hash.BuildHasher as builder
use mir.Syntax.{named}
use Rattle.indexmap.specs.IndexMap.{set_value_at}
use Rattle.sc_lru.specs.Order.{position_at}
use Rattle.sc_lru.specs.LruCache.{with_entries}
use Rattle.sc_lru.specs.declared.iter_mut.IterMut.{IterMut}
use Rattle.sc_lru.specs.contracts.iter_mut.IterMut.{the_row}

module _ {K V S H : Type 0} where
  -- the pairs that are left
  abbrev pub rest : IterMut K V S H → List (K × V)
  rest s = take s.left (drop s.lent s.cache.now.entries)

  -- the cache, with v as the value at place i
  abbrev pub cache_written : IterMut K V S H → ℕ → V → IterMut K V S H
  cache_written s i v = record s { cache = record s.cache { now = with_entries s.cache.now (set_value_at s.cache.now.entries i v) } }

  module _ (eq : K → K → Bool) where
    -- the pairs that are left stand in the cache, from the front to the back
    pub record IsReady (s : IterMut K V S H) : Type 0 where
      pub fits : s.lent + s.left < 2 ^ 64
      pub within : s.lent + s.left ≤ length s.cache.now.entries
      pub front : s.front ≡ position_at eq s.cache.now.entries s.cache.now.slots s.lent
      pub back : s.back ≡ position_at eq s.cache.now.entries s.cache.now.slots (s.lent + s.left - 1)

    -- s, once the first pair that was left is lent and has the value v
    abbrev pub first_written : IterMut K V S H → V → IterMut K V S H
    first_written s v = record (cache_written s s.lent v) {
      front = position_at eq s.cache.now.entries s.cache.now.slots (s.lent + 1);
      lent = s.lent + 1;
      left = s.left - 1;
    }

    -- s, once the last pair that was left is lent and has the value v
    abbrev pub last_written : IterMut K V S H → V → IterMut K V S H
    last_written s v = record (cache_written s (s.lent + s.left - 1) v) {
      back = position_at eq s.cache.now.entries s.cache.now.slots (s.lent + s.left - 1 - 1);
      left = s.left - 1;
    }

module _ (K V S H : RattleType) (key : HashMembers K.Denot) (build : builder.Ghosts S.Denot H.Denot) (hashes : hasher.Ghosts H.Denot) where
  -- the iterator's type, as the logic holds it
  abbrev pub iter_row : RattleType
  iter_row = the_row (record { mir = named 1; lft = [] }) K V S H (record { eq = key.eq }) (record { hash_input = key.hash_input }) build hashes

  module _ (s : MutBor (IterMut K.Denot V.Denot S.Denot H.Denot)) where
    -- the first pair that was left has the last value written through r, and at `None` the iterator stays
    abbrev pub lends_first : Option (MutBor V.Denot) → Fml
    lends_first r = LendsIf iter_row V s r (λ v. first_written key.eq s.now v) s.now

    -- the same of the last pair
    abbrev pub lends_last : Option (MutBor V.Denot) → Fml
    lends_last r = LendsIf iter_row V s r (λ v. last_written key.eq s.now v) s.now
