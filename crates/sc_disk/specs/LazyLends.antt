-- What a store that is opened late ends as, once a loan of the opened store has ended.
use Rattle.std.specs.Prelude.{◌≡◌, Option, Some}
use Rattle.std.specs.Option.{OnSome}
use Rattle.std.specs.Borrow.{Fml, RattleType, MutBor, LendsSo}
use Rattle.sc_disk.specs.declared.disk.Disk as device
use Rattle.sc_disk.specs.contracts.lazy.LazyDiskCache as lazy
use Rattle.sc_disk.specs.contracts.lru_disk_cache.LruDiskCache as cache

module _ (D : RattleType) (disk : device.Ghosts D.Denot) where
  abbrev pub lazy_row : RattleType
  lazy_row = lazy.the_row D disk

  abbrev pub cache_row : RattleType
  cache_row = cache.the_row D disk

  -- it stays opened, and holds the last store behind the loan
  abbrev pub lends_opened : MutBor lazy_row.Denot → Option (MutBor cache_row.Denot) → Fml
  lends_opened l r = LendsSo lazy_row cache_row l r (λ n w. OnSome r ((n.opened ≡ Some w) × (n.max_size ≡ l.now.max_size))) (λ n. (n.opened ≡ l.now.opened) × (n.disk ≡ l.now.disk) × (n.max_size ≡ l.now.max_size))
