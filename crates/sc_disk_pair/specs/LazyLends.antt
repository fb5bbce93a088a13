-- What a store that is opened late ends as, once a loan of the opened store has ended.
use Rattle.std.specs.Prelude.{◌≡◌, Option, Some}
use Rattle.std.specs.Option.{OnSome}
use Rattle.std.specs.Borrow.{Fml, RattleType, MutBor, LendsSo}
use Rattle.sc_disk.specs.declared.disk.Disk as device
use Rattle.sc_disk_pair.specs.contracts.lazy_pair.LazyPair as lazy
use Rattle.sc_disk_pair.specs.contracts.pair_cache.PairCache as pair

module _ (D : RattleType) (disk : device.Ghosts D.Denot) where
  abbrev pub lazy_row : RattleType
  lazy_row = lazy.the_row D disk

  abbrev pub pair_row : RattleType
  pair_row = pair.the_row D disk

  -- it stays opened, and holds the last store behind the loan
  abbrev pub lends_opened : MutBor lazy_row.Denot → Option (MutBor pair_row.Denot) → Fml
  lends_opened l r = LendsSo lazy_row pair_row l r (λ n w. OnSome r ((n.opened ≡ Some w) × (n.max_size ≡ l.now.max_size))) (λ n. (n.opened ≡ l.now.opened) × (n.disks ≡ l.now.disks) × (n.max_size ≡ l.now.max_size))
