use Rattle.sc_store_disk.specs.DiskStores.{bare_disk}
use Rattle.sc_store_disk.proofs.Steadying.{stays-self}
use Rattle.sc_store_disk.proofs.entry_cache.EntryCache.bare_fill.Goals as goal

pub returns-then-not-has_open-clause-stays : goal.returns-then-not-has_open-clause-stays
returns-then-not-has_open-clause-stays g c = stays-self (bare_disk c.args.self.now)
