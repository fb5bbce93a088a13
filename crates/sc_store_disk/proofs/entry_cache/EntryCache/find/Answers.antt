use Rattle.sc_store_disk.specs.DiskStores.{bare_disk}
use Rattle.sc_store_disk.proofs.Steadying.{steady-then}
use Rattle.sc_store_disk.proofs.entry_cache.EntryCache.find.Goals as goal

pub returns-clause-steady : goal.returns-clause-steady
returns-clause-steady g c = steady-then (bare_disk c.args.self.now) (bare_disk c.open.new.self) (bare_disk c.look.new.self) c.open.ensures.steady c.look.ensures.steady
