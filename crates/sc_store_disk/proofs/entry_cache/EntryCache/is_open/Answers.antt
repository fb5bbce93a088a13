use Rattle.sc_store_disk.specs.DiskStores.{bare_disk}
use Rattle.sc_store_disk.proofs.StoreMarks.{is-open-alone, is-open-marked}
use Rattle.sc_store_disk.proofs.entry_cache.EntryCache.is_open.Goals as goal

pub returns-clause-opened : goal.returns-clause-opened
returns-clause-opened g c h = is-open-marked c.args.self.now.marks (bare_disk c.args.self.now) c.args.entry.now (c.has_open.ensures.opened h)

pub returns-clause-other : goal.returns-clause-other
returns-clause-other g c h is = c.has_open.ensures.other h (is-open-alone c.args.self.now.marks (bare_disk c.args.self.now) c.args.entry.now is)
