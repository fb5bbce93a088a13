use Rattle.std.proofs.Common.{sym}
use Rattle.sc_store_disk.proofs.Lending.{indexed-size, size-tells, unopened-size}
use Rattle.sc_store_disk.proofs.entry_cache.EntryCache.current_size.Goals as goal

pub returns-in-Some-clause-told : goal.returns-in-Some-clause-told
returns-in-Some-clause-told g c = size-tells c.args.self.now.mode c.args.self.now.pair.max_size c.args.self.now.pair.opened c.args.self.now.pair.disks c.in-Some.cache.now (sym c.in-Some.ensures)
    c.keeps.ensures.sound c.keeps.ensures.distinct c.keeps.ensures.placed c.size.result c.size.ensures.size c.size.type_inv

pub returns-in-Some-clause-size : goal.returns-in-Some-clause-size
returns-in-Some-clause-size g c = indexed-size c.args.self.now.mode c.args.self.now.pair.max_size c.args.self.now.pair.opened c.args.self.now.pair.disks c.in-Some.cache.now (sym c.in-Some.ensures) c.size.result c.size.ensures.size

pub returns-in-None-clause-size : goal.returns-in-None-clause-size
returns-in-None-clause-size g c = unopened-size c.args.self.now.mode c.args.self.now.pair.max_size c.args.self.now.pair.opened c.args.self.now.pair.disks (sym c.in-None.ensures)
