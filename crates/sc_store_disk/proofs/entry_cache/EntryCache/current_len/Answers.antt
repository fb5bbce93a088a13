use Rattle.std.proofs.Common.{sym}
use Rattle.sc_store_disk.proofs.Counting.{len-tells, unopened-len}
use Rattle.sc_store_disk.proofs.entry_cache.EntryCache.current_len.Goals as goal

pub returns-in-Some : goal.returns-in-Some
returns-in-Some g c = record {
  told = len-tells c.args.self.now.mode c.args.self.now.pair.max_size c.args.self.now.pair.opened c.args.self.now.pair.disks c.in-Some.cache.now (sym c.in-Some.ensures)
      c.keeps.ensures.sound c.keeps.ensures.distinct c.keeps.ensures.placed c.len.result c.len.ensures;
}

pub returns-in-None : goal.returns-in-None
returns-in-None g c = record { told = λ told. unopened-len c.args.self.now.mode c.args.self.now.pair.max_size c.args.self.now.pair.opened c.args.self.now.pair.disks (sym c.in-None.ensures) }
