use Rattle.std.proofs.Common.{sym}
use Rattle.sc_store_disk.proofs.HeldSizes.{opened-held}
use Rattle.sc_store_disk.proofs.holding.EntryCache+MemDisk.held_size.Goals as goal

pub returns-in-Some : goal.returns-in-Some
returns-in-Some c =
    let s = c.args.self.now in
    let held = opened-held s.mode s.pair.max_size s.pair.opened s.pair.disks c.in-Some.cache.now (record { bytes = c.size.result; files = c.len.result }) (sym c.in-Some.ensures)
    c.keeps.ensures.sound c.keeps.ensures.distinct c.keeps.ensures.placed c.size.ensures.size c.len.ensures in
    record { bytes = held.bytes; files = held.files }
