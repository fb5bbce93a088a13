use Rattle.std.proofs.Common.{◌≡◌, ◌+◌, sym, ap, arith}
use Rattle.sc_disk.specs.Store.{declared}
use Rattle.sc_disk.proofs.Keeping.{Keeps-closed}
use Rattle.sc_disk.proofs.Slots.{declared-closed}
use Rattle.sc_disk.proofs.lru_disk_cache.LruDiskCache.close.Goals as goal

pub invariant_of-self : goal.invariant_of-self
invariant_of-self g c = let s = c.self.inside in let i = c.self.invariant in let r = c.remove-pending.ensures in let n = c.entry.inside.number in
    let less : declared c.remove-pending.new.self.slots + c.remove-pending.result.size ≡ declared s.pending.slots = declared-closed s.pending c.remove-pending.new.self n c.remove-pending.result r.value r.updates in
    Keeps-closed s.index.entries s.index.capacity s.pending c.remove-pending.new.self s.held _ s.capacity (g.D.Disk.state s.disk) n r.updates
    (omega (arith, less, i.reserved)) (omega arith) i
