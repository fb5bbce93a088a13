use Rattle.sc_disk.proofs.Wholes.{gave_up}
use Rattle.sc_disk.proofs.lru_disk_cache.LruDiskCache.give_up.Goals as goal

pub returns : goal.returns
returns g c = let u = c.undo.ensures in
    (u.0, gave_up c.args.refused c.undo.result u.0 c.args.entry c.close-pending.result c.args.self.now c.close-pending.new.self c.undo.new.self c.close-pending.ensures u.1)
