use Rattle.std.proofs.Common.{length}
use Rattle.sc_store_disk.specs.DiskStores.{bare_disk}
use Rattle.sc_store_disk.proofs.Askings.{if_ok}
use Rattle.sc_store_disk.proofs.Lending.{on_err, written-none}
use Rattle.sc_store_disk.proofs.StoreMarks.{evicts-marked, puts-marked, same-entries, stays-marked}
use Rattle.sc_store_disk.proofs.entry_cache.EntryCache.put_pre.Goals as goal

pub returns-clause-stays : goal.returns-clause-stays
returns-clause-stays g c = stays-marked c.args.self.now.marks c.bare_put_pre.new.self.marks (bare_disk c.args.self.now) (bare_disk c.bare_put_pre.new.self) c.bare_put_pre.ensures.stays

pub returns-clause-entries : goal.returns-clause-entries
returns-clause-entries g c = same-entries c.args.self.now.marks c.bare_put_pre.new.self.marks (bare_disk c.args.self.now) (bare_disk c.bare_put_pre.new.self) c.bare_put_pre.ensures.marks c.bare_put_pre.ensures.entries

pub returns-clause-put : goal.returns-clause-put
returns-clause-put g c = let s = c.args.self.now in let t = c.bare_put_pre.new.self in
    if_ok c.bare_put_pre.result c.bare_put_pre.ensures.put (λ how h. puts-marked s.marks t.marks (bare_disk s) (bare_disk t) c.bare_put_pre.ensures.marks
    (written-none s.mode t.mode s.pair.max_size t.pair.max_size s.pair.opened t.pair.opened s.pair.disks t.pair.disks) c.args.policy.now c.args.key.now c.args.bytes.now how h)

pub returns-clause-evicts : goal.returns-clause-evicts
returns-clause-evicts g c = on_err c.bare_put_pre.result c.bare_put_pre.ensures.evicts (λ h. evicts-marked c.args.self.now.marks c.bare_put_pre.new.self.marks (bare_disk c.args.self.now) (bare_disk c.bare_put_pre.new.self) c.bare_put_pre.ensures.marks (length c.args.bytes.now) h)
