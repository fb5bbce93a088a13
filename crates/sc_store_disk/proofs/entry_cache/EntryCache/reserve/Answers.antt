use Rattle.sc_store_disk.specs.DiskStores.{bare_disk, entry_path}
use Rattle.sc_store_disk.proofs.Lending.{if_oks, on_errs}
use Rattle.sc_store_disk.proofs.StoreMarks.{evicts-marked, opened-same, opens-marked, reserves-marked, same-entries, stays-marked}
use Rattle.sc_store_disk.specs.Moving.{written_of}
use Rattle.sc_model.specs.WriteCauses.{causes}
use Rattle.sc_store_disk.proofs.entry_cache.EntryCache.reserve.Goals as goal

pub returns-clause-stays : goal.returns-clause-stays
returns-clause-stays g c = stays-marked c.args.self.now.marks c.bare_reserve.new.self.marks (bare_disk c.args.self.now) (bare_disk c.bare_reserve.new.self) c.bare_reserve.ensures.stays

pub returns-clause-moved : goal.returns-clause-moved
returns-clause-moved g c =
    let m = c.args.self.now.marks in let n = c.bare_reserve.new.self.marks in let s = bare_disk c.args.self.now in let t = bare_disk c.bare_reserve.new.self in
    if_oks c.bare_reserve.result c.bare_reserve.ensures.moved c.bare_reserve.ensures.marks (λ how h k told.
    reserves-marked m n (opened-same m n s t how k) s.facts.capacity (causes c.args.policy.now s.facts s.reserved c.args.key.now c.args.size) s.reserved c.args.size (written_of how) s.level t.level (h told))

pub returns-clause-entry : goal.returns-clause-entry
returns-clause-entry g c =
    let m = c.args.self.now.marks in let n = c.bare_reserve.new.self.marks in let s = bare_disk c.args.self.now in let t = bare_disk c.bare_reserve.new.self in
    if_oks c.bare_reserve.result c.bare_reserve.ensures.entry c.bare_reserve.ensures.marks (λ how h k. opens-marked m n s t (entry_path c.args.key.now) c.args.size how k h)

pub returns-clause-kept : goal.returns-clause-kept
returns-clause-kept g c =
    let m = c.args.self.now.marks in let n = c.bare_reserve.new.self.marks in let s = bare_disk c.args.self.now in let t = bare_disk c.bare_reserve.new.self in
    on_errs c.bare_reserve.result c.bare_reserve.ensures.kept c.bare_reserve.ensures.marks_stay (λ h k. same-entries m n s t k h)

pub returns-clause-evicts : goal.returns-clause-evicts
returns-clause-evicts g c =
    let m = c.args.self.now.marks in let n = c.bare_reserve.new.self.marks in let s = bare_disk c.args.self.now in let t = bare_disk c.bare_reserve.new.self in
    on_errs c.bare_reserve.result c.bare_reserve.ensures.evicts c.bare_reserve.ensures.marks_stay (λ h k. evicts-marked m n s t k c.args.size h)
