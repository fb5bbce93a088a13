use Rattle.sc_store_disk.specs.DiskStores.{bare_disk}
use Rattle.sc_store_disk.proofs.Lending.{if_errs, if_oks, on_err, on_errs}
use Rattle.sc_store_disk.proofs.StoreMarks.{closes-marked, fills-marked, is-open-alone, is-open-marked, same-files, stays-marked}
use Rattle.sc_store_disk.proofs.entry_cache.EntryCache.fill.Goals as goal

pub returns-clause-stays : goal.returns-clause-stays
returns-clause-stays g c = stays-marked c.args.self.now.marks c.bare_fill.new.self.marks (bare_disk c.args.self.now) (bare_disk c.bare_fill.new.self) c.bare_fill.ensures.stays

pub returns-clause-filled : goal.returns-clause-filled
returns-clause-filled g c =
    let m = c.args.self.now.marks in let n = c.bare_fill.new.self.marks in let s = bare_disk c.args.self.now in let t = bare_disk c.bare_fill.new.self in
    if_oks c.bare_fill.result c.bare_fill.ensures.filled c.bare_fill.ensures.marks (λ how h k. (is-open-marked m s c.args.entry h.0, fills-marked m n s t c.args.entry c.args.bytes.now c.args.from_run how k h.1))

pub returns-clause-closed : goal.returns-clause-closed
returns-clause-closed g c =
    let m = c.args.self.now.marks in let n = c.bare_fill.new.self.marks in let s = bare_disk c.args.self.now in let t = bare_disk c.bare_fill.new.self in
    on_errs c.bare_fill.result c.bare_fill.ensures.closed c.bare_fill.ensures.forgotten (λ h k is. let o = is-open-alone m s c.args.entry is in closes-marked m n s t c.args.entry.number (k o).others (h o))

pub returns-clause-kept : goal.returns-clause-kept
returns-clause-kept g c =
    let m = c.args.self.now.marks in let n = c.bare_fill.new.self.marks in let s = bare_disk c.args.self.now in let t = bare_disk c.bare_fill.new.self in
    on_errs c.bare_fill.result c.bare_fill.ensures.kept c.bare_fill.ensures.marks_stay (λ h k. same-files m n s t k h)

pub returns-clause-forgotten : goal.returns-clause-forgotten
returns-clause-forgotten g c = on_err c.bare_fill.result c.bare_fill.ensures.forgotten (λ k is. k (is-open-alone c.args.self.now.marks (bare_disk c.args.self.now) c.args.entry is))

pub returns-clause-not_open : goal.returns-clause-not_open
returns-clause-not_open g c = if_errs c.bare_fill.result c.bare_fill.ensures.not_open (λ refused h e. let x = h e in ((λ is. x.0 (is-open-alone c.args.self.now.marks (bare_disk c.args.self.now) c.args.entry is)), x.1))

pub returns-clause-open : goal.returns-clause-open
returns-clause-open g c never = c.bare_fill.ensures.open (λ is. never (is-open-marked c.args.self.now.marks (bare_disk c.args.self.now) c.args.entry is))
