use Rattle.sc_store_disk.specs.DiskStores.{bare_disk}
use Rattle.sc_store_disk.proofs.Lending.{if_errs, if_oks, on_err, on_errs}
use Rattle.sc_store_disk.proofs.Askings.{if_ok}
use Rattle.sc_store_disk.proofs.StoreMarks.{cause-marked, commits-marked, committed-closes, committed-told, is-open-alone, is-open-marked, nothing-marked, open-path, stays-marked}
use Rattle.sc_store_disk.proofs.entry_cache.EntryCache.commit.Goals as goal

pub returns-clause-stays : goal.returns-clause-stays
returns-clause-stays g c = stays-marked c.args.self.now.marks c.bare_commit.new.self.marks (bare_disk c.args.self.now) (bare_disk c.bare_commit.new.self) c.bare_commit.ensures.stays

pub returns-clause-closed : goal.returns-clause-closed
returns-clause-closed g c is =
    let m = c.args.self.now.marks in let n = c.bare_commit.new.self.marks in let s = bare_disk c.args.self.now in let t = bare_disk c.bare_commit.new.self in
    let o = is-open-alone m s c.args.entry is in
    committed-closes m n s t c.args.entry.number c.args.entry.key c.bare_commit.result c.bare_commit.ensures.marks (on_err c.bare_commit.result c.bare_commit.ensures.forgotten (λ k. k o)) (c.bare_commit.ensures.closed o)

pub returns-clause-committed : goal.returns-clause-committed
returns-clause-committed g c =
    let m = c.args.self.now.marks in let n = c.bare_commit.new.self.marks in let s = bare_disk c.args.self.now in let t = bare_disk c.bare_commit.new.self in
    if_oks c.bare_commit.result c.bare_commit.ensures.committed c.bare_commit.ensures.marks (λ how h k. (
      is-open-marked m s c.args.entry h.0,
      commits-marked m n s t c.args.entry.number c.args.entry.key how (open-path s c.args.entry h.0) c.bare_commit.ensures.stays.told k h.1,
    ))

pub returns-clause-cause : goal.returns-clause-cause
returns-clause-cause g c = if_ok c.bare_commit.result c.bare_commit.ensures.cause (λ how h. cause-marked c.args.self.now.marks c.bare_commit.new.self.marks (bare_disk c.args.self.now) (bare_disk c.bare_commit.new.self) c.args.entry.number how h)

pub returns-clause-kept : goal.returns-clause-kept
returns-clause-kept g c = on_errs c.bare_commit.result c.bare_commit.ensures.kept c.bare_commit.ensures.marks_stay (λ h k. nothing-marked c.args.self.now.marks c.bare_commit.new.self.marks (bare_disk c.args.self.now) (bare_disk c.bare_commit.new.self) c.args.entry.number k h)

pub returns-clause-marks : goal.returns-clause-marks
returns-clause-marks g c = if_ok c.bare_commit.result c.bare_commit.ensures.marks (λ how k. committed-told c.args.self.now.marks c.bare_commit.new.self.marks c.bare_commit.new.self.marks (bare_disk c.bare_commit.new.self) c.args.entry.number c.args.entry.key how k)

pub returns-clause-forgotten : goal.returns-clause-forgotten
returns-clause-forgotten g c = on_err c.bare_commit.result c.bare_commit.ensures.forgotten (λ k is. k (is-open-alone c.args.self.now.marks (bare_disk c.args.self.now) c.args.entry is))

pub returns-clause-not_open : goal.returns-clause-not_open
returns-clause-not_open g c = if_errs c.bare_commit.result c.bare_commit.ensures.not_open (λ refused h e. let x = h e in ((λ is. x.0 (is-open-alone c.args.self.now.marks (bare_disk c.args.self.now) c.args.entry is)), x.1))

pub returns-clause-open : goal.returns-clause-open
returns-clause-open g c never = c.bare_commit.ensures.open (λ is. never (is-open-marked c.args.self.now.marks (bare_disk c.args.self.now) c.args.entry is))
