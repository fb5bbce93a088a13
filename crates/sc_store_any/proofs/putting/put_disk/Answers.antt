use Rattle.std.proofs.Common.{subst}
use Rattle.sc_store_disk.specs.Entries.{FillsBy}
use Rattle.sc_store_disk.specs.Marked.{MarksFilled}
use Rattle.sc_store_disk.specs.Marks.{filled_by}
use Rattle.sc_store_disk.specs.declared.filling.Filling.{Filling}
use Rattle.sc_store_disk.specs.declared.filling.Filling.TheVariants.{Filled, Refused}
use Rattle.sc_store_alone.proofs.DiskPuts.{Opened, alone_then, closed_again, if_all, keeps_alone, marks_put, none_opened, not_filled, not_opened, refused_fill, still_open, was_opened, was_put}
use Rattle.sc_store.specs.Held.{disk_in, marks_in}
use Rattle.sc_store_any.proofs.putting.put_disk.Goals as goal

pub returns-in-Refused-clause-wrote : goal.returns-in-Refused-clause-wrote
returns-in-Refused-clause-wrote g c =
    let l = c.args.level in
    let key = c.args.key.now in
    let bytes = c.args.bytes.now in
    let old = c.args.levels.now in
    let mid = c.reserve.new.self in
    let r = c.in_ok-entry.ensures in (
      r.alone,
      not_opened old.policy key c.len.result bytes c.args.mark c.in_ok-entry.field-0 c.in-Refused.cause (disk_in old l) (disk_in mid l) c.len.ensures c.in-Refused.is r.later r.moved r.entry r.cause,
      none_opened c.in-Refused.cause c.in_ok-entry.field-0 (marks_in old.marks l) (marks_in mid.marks l) c.in-Refused.is r.marks,
    )

pub returns-in-Refused-2-clause-wrote : goal.returns-in-Refused-2-clause-wrote
returns-in-Refused-2-clause-wrote g c =
    let l = c.args.level in
    let key = c.args.key.now in
    let bytes = c.args.bytes.now in
    let old = c.args.levels.now in
    let mid = c.reserve.new.self in
    let new = c.fill.new.levels in
    let r = c.in_ok-entry.ensures in
    let o : Opened old.policy key c.len.result c.in-Open.entry (disk_in old l) (disk_in mid l) = was_opened l old mid key c.len.result c.in_ok-entry.field-0 c.in-Open.entry c.in-Open.is r.alone r.later r.moved r.entry r.cause in
    let f = c.in_ok-entry-2.ensures in
    let fills : FillsBy c.in-Open.entry bytes (filled_by c.args.mark) (Refused c.in-Refused-2.cause) (disk_in mid l) (disk_in new l) = subst (λ (x : Filling). FillsBy c.in-Open.entry bytes (filled_by c.args.mark) x (disk_in mid l) (disk_in new l)) c.in-Refused-2.is f.filled in
    let marks : MarksFilled c.in-Open.entry.number c.args.mark (Refused c.in-Refused-2.cause) (marks_in mid.marks l) (marks_in new.marks l) = subst (λ (x : Filling). MarksFilled c.in-Open.entry.number c.args.mark x (marks_in mid.marks l) (marks_in new.marks l)) c.in-Refused-2.is f.marks in (
      alone_then l old mid new r.alone f.alone,
      refused_fill old.policy key c.len.result c.in-Open.entry bytes c.args.mark c.in-Refused-2.cause (disk_in old l) (disk_in mid l) (disk_in new l) c.len.ensures o f.later fills,
      not_filled c.in-Open.entry c.in-Refused-2.cause c.in_ok-entry.field-0 (marks_in old.marks l) (marks_in mid.marks l) (marks_in new.marks l) c.in-Open.entry.number c.args.mark c.in-Open.is r.marks marks,
    )

pub commit-requires-clause-open : goal.commit-requires-clause-open
commit-requires-clause-open g c =
    let l = c.args.level in
    let key = c.args.key.now in
    let bytes = c.args.bytes.now in
    let old = c.args.levels.now in
    let mid = c.reserve.new.self in
    let new = c.fill.new.levels in
    let r = c.in_ok-entry.ensures in
    let o : Opened old.policy key c.len.result c.in-Open.entry (disk_in old l) (disk_in mid l) = was_opened l old mid key c.len.result c.in_ok-entry.field-0 c.in-Open.entry c.in-Open.is r.alone r.later r.moved r.entry r.cause in
    let f = c.in_ok-entry-2.ensures in
    let fills : FillsBy c.in-Open.entry bytes (filled_by c.args.mark) (Filled c.in-Filled.entry) (disk_in mid l) (disk_in new l) = subst (λ (x : Filling). FillsBy c.in-Open.entry bytes (filled_by c.args.mark) x (disk_in mid l) (disk_in new l)) c.in-Filled.is f.filled in
    still_open old.policy key c.len.result c.in-Open.entry c.in-Filled.entry bytes c.args.mark (disk_in old l) (disk_in mid l) (disk_in new l) o fills

pub returns-clause-keeps : goal.returns-clause-keeps
returns-clause-keeps g c =
    let l = c.args.level in
    let key = c.args.key.now in
    let bytes = c.args.bytes.now in
    let old = c.args.levels.now in
    let mid = c.reserve.new.self in
    let next = c.fill.new.levels in
    let new = c.commit.new.levels in
    let r = c.in_ok-entry.ensures in
    let o : Opened old.policy key c.len.result c.in-Open.entry (disk_in old l) (disk_in mid l) = was_opened l old mid key c.len.result c.in_ok-entry.field-0 c.in-Open.entry c.in-Open.is r.alone r.later r.moved r.entry r.cause in
    let f = c.in_ok-entry-2.ensures in
    let fills : FillsBy c.in-Open.entry bytes (filled_by c.args.mark) (Filled c.in-Filled.entry) (disk_in mid l) (disk_in next l) = subst (λ (x : Filling). FillsBy c.in-Open.entry bytes (filled_by c.args.mark) x (disk_in mid l) (disk_in next l)) c.in-Filled.is f.filled in
    keeps_alone l old new (alone_then l old next new (alone_then l old mid next r.alone f.alone) c.commit.ensures.alone)
    (closed_again old.policy key c.len.result c.in-Open.entry c.in-Filled.entry bytes c.args.mark (disk_in old l) (disk_in mid l) (disk_in next l) (disk_in new l) o fills c.commit.ensures.closed)

pub returns-clause-wrote : goal.returns-clause-wrote
returns-clause-wrote g c =
    let l = c.args.level in
    let key = c.args.key.now in
    let bytes = c.args.bytes.now in
    let old = c.args.levels.now in
    let mid = c.reserve.new.self in
    let next = c.fill.new.levels in
    let new = c.commit.new.levels in
    let r = c.in_ok-entry.ensures in
    let o : Opened old.policy key c.len.result c.in-Open.entry (disk_in old l) (disk_in mid l) = was_opened l old mid key c.len.result c.in_ok-entry.field-0 c.in-Open.entry c.in-Open.is r.alone r.later r.moved r.entry r.cause in
    let f = c.in_ok-entry-2.ensures in
    let fills : FillsBy c.in-Open.entry bytes (filled_by c.args.mark) (Filled c.in-Filled.entry) (disk_in mid l) (disk_in next l) = subst (λ (x : Filling). FillsBy c.in-Open.entry bytes (filled_by c.args.mark) x (disk_in mid l) (disk_in next l)) c.in-Filled.is f.filled in
    let e = c.commit.ensures in
    let marks : MarksFilled c.in-Open.entry.number c.args.mark (Filled c.in-Filled.entry) (marks_in mid.marks l) (marks_in next.marks l) = subst (λ (x : Filling). MarksFilled c.in-Open.entry.number c.args.mark x (marks_in mid.marks l) (marks_in next.marks l)) c.in-Filled.is f.marks in
    if_all c.commit.result (λ how commits cause settled. (
      alone_then l old next new (alone_then l old mid next r.alone f.alone) e.alone,
      was_put old.policy key c.len.result c.in-Open.entry c.in-Filled.entry bytes c.args.mark how (disk_in old l) (disk_in mid l) (disk_in next l) (disk_in new l) c.len.ensures o f.later f.alone.told fills e.later e.closed commits cause,
      marks_put old.policy key c.len.result c.in-Open.entry c.in-Filled.entry bytes (disk_in old l) (disk_in mid l) (disk_in next l) c.in_ok-entry.field-0 c.args.mark how (marks_in old.marks l) (marks_in mid.marks l) (marks_in next.marks l) (marks_in new.marks l) (disk_in new l) o fills c.in-Open.is r.marks marks settled,
    )) e.committed e.cause e.marks
