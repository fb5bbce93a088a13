use Rattle.std.proofs.Common.{false, subst, ◌∙◌}
use Rattle.sc_store_disk.specs.Entries.{FillsBy}
use Rattle.sc_store_disk.specs.Marked.{MarksFilled}
use Rattle.sc_store_disk.specs.Marks.{filled_by}
use Rattle.sc_store_disk.specs.declared.filling.Filling.{Filling}
use Rattle.sc_store_disk.specs.declared.filling.Filling.TheVariants.{Filled, Refused}
use Rattle.sc_model.specs.declared.level.Policy.TheVariants.{Single}
use Rattle.sc_store_alone.proofs.DiskPuts.{Opened, closed_again, if_all, marks_put, none_opened, not_filled, not_opened, opened_by, refused_fill, still_open, was_put}
use Rattle.sc_store.specs.Held.{disk_of}
use Rattle.sc_store_alone.proofs.disk.put_disk.Goals as goal

pub returns-in-Refused-clause-wrote : goal.returns-in-Refused-clause-wrote
returns-in-Refused-clause-wrote g c =
    let key = c.args.key.now in
    let bytes = c.args.bytes.now in
    let old = disk_of c.args.store.now in
    let mid = disk_of c.reserve.new.self in
    let r = c.in_ok-entry.ensures in (
      not_opened Single key c.len.result bytes false c.in_ok-entry.field-0 c.in-Refused.cause old mid c.len.ensures c.in-Refused.is r.stays.later r.moved r.entry r.cause,
      none_opened c.in-Refused.cause c.in_ok-entry.field-0 c.args.store.now.marks c.reserve.new.self.marks c.in-Refused.is r.marks,
      c.keeps-in-Refused.ensures.within,
    )

pub returns-in-Refused-2-clause-wrote : goal.returns-in-Refused-2-clause-wrote
returns-in-Refused-2-clause-wrote g c =
    let key = c.args.key.now in
    let bytes = c.args.bytes.now in
    let old = disk_of c.args.store.now in
    let mid = disk_of c.reserve.new.self in
    let new = disk_of c.fill.new.store in
    let r = c.in_ok-entry.ensures in
    let o : Opened Single key c.len.result c.in-Open.entry old mid = opened_by Single key c.len.result c.in_ok-entry.field-0 c.in-Open.entry old mid c.in-Open.is r.stays.later r.stays.told r.moved r.entry r.cause in
    let f = c.in_ok-entry-2.ensures in
    let fills : FillsBy c.in-Open.entry bytes (filled_by false) (Refused c.in-Refused-2.cause) mid new = subst (λ (x : Filling). FillsBy c.in-Open.entry bytes (filled_by false) x mid new) c.in-Refused-2.is f.filled in
    let a = c.args.store.now.marks in
    let b = c.reserve.new.self.marks in
    let d = c.fill.new.store.marks in
    let marks : MarksFilled c.in-Open.entry.number false (Refused c.in-Refused-2.cause) b d = subst (λ (x : Filling). MarksFilled c.in-Open.entry.number false x b d) c.in-Refused-2.is f.marks in
    (refused_fill Single key c.len.result c.in-Open.entry bytes false c.in-Refused-2.cause old mid new c.len.ensures o f.stays.later fills, not_filled c.in-Open.entry c.in-Refused-2.cause c.in_ok-entry.field-0 a b d c.in-Open.entry.number false c.in-Open.is r.marks marks, c.keeps-in-Refused-2.ensures.within)

pub commit-how-requires : goal.commit-how-requires
commit-how-requires g c =
    let key = c.args.key.now in
    let bytes = c.args.bytes.now in
    let old = disk_of c.args.store.now in
    let mid = disk_of c.reserve.new.self in
    let new = disk_of c.fill.new.store in
    let r = c.in_ok-entry.ensures in
    let o : Opened Single key c.len.result c.in-Open.entry old mid = opened_by Single key c.len.result c.in_ok-entry.field-0 c.in-Open.entry old mid c.in-Open.is r.stays.later r.stays.told r.moved r.entry r.cause in
    let f = c.in_ok-entry-2.ensures in
    let fills : FillsBy c.in-Open.entry bytes (filled_by false) (Filled c.in-Filled.entry) mid new = subst (λ (x : Filling). FillsBy c.in-Open.entry bytes (filled_by false) x mid new) c.in-Filled.is f.filled in
    still_open Single key c.len.result c.in-Open.entry c.in-Filled.entry bytes false old mid new o fills

pub returns-clause-keeps : goal.returns-clause-keeps
returns-clause-keeps g c =
    let key = c.args.key.now in
    let bytes = c.args.bytes.now in
    let old = disk_of c.args.store.now in
    let mid = disk_of c.reserve.new.self in
    let next = disk_of c.fill.new.store in
    let new = disk_of c.commit-how.new.store in
    let r = c.in_ok-entry.ensures in
    let o : Opened Single key c.len.result c.in-Open.entry old mid = opened_by Single key c.len.result c.in_ok-entry.field-0 c.in-Open.entry old mid c.in-Open.is r.stays.later r.stays.told r.moved r.entry r.cause in
    let f = c.in_ok-entry-2.ensures in
    let fills : FillsBy c.in-Open.entry bytes (filled_by false) (Filled c.in-Filled.entry) mid next = subst (λ (x : Filling). FillsBy c.in-Open.entry bytes (filled_by false) x mid next) c.in-Filled.is f.filled in
    let e = c.commit-how.ensures in
    let same = closed_again Single key c.len.result c.in-Open.entry c.in-Filled.entry bytes false old mid next new o fills e.closed in
    record {
      title = e.title ∙ f.title ∙ r.title;
      facts = e.stays.facts ∙ f.stays.facts ∙ r.stays.facts;
      told = e.stays.told ∙ f.stays.told ∙ r.stays.told;
      reserved = same.reserved;
      entries = same.entries;
    }

pub returns-clause-wrote : goal.returns-clause-wrote
returns-clause-wrote g c =
    let key = c.args.key.now in
    let bytes = c.args.bytes.now in
    let old = disk_of c.args.store.now in
    let mid = disk_of c.reserve.new.self in
    let next = disk_of c.fill.new.store in
    let new = disk_of c.commit-how.new.store in
    let r = c.in_ok-entry.ensures in
    let o : Opened Single key c.len.result c.in-Open.entry old mid = opened_by Single key c.len.result c.in_ok-entry.field-0 c.in-Open.entry old mid c.in-Open.is r.stays.later r.stays.told r.moved r.entry r.cause in
    let f = c.in_ok-entry-2.ensures in
    let fills : FillsBy c.in-Open.entry bytes (filled_by false) (Filled c.in-Filled.entry) mid next = subst (λ (x : Filling). FillsBy c.in-Open.entry bytes (filled_by false) x mid next) c.in-Filled.is f.filled in
    let e = c.commit-how.ensures in
    let a = c.args.store.now.marks in
    let b = c.reserve.new.self.marks in
    let m = c.fill.new.store.marks in
    let d = c.commit-how.new.store.marks in
    let marks : MarksFilled c.in-Open.entry.number false (Filled c.in-Filled.entry) b m = subst (λ (x : Filling). MarksFilled c.in-Open.entry.number false x b m) c.in-Filled.is f.marks in
    if_all c.commit-how.result (λ how commits cause settled. (
      was_put Single key c.len.result c.in-Open.entry c.in-Filled.entry bytes false how old mid next new c.len.ensures o f.stays.later f.stays.told fills e.stays.later e.closed commits cause,
      marks_put Single key c.len.result c.in-Open.entry c.in-Filled.entry bytes old mid next c.in_ok-entry.field-0 false how a b m d new o fills c.in-Open.is r.marks marks settled,
      c.keeps-2.ensures.within,
    )) e.committed e.cause e.marks
