use Rattle.std.proofs.Common.{rules, length, ◌<◌, ◌≡◌, map, slice_index_or, slice_set, ap, sym, subst, ◌∙◌}
use Rattle.sc_store_disk.specs.DiskStores.{entry_at}
use Rattle.sc_store_disk.specs.Entries.{ClosesEntry, FillsBy, IsOpenAt}
use Rattle.sc_store_disk.specs.Marked.{MarksFilled}
use Rattle.sc_store_disk.specs.Marks.{Forgets, filled_by}
use Rattle.sc_store.specs.Held.{AreWithin, disk_in, disk_of, held_of}
use Rattle.sc_store.specs.Levels.{held_level}
use Rattle.sc_store.proofs.Alone.{Alone, facts_at, within_stores, stays_within, alone_moved, disk_at, if_ok, files_at, later_at, marks_at, moved, unmoved}
use Rattle.sc_store.proofs.Disks.{closes_telling, fills_telling, if_err, on_err}
use Rattle.sc_store.proofs.levels.Layered.fill.Goals as goal

pub returns : goal.returns
returns g c =
    let old = c.args.self.now in
    let l = c.args.level in
    let stores = c.self.inside.levels.items in
    let policy = c.self.inside.policy in
    let store = c.index_mut.result.now in
    let later = c.fill.new.self in
    let e = c.fill.ensures in
    let before = held_level store in
    let after = held_level later in
    let new = held_of (map held_level (slice_set stores l later)) policy in
    let here : store ≡ slice_index_or stores l store = search rules in
    let m : Alone old new l before after = moved held_level old policy stores l store later c.self.view_is c.requires.level here e.title e.facts e.told in
    let entry = c.args.entry in
    let open_before : IsOpenAt entry (disk_in old l) → IsOpenAt entry (disk_of before) = λ o. (o.0, (o.1.0, ap (λ r. entry_at r.entries entry.number) (sym m.room_was) ∙ o.1.1, o.1.2)) in
    let open_in : IsOpenAt entry (disk_of before) → IsOpenAt entry (disk_in old l) = λ o. (o.0, (o.1.0, ap (λ r. entry_at r.entries entry.number) m.room_was ∙ o.1.1, o.1.2)) in
    record {
      marks = if_ok c.fill.result (λ how h. marks_at (λ a b. MarksFilled entry.number c.args.from_run how a b) old new l before after m h) e.marks;
      forgotten = on_err c.fill.result (λ h o. marks_at (λ a b. Forgets entry.number a b) old new l before after m (h (open_before o))) e.forgotten;
      alone = alone_moved old new l before after m;
      later = later_at old new l before after m e.later;
      filled = if_ok c.fill.result (λ how h. (open_in h.0, disk_at (FillsBy entry c.args.bytes.now (filled_by c.args.from_run) how) old new l before after m e.facts (fills_telling old.told new.told (disk_of before) (disk_of after) m.tells entry c.args.bytes.now (filled_by c.args.from_run) how h.1))) e.filled;
      closed = on_err c.fill.result (λ h o. disk_at (ClosesEntry entry.number) old new l before after m e.facts (closes_telling old.told new.told (disk_of before) (disk_of after) m.tells entry.number (h (open_before o)))) e.closed;
      kept = on_err c.fill.result (files_at old new l before after m) e.kept;
      not_open = if_err c.fill.result (λ refused h is. (λ o. (h is).0 (open_before o), unmoved held_level old policy stores l store later c.self.view_is c.requires.level here (h is).1)) e.not_open;
      shut = λ o. e.shut (λ x. o (open_in x));
    }

pub invariant_of-self : goal.invariant_of-self
invariant_of-self g c =
    let old = c.args.self.now in
    let l = c.args.level in
    let stores = c.self.inside.levels.items in
    let policy = c.self.inside.policy in
    let store = c.index_mut.result.now in
    let later = c.fill.new.self in
    let e = c.fill.ensures in
    let before = held_level store in
    let after = held_level later in
    let new = held_of (map held_level (slice_set stores l later)) policy in
    let here : store ≡ slice_index_or stores l store = search rules in
    let m : Alone old new l before after = moved held_level old policy stores l store later c.self.view_is c.requires.level here e.title e.facts e.told in
    stays_within old new l before after m e.facts e.within (subst AreWithin c.self.view_is c.self.invariant)

pub index_mut-requires : goal.index_mut-requires
index_mut-requires g c =
    let here : c.args.level < length c.self.inside.levels.items = within_stores held_level c.self.inside.policy c.self.inside.levels.items c.args.level (subst (λ h. c.args.level < length h.levels) (sym c.self.view_is) c.requires.level) in
    search rules

pub fill-requires : goal.fill-requires
fill-requires g c =
    let stores = c.self.inside.levels.items in
    let here : c.index_mut.result.now ≡ slice_index_or stores c.args.level c.index_mut.result.now = search rules in
    let same = facts_at held_level c.args.self.now c.self.inside.policy stores c.args.level c.index_mut.result.now c.self.view_is c.requires.level here in
    ap (λ f. f.kind) (sym same) ∙ c.requires.disk
