use Rattle.std.proofs.Common.{rules, length, ◌<◌, ◌≡◌, map, slice_index_or, slice_set, ap, sym, subst, ◌∙◌}
use Rattle.sc_store_disk.specs.DiskStores.{entry_path}
use Rattle.sc_store_disk.specs.Marked.{MarksOpened}
use Rattle.sc_store_disk.specs.Moving.{EvictsFor, OpensBy, SameEntries}
use Rattle.sc_model.specs.WriteCauses.{early_cause}
use Rattle.sc_store.specs.Asking.{ReservesDisk}
use Rattle.sc_store.specs.Held.{AreWithin, disk_in, disk_of, held_of}
use Rattle.sc_store.specs.Levels.{held_level}
use Rattle.sc_store.proofs.Alone.{Alone, facts_at, within_stores, stays_within, alone_moved, disk_at, if_ok, later_at, marks_at, moved, reserve_cause_at, unmoved}
use Rattle.sc_store.proofs.Disks.{evicts_telling, on_err, opens_telling, reserves_telling, same_telling}
use Rattle.sc_store.proofs.levels.Layered.reserve.Goals as goal

pub returns : goal.returns
returns g c =
    let old = c.args.self.now in
    let l = c.args.level in
    let stores = c.self.inside.levels.items in
    let policy = c.self.inside.policy in
    let store = c.index_mut.result.now in
    let later = c.reserve.new.self in
    let e = c.reserve.ensures in
    let before = held_level store in
    let after = held_level later in
    let new = held_of (map held_level (slice_set stores l later)) policy in
    let here : store ≡ slice_index_or stores l store = search rules in
    let m : Alone old new l before after = moved held_level old policy stores l store later c.self.view_is c.requires.level here e.title e.facts e.told in
    let by : policy ≡ old.policy = ap (λ h. h.policy) c.self.view_is in
    let key = c.args.key.now in
    record {
      marks = if_ok c.reserve.result (λ how h. marks_at (λ a b. MarksOpened how a b) old new l before after m h) e.marks;
      marks_stay = on_err c.reserve.result (λ h. marks_at (λ a b. b ≡ a) old new l before after m h) e.marks_stay;
      alone = alone_moved old new l before after m;
      later = later_at old new l before after m e.later;
      moved = if_ok c.reserve.result (λ how h. subst (λ p. ReservesDisk p key c.args.size how (disk_in old l) (disk_in new l)) by (disk_at (ReservesDisk policy key c.args.size how) old new l before after m e.facts
          (reserves_telling old.told new.told (disk_of before) (disk_of after) m.tells policy key c.args.size how h))) e.moved;
      entry = if_ok c.reserve.result (λ how h. disk_at (OpensBy (entry_path key) c.args.size how) old new l before after m e.facts (opens_telling old.told new.told (disk_of before) (disk_of after) m.tells (entry_path key) c.args.size how h)) e.entry;
      kept = on_err c.reserve.result (λ h. disk_at SameEntries old new l before after m e.facts (same_telling old.told new.told (disk_of before) (disk_of after) m.tells h)) e.kept;
      evicts = on_err c.reserve.result (λ h. disk_at (EvictsFor c.args.size) old new l before after m e.facts (evicts_telling old.told new.told (disk_of before) (disk_of after) m.tells c.args.size h)) e.evicts;
      cause = if_ok c.reserve.result (λ how. reserve_cause_at old new l before after policy key c.args.size how by m) e.cause;
      early = λ cause is.
          let h = e.early cause (ap (λ p. early_cause p before.facts key) by ∙ ap (λ f. early_cause old.policy f key) (sym m.facts_were) ∙ is) in
          (h.0, unmoved held_level old policy stores l store later c.self.view_is c.requires.level here h.1);
    }

pub invariant_of-self : goal.invariant_of-self
invariant_of-self g c =
    let old = c.args.self.now in
    let l = c.args.level in
    let stores = c.self.inside.levels.items in
    let policy = c.self.inside.policy in
    let store = c.index_mut.result.now in
    let later = c.reserve.new.self in
    let e = c.reserve.ensures in
    let before = held_level store in
    let after = held_level later in
    let new = held_of (map held_level (slice_set stores l later)) policy in
    let here : store ≡ slice_index_or stores l store = search rules in
    let m : Alone old new l before after = moved held_level old policy stores l store later c.self.view_is c.requires.level here e.title e.facts e.told in
    stays_within old new l before after m e.facts e.within (subst AreWithin c.self.view_is c.self.invariant)

pub index_mut-requires : goal.index_mut-requires
index_mut-requires g c =
    let here : c.args.level < length c.self.inside.levels.items = within_stores held_level c.self.inside.policy c.self.inside.levels.items c.args.level (subst (λ h. c.args.level < length h.levels) (sym c.self.view_is) c.requires.level) in
    search rules

pub reserve-requires : goal.reserve-requires
reserve-requires g c =
    let stores = c.self.inside.levels.items in
    let here : c.index_mut.result.now ≡ slice_index_or stores c.args.level c.index_mut.result.now = search rules in
    let same = facts_at held_level c.args.self.now c.self.inside.policy stores c.args.level c.index_mut.result.now c.self.view_is c.requires.level here in
    ap (λ f. f.kind) (sym same) ∙ c.requires.disk
