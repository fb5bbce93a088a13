use Rattle.std.proofs.Common.{rules, length, ◌<◌, ◌≡◌, map, slice_index_or, slice_set, ap, sym, subst, ◌∙◌}
use Rattle.sc_store_disk.specs.Moving.{EvictsFor, SameEntries}
use Rattle.sc_model.specs.WriteCauses.{early_cause}
use Rattle.sc_store.specs.Asking.{PreCauseAt, PutsPre}
use Rattle.sc_store.specs.Held.{AreWithin, disk_in, disk_of, held_of}
use Rattle.sc_store.specs.Levels.{held_level}
use Rattle.sc_store.proofs.Alone.{Alone, within_stores, stays_within, alone_moved, disk_at, if_ok, later_at, marks_at, moved, unmoved}
use Rattle.sc_store.proofs.Disks.{evicts_telling, on_err, pre_cause_at_telling, puts_pre_telling, same_telling}
use Rattle.sc_store.proofs.levels.Layered.put_pre_step.Goals as goal

pub returns : goal.returns
returns g c =
    let old = c.args.self.now in
    let l = c.args.level in
    let stores = c.self.inside.levels.items in
    let policy = c.self.inside.policy in
    let store = c.index_mut.result.now in
    let later = c.put_pre.new.self in
    let e = c.put_pre.ensures in
    let before = held_level store in
    let after = held_level later in
    let new = held_of (map held_level (slice_set stores l later)) policy in
    let here : store ≡ slice_index_or stores l store = search rules in
    let m : Alone old new l before after = moved held_level old policy stores l store later c.self.view_is c.requires here e.title e.facts e.told in
    let by : policy ≡ old.policy = ap (λ h. h.policy) c.self.view_is in
    let key = c.args.key.now in
    let bytes = c.args.bytes.now in
    record {
      marks = marks_at (λ a b. b ≡ a) old new l before after m e.marks;
      alone = alone_moved old new l before after m;
      later = later_at old new l before after m e.later;
      entries = disk_at SameEntries old new l before after m e.facts (same_telling old.told new.told (disk_of before) (disk_of after) m.tells e.entries);
      put = if_ok c.put_pre.result (λ how h. subst (λ p. PutsPre p key bytes how (disk_in old l) (disk_in new l)) by (disk_at (PutsPre policy key bytes how) old new l before after m e.facts
          (puts_pre_telling old.told new.told (disk_of before) (disk_of after) m.tells policy key bytes how h))) e.put;
      evicts = on_err c.put_pre.result (λ h. disk_at (EvictsFor (length bytes)) old new l before after m e.facts (evicts_telling old.told new.told (disk_of before) (disk_of after) m.tells (length bytes) h)) e.evicts;
      cause = if_ok c.put_pre.result (λ how h. subst (λ p. PreCauseAt p key bytes how (disk_in old l) (disk_in new l)) by (disk_at (PreCauseAt policy key bytes how) old new l before after m e.facts
          (pre_cause_at_telling old.told new.told (disk_of before) (disk_of after) m.tells policy key bytes how h))) e.cause;
      early = λ kind cause is.
          let h = e.early (ap (λ f. f.kind) (sym m.facts_were) ∙ kind) cause (ap (λ p. early_cause p before.facts key) by ∙ ap (λ f. early_cause old.policy f key) (sym m.facts_were) ∙ is) in
          (h.0, unmoved held_level old policy stores l store later c.self.view_is c.requires here h.1);
      remote = λ kind bare.
          let h = e.remote (ap (λ f. f.kind) (sym m.facts_were) ∙ kind) (ap (λ f. f.wrapped) (sym m.facts_were) ∙ bare) in
          (h.0, unmoved held_level old policy stores l store later c.self.view_is c.requires here h.1);
      only_read = λ wrapped.
          let h = e.only_read (ap (λ f. f.wrapped) (sym m.facts_were) ∙ wrapped) in
          (h.0, unmoved held_level old policy stores l store later c.self.view_is c.requires here h.1);
    }

pub invariant_of-self : goal.invariant_of-self
invariant_of-self g c =
    let old = c.args.self.now in
    let l = c.args.level in
    let stores = c.self.inside.levels.items in
    let policy = c.self.inside.policy in
    let store = c.index_mut.result.now in
    let later = c.put_pre.new.self in
    let e = c.put_pre.ensures in
    let before = held_level store in
    let after = held_level later in
    let new = held_of (map held_level (slice_set stores l later)) policy in
    let here : store ≡ slice_index_or stores l store = search rules in
    let m : Alone old new l before after = moved held_level old policy stores l store later c.self.view_is c.requires here e.title e.facts e.told in
    stays_within old new l before after m e.facts e.within (subst AreWithin c.self.view_is c.self.invariant)

pub index_mut-requires : goal.index_mut-requires
index_mut-requires g c =
    let here : c.args.level < length c.self.inside.levels.items = within_stores held_level c.self.inside.policy c.self.inside.levels.items c.args.level (subst (λ h. c.args.level < length h.levels) (sym c.self.view_is) c.requires) in
    search rules
