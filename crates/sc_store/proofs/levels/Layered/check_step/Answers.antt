use Rattle.std.proofs.Common.{rules, length, ◌<◌, subst, ◌≡◌, map, slice_index_or, slice_set, sym}
use Rattle.sc_store.specs.Held.{AreWithin, held_of}
use Rattle.sc_store.specs.Levels.{held_level}
use Rattle.sc_store.proofs.Alone.{if_ok, same_marks, same_rooms, within_stores}
use Rattle.sc_store.proofs.Disks.{on_err}
use Rattle.sc_store.proofs.Checking.{Turned, alone_turned, checks_at, facts_found, facts_kept, later_turned, turned, turned_within}
use Rattle.sc_store.proofs.levels.Layered.check_step.Goals as goal

pub returns : goal.returns
returns g c =
    let old = c.args.self.now in
    let l = c.args.level in
    let stores = c.self.inside.levels.items in
    let policy = c.self.inside.policy in
    let store = c.index_mut.result.now in
    let later = c.check.new.self in
    let e = c.check.ensures in
    let new = held_of (map held_level (slice_set stores l later)) policy in
    let here : store ≡ slice_index_or stores l store = search rules in
    let m : Turned old new l (held_level store) (held_level later) = turned held_level old policy stores l store later c.self.view_is c.requires here e.title e.told in
    record {
      titles = m.titles;
      facts = if_ok c.check.result (λ answer. facts_found old new l (held_level store) (held_level later) answer m) e.facts;
      facts_stay = on_err c.check.result (facts_kept old new l (held_level store) (held_level later) m) e.facts_stay;
      policy = m.policy;
      told = m.told;
      marks = same_marks held_level old policy stores l store later c.self.view_is c.requires here e.marks;
      rooms = same_rooms held_level old policy stores l store later c.self.view_is c.requires here e.room;
      alone = alone_turned old new l (held_level store) (held_level later) m;
      later = later_turned old new l (held_level store) (held_level later) m e.later;
      checked = if_ok c.check.result (λ answer. checks_at old new l (held_level store) (held_level later) answer m) e.checked;
    }

pub invariant_of-self : goal.invariant_of-self
invariant_of-self g c =
    let old = c.args.self.now in
    let l = c.args.level in
    let stores = c.self.inside.levels.items in
    let policy = c.self.inside.policy in
    let store = c.index_mut.result.now in
    let later = c.check.new.self in
    let e = c.check.ensures in
    let new = held_of (map held_level (slice_set stores l later)) policy in
    let here : store ≡ slice_index_or stores l store = search rules in
    let m : Turned old new l (held_level store) (held_level later) = turned held_level old policy stores l store later c.self.view_is c.requires here e.title e.told in
    turned_within old new l (held_level store) (held_level later) m e.within (subst AreWithin c.self.view_is c.self.invariant)

pub index_mut-requires : goal.index_mut-requires
index_mut-requires g c =
    let here : c.args.level < length c.self.inside.levels.items = within_stores held_level c.self.inside.policy c.self.inside.levels.items c.args.level (subst (λ h. c.args.level < length h.levels) (sym c.self.view_is) c.requires) in
    search rules
