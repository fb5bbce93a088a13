use Rattle.std.proofs.Common.{rules, length, ◌<◌, subst, ◌≡◌, map, slice_index_or, slice_set, ap, sym, ◌∙◌}
use Rattle.sc_store.specs.Asking.{Fewer}
use Rattle.sc_store.specs.Held.{AreWithin, held_of}
use Rattle.sc_store.specs.Levels.{held_level}
use Rattle.sc_store.proofs.Alone.{Alone, within_stores, stays_within, alone_at, asks_at, cause_at, if_ok, later_at, marks_alone, marks_asked_at, marks_at, moved, same_rooms, tells_at, unmoved}
use Rattle.sc_store.proofs.levels.Layered.ask.Goals as goal

pub returns : goal.returns
returns g c =
    let old = c.args.self.now in
    let l = c.args.level in
    let stores = c.self.inside.levels.items in
    let policy = c.self.inside.policy in
    let store = c.index_mut.result.now in
    let later = c.ask.new.self in
    let e = c.ask.ensures in
    let new = held_of (map held_level (slice_set stores l later)) policy in
    let here : store ≡ slice_index_or stores l store = search rules in
    let m : Alone old new l (held_level store) (held_level later) = moved held_level old policy stores l store later c.self.view_is c.requires.level here e.title e.facts e.told in
    record {
      mark = λ reads. if_ok c.ask.result (λ answer. tells_at old new l (held_level store) (held_level later) c.args.key.now answer m) (e.mark reads);
      marks = if_ok c.ask.result (λ answer. marks_asked_at old new l (held_level store) (held_level later) c.args.mode c.args.key.now answer m) e.marks;
      marks_alone = marks_alone old new l (held_level store) (held_level later) m;
      fewer = marks_at Fewer old new l (held_level store) (held_level later) m e.fewer;
      titles = m.titles;
      facts = m.facts;
      policy = m.policy;
      told = m.told;
      rooms = same_rooms held_level old policy stores l store later c.self.view_is c.requires.level here e.room;
      alone = alone_at old new l (held_level store) (held_level later) m;
      later = later_at old new l (held_level store) (held_level later) m e.later;
      asked = if_ok c.ask.result (λ answer. asks_at old new l (held_level store) (held_level later) c.args.key.now c.args.mode answer m) e.asked;
      cause = if_ok c.ask.result (λ answer. cause_at old new l (held_level store) (held_level later) c.args.key.now c.args.mode answer m) e.cause;
      bad_key = λ reads bad. ((e.bad_key reads bad).0, unmoved held_level old policy stores l store later c.self.view_is c.requires.level here (e.bad_key reads bad).1);
      no_read = λ kind reads. let h = e.no_read (ap (λ f. f.kind) (sym m.facts_were) ∙ kind) reads in (h.0, unmoved held_level old policy stores l store later c.self.view_is c.requires.level here h.1);
    }

pub invariant_of-self : goal.invariant_of-self
invariant_of-self g c =
    let old = c.args.self.now in
    let l = c.args.level in
    let stores = c.self.inside.levels.items in
    let policy = c.self.inside.policy in
    let store = c.index_mut.result.now in
    let later = c.ask.new.self in
    let e = c.ask.ensures in
    let new = held_of (map held_level (slice_set stores l later)) policy in
    let here : store ≡ slice_index_or stores l store = search rules in
    let m : Alone old new l (held_level store) (held_level later) = moved held_level old policy stores l store later c.self.view_is c.requires.level here e.title e.facts e.told in
    stays_within old new l (held_level store) (held_level later) m e.facts e.within (subst AreWithin c.self.view_is c.self.invariant)

pub index_mut-requires : goal.index_mut-requires
index_mut-requires g c =
    let here : c.args.level < length c.self.inside.levels.items = within_stores held_level c.self.inside.policy c.self.inside.levels.items c.args.level (subst (λ h. c.args.level < length h.levels) (sym c.self.view_is) c.requires.level) in
    search rules
