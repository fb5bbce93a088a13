use Rattle.std.proofs.Common.{rules, length, ◌<◌, subst, ◌≡◌, map, slice_index_or, slice_set, ap, sym, ◌∙◌}
use Rattle.sc_model.specs.WriteCauses.{early_cause}
use Rattle.sc_store.specs.Asking.{Fewer, MarksWrote}
use Rattle.sc_store.specs.Held.{AreWithin, held_of}
use Rattle.sc_store.specs.Levels.{held_level}
use Rattle.sc_store.proofs.Alone.{Alone, facts_at, within_stores, stays_within, alone_at, if_ok, later_at, marks_alone, marks_at, moved, put_cause_at, puts_at, same_rooms, unmoved}
use Rattle.sc_store.proofs.Disks.{on_err}
use Rattle.sc_store.proofs.levels.Layered.put_step.Goals as goal

pub returns : goal.returns
returns g c =
    let old = c.args.self.now in
    let l = c.args.level in
    let key = c.args.key.now in
    let stores = c.self.inside.levels.items in
    let policy = c.self.inside.policy in
    let store = c.index_mut.result.now in
    let later = c.put_step.new.self in
    let e = c.put_step.ensures in
    let new = held_of (map held_level (slice_set stores l later)) policy in
    let here : store ≡ slice_index_or stores l store = search rules in
    let m : Alone old new l (held_level store) (held_level later) = moved held_level old policy stores l store later c.self.view_is c.requires.level here e.title e.facts e.told in
    let by : policy ≡ old.policy = ap (λ h. h.policy) c.self.view_is in
    record {
      marks = if_ok c.put_step.result (λ how. marks_at (MarksWrote key c.args.from_run how) old new l (held_level store) (held_level later) m) e.marks;
      marks_alone = marks_alone old new l (held_level store) (held_level later) m;
      fewer = on_err c.put_step.result (marks_at Fewer old new l (held_level store) (held_level later) m) e.fewer;
      titles = m.titles;
      facts = m.facts;
      policy = m.policy;
      told = m.told;
      rooms = same_rooms held_level old policy stores l store later c.self.view_is c.requires.level here e.room;
      alone = alone_at old new l (held_level store) (held_level later) m;
      later = later_at old new l (held_level store) (held_level later) m e.later;
      wrote = if_ok c.put_step.result (λ how. puts_at old new l (held_level store) (held_level later) policy key c.args.bytes.now c.args.from_run how by m e.later) e.wrote;
      cause = if_ok c.put_step.result (λ how. put_cause_at old new l (held_level store) (held_level later) policy key how by m) e.cause;
      early = λ cause is.
          let h = e.early cause (ap (λ p. early_cause p (held_level store).facts key) by ∙ ap (λ f. early_cause old.policy f key) (sym m.facts_were) ∙ is) in
          (h.0, unmoved held_level old policy stores l store later c.self.view_is c.requires.level here h.1);
    }

pub invariant_of-self : goal.invariant_of-self
invariant_of-self g c =
    let old = c.args.self.now in
    let l = c.args.level in
    let key = c.args.key.now in
    let stores = c.self.inside.levels.items in
    let policy = c.self.inside.policy in
    let store = c.index_mut.result.now in
    let later = c.put_step.new.self in
    let e = c.put_step.ensures in
    let new = held_of (map held_level (slice_set stores l later)) policy in
    let here : store ≡ slice_index_or stores l store = search rules in
    let m : Alone old new l (held_level store) (held_level later) = moved held_level old policy stores l store later c.self.view_is c.requires.level here e.title e.facts e.told in
    stays_within old new l (held_level store) (held_level later) m e.facts e.within (subst AreWithin c.self.view_is c.self.invariant)

pub index_mut-requires : goal.index_mut-requires
index_mut-requires g c =
    let here : c.args.level < length c.self.inside.levels.items = within_stores held_level c.self.inside.policy c.self.inside.levels.items c.args.level (subst (λ h. c.args.level < length h.levels) (sym c.self.view_is) c.requires.level) in
    search rules

pub put_step-requires : goal.put_step-requires
put_step-requires g c =
    let stores = c.self.inside.levels.items in
    let here : c.index_mut.result.now ≡ slice_index_or stores c.args.level c.index_mut.result.now = search rules in
    let same = facts_at held_level c.args.self.now c.self.inside.policy stores c.args.level c.index_mut.result.now c.self.view_is c.requires.level here in
    ap (λ f. f.kind) (sym same) ∙ c.requires.remote
