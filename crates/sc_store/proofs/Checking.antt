-- The check of one level: its mode may turn, and no other level is touched.
use Rattle.std.proofs.Common.{◌≡◌, ◌≢◌, ◌==◌, eqb-true, eq-eqb, ℕ, zero, suc, ◌<◌, Bool, true, false, List, [], ◌∷◌, length, map, slice_index_or, slice_set, refl, arith, subst, sym, ap, ◌∙◌}
use Rattle.std.proofs.lemmas.List.{map-set}
use Rattle.sc_model.specs.Plan.{level_facts, no_level}
use Rattle.sc_model.specs.Levels.{Later, Level, no_level_held}
use Rattle.sc_model.specs.declared.level.LevelFacts.{LevelFacts}
use Rattle.sc_model.specs.declared.level.LevelKind.{LevelKind}
use Rattle.sc_model.specs.declared.level.LevelKind.TheVariants.{Disk, Remote}
use Rattle.sc_model.specs.declared.level.Policy.{Policy}
use Rattle.sc_entry.specs.declared.cache_mode.CacheMode.{CacheMode}
use Rattle.sc_entry.specs.declared.cache_mode.CacheMode.TheVariants.{ReadOnly, ReadWrite}
use Rattle.sc_model.specs.declared.level.RemoteFault.{RemoteFault}
use Rattle.sc_store.specs.Checking.{Checks, ChecksAt, ChecksBy, ChecksLevel, ChecksRemote, Finds, Greets, ReadsCheck, facts_after, refusal_of}
use Rattle.sc_store.specs.Held.{AreWithin, Held, HeldLevel, IsWithin, Room, Title, held_of, level_in, no_room, no_title, room_in, title_in}
use Rattle.sc_store.specs.declared.checked.Checked.{Checked}
use Rattle.sc_store.proofs.Alone.{maps, new_at, one_tells, other_set, part_at, stays, tell_stays, within_stores}
use Rattle.std.proofs.Common.{Option, None, Some}

-- what a check of one level leaves
pub record Turned (old new : Held) (l : ℕ) (before after : HeldLevel) : Type 0 where
  pub titles : new.titles ≡ old.titles
  pub policy : new.policy ≡ old.policy
  pub told : new.told ≡ old.told
  pub turned : new.facts ≡ slice_set old.facts l after.facts
  pub alone : new.levels ≡ slice_set old.levels l after.level
  pub rooms : new.rooms ≡ slice_set old.rooms l after.room
  pub back : slice_set old.facts l before.facts ≡ old.facts
  pub title_was : title_in old.titles l ≡ before.title
  pub facts_were : level_facts old.facts l ≡ before.facts
  pub facts_are : level_facts new.facts l ≡ after.facts
  pub was : level_in old.levels l ≡ before.level
  pub is : level_in new.levels l ≡ after.level
  pub room_is : room_in new.rooms l ≡ after.room
  pub tells : old.told ≡ true → before.told ≡ true

module _ {S : Type 0} (seen : S → HeldLevel) where
  set_back : {A : Type 0} (part : S → A) (stores : List S) (l : ℕ) (store : S) → l < length stores → store ≡ slice_index_or stores l store → slice_set (map part stores) l (part store) ≡ map part stores
  set_back part [] l store within is = absurd (omega arith)
  set_back part (s ∷ ss) zero store within is = ap (λ x. part x ∷ map part ss) is
  set_back part (s ∷ ss) (suc l) store within is = ap (λ xs. part s ∷ xs) (set_back part ss l store (omega arith) is)

  turned_of : (policy : Policy) (stores : List S) (l : ℕ) (store later : S) → l < length stores → store ≡ slice_index_or stores l store → (seen later).title ≡ (seen store).title → (seen later).told ≡ (seen store).told
      → Turned (held_of (map seen stores) policy) (held_of (map seen (slice_set stores l later)) policy) l (seen store) (seen later)
  turned_of policy stores l store later within is title told =
      let new = slice_set stores l later in
      record {
        titles = maps seen (λ x. x.title) new ∙ stays (λ s. (seen s).title) stores l store later within is title ∙ sym (maps seen (λ x. x.title) stores);
        policy = refl;
        told = tell_stays seen stores l store later within is told;
        turned = maps seen (λ x. x.facts) new ∙ map-set (λ s. (seen s).facts) stores l later ∙ ap (λ xs. slice_set xs l (seen later).facts) (sym (maps seen (λ x. x.facts) stores));
        alone = maps seen (λ x. x.level) new ∙ map-set (λ s. (seen s).level) stores l later ∙ ap (λ xs. slice_set xs l (seen later).level) (sym (maps seen (λ x. x.level) stores));
        rooms = maps seen (λ x. x.room) new ∙ map-set (λ s. (seen s).room) stores l later ∙ ap (λ xs. slice_set xs l (seen later).room) (sym (maps seen (λ x. x.room) stores));
        back = ap (λ xs. slice_set xs l (seen store).facts) (maps seen (λ x. x.facts) stores) ∙ set_back (λ s. (seen s).facts) stores l store within is ∙ sym (maps seen (λ x. x.facts) stores);
        title_was = ap (λ xs. slice_index_or xs l no_title) (maps seen (λ x. x.title) stores) ∙ part_at (λ s. (seen s).title) stores l store no_title within is;
        facts_were = ap (λ xs. slice_index_or xs l no_level) (maps seen (λ x. x.facts) stores) ∙ part_at (λ s. (seen s).facts) stores l store no_level within is;
        facts_are = ap (λ xs. slice_index_or xs l no_level) (maps seen (λ x. x.facts) new) ∙ new_at (λ s. (seen s).facts) stores l later no_level within;
        was = ap (λ xs. slice_index_or xs l no_level_held) (maps seen (λ x. x.level) stores) ∙ part_at (λ s. (seen s).level) stores l store no_level_held within is;
        is = ap (λ xs. slice_index_or xs l no_level_held) (maps seen (λ x. x.level) new) ∙ new_at (λ s. (seen s).level) stores l later no_level_held within;
        room_is = ap (λ xs. slice_index_or xs l no_room) (maps seen (λ x. x.room) new) ∙ new_at (λ s. (seen s).room) stores l later no_room within;
        tells = one_tells seen stores l store within is;
      }

  pub turned : (old : Held) (policy : Policy) (stores : List S) (l : ℕ) (store later : S) → held_of (map seen stores) policy ≡ old → l < length old.levels → store ≡ slice_index_or stores l store → (seen later).title ≡ (seen store).title → (seen later).told ≡ (seen store).told
      → Turned old (held_of (map seen (slice_set stores l later)) policy) l (seen store) (seen later)
  turned old policy stores l store later at within is title told =
      subst (λ (o : Held). l < length o.levels → Turned o (held_of (map seen (slice_set stores l later)) policy) l (seen store) (seen later)) at
      (λ h. turned_of policy stores l store later (within_stores seen policy stores l h) is title told) within

module _ (old new : Held) (l : ℕ) (before after : HeldLevel) where
  pub facts_found : (answer : Checked) → Turned old new l before after → after.facts ≡ facts_after before.facts answer → new.facts ≡ slice_set old.facts l (facts_after (level_facts old.facts l) answer)
  facts_found answer m h = m.turned ∙ ap (λ f. slice_set old.facts l f) (h ∙ ap (λ f. facts_after f answer) (sym m.facts_were))

  pub facts_kept : Turned old new l before after → after.facts ≡ before.facts → new.facts ≡ old.facts
  facts_kept m h = m.turned ∙ ap (λ f. slice_set old.facts l f) h ∙ m.back

  pub alone_turned : Turned old new l before after → new.levels ≡ slice_set old.levels l (level_in new.levels l)
  alone_turned m = m.alone ∙ ap (λ v. slice_set old.levels l v) (sym m.is)

  pub later_turned : Turned old new l before after → Later before.level after.level → Later (level_in old.levels l) (level_in new.levels l)
  later_turned m h = subst (λ (v : Level). Later v (level_in new.levels l)) (sym m.was) (subst (λ (w : Level). Later before.level w) (sym m.is) h)

-- what is so of a level that tells is so of one among levels that all tell
module _ (t u : Bool) (tells : t ≡ true → u ≡ true) where
  reads_telling : (read : _) (v w : Level) → ReadsCheck read u v w → ReadsCheck read t v w
  reads_telling read v w h = record { later = h.later; pre = h.pre; reads = λ told. h.reads (tells told); cause = h.cause }

  greets_telling : (configured : CacheMode) (answer : Checked) (v w : Level) → Greets configured answer u v w → Greets configured answer t v w
  greets_telling ReadOnly answer v w h = h
  greets_telling ReadWrite answer v w h = let x = h.1 in (h.0, record { later = x.later; pre = x.pre; writes = λ told. x.writes (tells told); cause = x.cause }, h.2)

  finds_telling : (refusal : Option RemoteFault) (configured : CacheMode) (answer : Checked) (v w : Level) → Finds refusal configured answer u v w → Finds refusal configured answer t v w
  finds_telling None configured answer v w h = greets_telling configured answer v w h
  finds_telling (Some fault) configured answer v w h = h

  remote_telling : (unchecked : Bool) (configured : CacheMode) (answer : Checked) (v w : Level) → ChecksRemote unchecked configured answer u v w → ChecksRemote unchecked configured answer t v w
  remote_telling true configured answer v w h = h
  remote_telling false configured answer v w h = (h.0, h.1, reads_telling h.0 v h.1 h.2, finds_telling (refusal_of h.0) configured answer h.1 w h.3)

  checks_telling : (facts : LevelFacts) (kind : LevelKind) (unchecked : Bool) (answer : Checked) (v w : Level) → Checks facts kind unchecked answer u v w → Checks facts kind unchecked answer t v w
  checks_telling facts Disk unchecked answer v w h = h
  checks_telling facts Remote unchecked answer v w h = remote_telling unchecked facts.configured answer v w h

  by_telling : (wrapped : Bool) (facts : LevelFacts) (unchecked : Bool) (answer : Checked) (v w : Level) → ChecksBy wrapped facts unchecked answer u v w → ChecksBy wrapped facts unchecked answer t v w
  by_telling true facts unchecked answer v w h = h
  by_telling false facts unchecked answer v w h = checks_telling facts facts.kind unchecked answer v w h

pub checks_at : (old new : Held) (l : ℕ) (before after : HeldLevel) (answer : Checked) → Turned old new l before after → ChecksLevel answer before after → ChecksAt l answer old new
checks_at old new l before after answer m h =
    subst (λ (f : LevelFacts). ChecksBy f.wrapped f (title_in old.titles l).given.unchecked answer old.told (level_in old.levels l) (level_in new.levels l)) (sym m.facts_were)
    (subst (λ (t : Title). ChecksBy before.facts.wrapped before.facts t.given.unchecked answer old.told (level_in old.levels l) (level_in new.levels l)) (sym m.title_was)
    (subst (λ (v : Level). ChecksBy before.facts.wrapped before.facts before.title.given.unchecked answer old.told v (level_in new.levels l)) (sym m.was)
    (subst (λ (w : Level). ChecksBy before.facts.wrapped before.facts before.title.given.unchecked answer old.told before.level w) (sym m.is)
    (by_telling old.told before.told m.tells before.facts.wrapped before.facts before.title.given.unchecked answer before.level after.level h))))

-- the levels stay within their capacities
never : false ≡ true → ⊥
never e = absurd (cc)

within_at : (facts : List LevelFacts) (levels : List Level) (rooms : List Room) (l : ℕ) (f : LevelFacts) (v : Level) (r : Room) → level_facts facts l ≡ f → level_in levels l ≡ v → room_in rooms l ≡ r → IsWithin f v r → IsWithin (level_facts facts l) (level_in levels l) (room_in rooms l)
within_at facts levels rooms l f v r is_f is_v is_r h =
    subst (λ (g : LevelFacts). IsWithin g (level_in levels l) (room_in rooms l)) (sym is_f) (subst (λ (w : Level). IsWithin f w (room_in rooms l)) (sym is_v) (subst (λ (q : Room). IsWithin f v q) (sym is_r) h))

pub turned_within : (old new : Held) (l : ℕ) (before after : HeldLevel) → Turned old new l before after → IsWithin after.facts after.level after.room → AreWithin old → AreWithin new
turned_within old new l before after m within all k = (elim (k == l) as (λ t. (k == l) ≡ t → IsWithin (level_facts new.facts k) (level_in new.levels k) (room_in new.rooms k)) [
  | true ↦ λ e.
      let is : k ≡ l = eqb-true k l e in
      subst (λ (i : ℕ). IsWithin (level_facts new.facts i) (level_in new.levels i) (room_in new.rooms i)) (sym is) (within_at new.facts new.levels new.rooms l after.facts after.level after.room m.facts_are m.is m.room_is within)
  | false ↦ λ e.
      let apart : k ≢ l = λ is. absurd (never (sym e ∙ eq-eqb k l is)) in
      within_at new.facts new.levels new.rooms k (level_facts old.facts k) (level_in old.levels k) (room_in old.rooms k) (ap (λ fs. level_facts fs k) m.turned ∙ other_set old.facts l k after.facts no_level apart)
      (ap (λ vs. level_in vs k) m.alone ∙ other_set old.levels l k after.level no_level_held apart) (ap (λ rs. room_in rs k) m.rooms ∙ other_set old.rooms l k after.room no_room apart) (all k)
]) refl
