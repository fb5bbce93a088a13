-- One level moved, and no other.
use Rattle.std.proofs.Common.{◌≡◌, ◌≢◌, ◌==◌, eqb-true, eq-eqb, ℕ, zero, suc, ◌<◌, Bool, true, false, ◌&&◌, IsTrue, List, [], ◌∷◌, length, map, slice_index_or, slice_set, Result, Ok, Err, IfOk, refl, arith, subst, sym, ap, ◌∙◌}
use Rattle.std.proofs.lemmas.List.{length-map, map-set}
use Rattle.sc_model.specs.Plan.{level_facts, no_level}
use Rattle.sc_model.specs.Asking.{Asks}
use Rattle.sc_model.specs.Levels.{Later, Level, no_level_held}
use Rattle.sc_model.specs.WriteCauses.{causes, early_cause}
use Rattle.sc_model.specs.Writing.{Wrote_at}
use Rattle.sc_model.specs.declared.event.Answer.{Answer}
use Rattle.sc_model.specs.declared.event.Mode.{Mode}
use Rattle.sc_model.specs.declared.event.Written.{Written}
use Rattle.sc_model.specs.declared.level.LevelFacts.{LevelFacts}
use Rattle.sc_model.specs.declared.level.Policy.{Policy}
use Rattle.sc_entry.specs.Entries.{objects}
use Rattle.sc_model.specs.declared.event.Mode.TheVariants.{Whole}
use Rattle.sc_store_disk.specs.DiskStores.{DiskStore}
use Rattle.sc_store_disk.specs.Entries.{SameFiles}
use Rattle.sc_store_disk.specs.Marks.{Marks, no_marks}
use Rattle.sc_store_disk.specs.Moving.{ReserveCause}
use Rattle.sc_store_disk.specs.declared.reserving.Reservation.{Reservation}
use Rattle.sc_store.specs.Asking.{AloneAt, AsksAt, AsksLevel, CauseBy, MarksAsked, PutCause, PutsAt, PutsLevel, TellsMark, has_mode}
use Rattle.sc_store.specs.Held.{AreWithin, Held, HeldLevel, IsWithin, Room, all_tell, disk_in, disk_of, held_of, level_in, marks_in, no_room, no_title, room_in, title_in}

-- what a move of one level leaves
pub record Alone (old new : Held) (l : ℕ) (before after : HeldLevel) : Type 0 where
  pub titles : new.titles ≡ old.titles
  pub facts : new.facts ≡ old.facts
  pub policy : new.policy ≡ old.policy
  pub told : new.told ≡ old.told
  pub alone : new.levels ≡ slice_set old.levels l after.level
  pub rooms : new.rooms ≡ slice_set old.rooms l after.room
  pub marks : new.marks ≡ slice_set old.marks l after.marks
  pub marks_were : marks_in old.marks l ≡ before.marks
  pub marks_are : marks_in new.marks l ≡ after.marks
  pub room_was : room_in old.rooms l ≡ before.room
  pub room_is : room_in new.rooms l ≡ after.room
  pub title_was : title_in old.titles l ≡ before.title
  pub facts_were : level_facts old.facts l ≡ before.facts
  pub was : level_in old.levels l ≡ before.level
  pub is : level_in new.levels l ≡ after.level
  pub tells : old.told ≡ true → before.told ≡ true

-- a part that did not change is as it was in the whole list
pub stays : {S A : Type 0} (part : S → A) (stores : List S) (l : ℕ) (store later : S) → l < length stores → store ≡ slice_index_or stores l store → part later ≡ part store
    → map part (slice_set stores l later) ≡ map part stores
stays part [] l store later within is same = absurd (omega arith)
stays part (s ∷ ss) zero store later within is same = ap (λ x. x ∷ map part ss) (same ∙ ap part is)
stays part (s ∷ ss) (suc l) store later within is same = ap (λ xs. part s ∷ xs) (stays part ss l store later (omega arith) is same)

pub part_at : {S A : Type 0} (part : S → A) (stores : List S) (l : ℕ) (store : S) (other : A) → l < length stores → store ≡ slice_index_or stores l store → slice_index_or (map part stores) l other ≡ part store
part_at part [] l store other within is = absurd (omega arith)
part_at part (s ∷ ss) zero store other within is = ap part (sym is)
part_at part (s ∷ ss) (suc l) store other within is = part_at part ss l store other (omega arith) is

pub new_at : {S A : Type 0} (part : S → A) (stores : List S) (l : ℕ) (later : S) (other : A) → l < length stores → slice_index_or (map part (slice_set stores l later)) l other ≡ part later
new_at part [] l later other within = absurd (omega arith)
new_at part (s ∷ ss) zero later other within = refl
new_at part (s ∷ ss) (suc l) later other within = new_at part ss l later other (omega arith)

both : (a b : Bool) → (a && b) ≡ true → (a ≡ true) × (b ≡ true)
both true b h = (refl, h)
both false b h = absurd (cc)

module _ {S : Type 0} (seen : S → HeldLevel) where
  pub tell_stays : (stores : List S) (l : ℕ) (store later : S) → l < length stores → store ≡ slice_index_or stores l store → (seen later).told ≡ (seen store).told
      → all_tell (map seen (slice_set stores l later)) ≡ all_tell (map seen stores)
  tell_stays [] l store later within is same = absurd (omega arith)
  tell_stays (s ∷ ss) zero store later within is same = ap (λ t. t && all_tell (map seen ss)) (same ∙ ap (λ x. (seen x).told) is)
  tell_stays (s ∷ ss) (suc l) store later within is same = ap (λ t. (seen s).told && t) (tell_stays ss l store later (omega arith) is same)

  pub one_tells : (stores : List S) (l : ℕ) (store : S) → l < length stores → store ≡ slice_index_or stores l store → all_tell (map seen stores) ≡ true → (seen store).told ≡ true
  one_tells [] l store within is told = absurd (omega arith)
  one_tells (s ∷ ss) zero store within is told = ap (λ x. (seen x).told) is ∙ (both ((seen s).told) (all_tell (map seen ss)) told).0
  one_tells (s ∷ ss) (suc l) store within is told = one_tells ss l store (omega arith) is (both ((seen s).told) (all_tell (map seen ss)) told).1

  pub maps : {A : Type 0} (part : HeldLevel → A) (stores : List S) → map part (map seen stores) ≡ map (λ s. part (seen s)) stores
  maps part [] = refl
  maps part (s ∷ ss) = ap (λ xs. part (seen s) ∷ xs) (maps part ss)

  moved_of : (policy : Policy) (stores : List S) (l : ℕ) (store later : S) → l < length stores → store ≡ slice_index_or stores l store → (seen later).title ≡ (seen store).title → (seen later).facts ≡ (seen store).facts → (seen later).told ≡ (seen store).told
      → Alone (held_of (map seen stores) policy) (held_of (map seen (slice_set stores l later)) policy) l (seen store) (seen later)
  moved_of policy stores l store later within is title facts told =
      let new = slice_set stores l later in
      record {
        titles = maps (λ x. x.title) new ∙ stays (λ s. (seen s).title) stores l store later within is title ∙ sym (maps (λ x. x.title) stores);
        facts = maps (λ x. x.facts) new ∙ stays (λ s. (seen s).facts) stores l store later within is facts ∙ sym (maps (λ x. x.facts) stores);
        policy = refl;
        told = tell_stays stores l store later within is told;
        alone = maps (λ x. x.level) new ∙ map-set (λ s. (seen s).level) stores l later ∙ ap (λ xs. slice_set xs l (seen later).level) (sym (maps (λ x. x.level) stores));
        rooms = maps (λ x. x.room) new ∙ map-set (λ s. (seen s).room) stores l later ∙ ap (λ xs. slice_set xs l (seen later).room) (sym (maps (λ x. x.room) stores));
        marks = maps (λ x. x.marks) new ∙ map-set (λ s. (seen s).marks) stores l later ∙ ap (λ xs. slice_set xs l (seen later).marks) (sym (maps (λ x. x.marks) stores));
        marks_were = ap (λ xs. slice_index_or xs l no_marks) (maps (λ x. x.marks) stores) ∙ part_at (λ s. (seen s).marks) stores l store no_marks within is;
        marks_are = ap (λ xs. slice_index_or xs l no_marks) (maps (λ x. x.marks) new) ∙ new_at (λ s. (seen s).marks) stores l later no_marks within;
        room_was = ap (λ xs. slice_index_or xs l no_room) (maps (λ x. x.room) stores) ∙ part_at (λ s. (seen s).room) stores l store no_room within is;
        room_is = ap (λ xs. slice_index_or xs l no_room) (maps (λ x. x.room) new) ∙ new_at (λ s. (seen s).room) stores l later no_room within;
        title_was = ap (λ xs. slice_index_or xs l no_title) (maps (λ x. x.title) stores) ∙ part_at (λ s. (seen s).title) stores l store no_title within is;
        facts_were = ap (λ xs. slice_index_or xs l no_level) (maps (λ x. x.facts) stores) ∙ part_at (λ s. (seen s).facts) stores l store no_level within is;
        was = ap (λ xs. slice_index_or xs l no_level_held) (maps (λ x. x.level) stores) ∙ part_at (λ s. (seen s).level) stores l store no_level_held within is;
        is = ap (λ xs. slice_index_or xs l no_level_held) (maps (λ x. x.level) new) ∙ new_at (λ s. (seen s).level) stores l later no_level_held within;
        tells = one_tells stores l store within is;
      }

  pub within_stores : (policy : Policy) (stores : List S) (l : ℕ) → l < length (held_of (map seen stores) policy).levels → l < length stores
  within_stores policy stores l h = rw (maps (λ x. x.level) stores, length-map) at h

  -- a store of the list was changed
  pub moved : (old : Held) (policy : Policy) (stores : List S) (l : ℕ) (store later : S) → held_of (map seen stores) policy ≡ old → l < length old.levels → store ≡ slice_index_or stores l store → (seen later).title ≡ (seen store).title → (seen later).facts ≡ (seen store).facts → (seen later).told ≡ (seen store).told
      → Alone old (held_of (map seen (slice_set stores l later)) policy) l (seen store) (seen later)
  moved old policy stores l store later at within is title facts told =
      subst (λ (o : Held). l < length o.levels → Alone o (held_of (map seen (slice_set stores l later)) policy) l (seen store) (seen later)) at
      (λ h. moved_of policy stores l store later (within_stores policy stores l h) is title facts told) within

  -- what stays of a level, read at its store
  pub facts_at : (old : Held) (policy : Policy) (stores : List S) (l : ℕ) (store : S) → held_of (map seen stores) policy ≡ old → l < length old.levels → store ≡ slice_index_or stores l store → level_facts old.facts l ≡ (seen store).facts
  facts_at old policy stores l store at within is = (moved old policy stores l store store at within is refl refl refl).facts_were

  -- what is held at a store's place, and whether it tells that
  pub held_at : (old : Held) (policy : Policy) (stores : List S) (l : ℕ) (store : S) → held_of (map seen stores) policy ≡ old → l < length old.levels → store ≡ slice_index_or stores l store → Alone old (held_of (map seen (slice_set stores l store)) policy) l (seen store) (seen store)
  held_at old policy stores l store at within is = moved old policy stores l store store at within is refl refl refl

  and_true : (a : Bool) → (a && true) ≡ a
  and_true true = refl
  and_true false = refl

  only_tells : (stores : List S) (l : ℕ) (store : S) → l < length stores → length stores ≡ 1 → store ≡ slice_index_or stores l store → (seen store).told ≡ all_tell (map seen stores)
  only_tells [] l store within one is = absurd (omega arith)
  only_tells (s ∷ []) zero store within one is = ap (λ x. (seen x).told) is ∙ sym (and_true ((seen s).told))
  only_tells (s ∷ []) (suc l) store within one is = absurd (omega arith)
  only_tells (s ∷ t ∷ ss) l store within one is = absurd (omega arith)

  same_count : (policy : Policy) (stores : List S) → length (held_of (map seen stores) policy).levels ≡ length stores
  same_count policy stores = rw (maps (λ x. x.level) stores, length-map) refl

  -- a store that is alone tells where the levels tell
  pub alone_tells : (old : Held) (policy : Policy) (stores : List S) (l : ℕ) (store : S) → held_of (map seen stores) policy ≡ old → l < length old.levels → store ≡ slice_index_or stores l store → length old.levels ≡ 1 → (seen store).told ≡ old.told
  alone_tells old policy stores l store at =
      subst (λ (o : Held). l < length o.levels → store ≡ slice_index_or stores l store → length o.levels ≡ 1 → (seen store).told ≡ o.told) at
      (λ within is one. only_tells stores l store (within_stores policy stores l within) (sym (same_count policy stores) ∙ one) is)

  -- a store was put back as it was
  same_back : (stores : List S) (l : ℕ) (store later : S) → l < length stores → store ≡ slice_index_or stores l store → later ≡ store → slice_set stores l later ≡ stores
  same_back [] l store later within is same = absurd (omega arith)
  same_back (s ∷ ss) zero store later within is same = ap (λ x. x ∷ ss) (same ∙ is)
  same_back (s ∷ ss) (suc l) store later within is same = ap (λ xs. s ∷ xs) (same_back ss l store later (omega arith) is same)

  pub unmoved : (old : Held) (policy : Policy) (stores : List S) (l : ℕ) (store later : S) → held_of (map seen stores) policy ≡ old → l < length old.levels → store ≡ slice_index_or stores l store → later ≡ store → held_of (map seen (slice_set stores l later)) policy ≡ old
  unmoved old policy stores l store later at within is same =
      let here : l < length stores = within_stores policy stores l (subst (λ (o : Held). l < length o.levels) (sym at) within) in
      ap (λ xs. held_of (map seen xs) policy) (same_back stores l store later here is same) ∙ at

  rooms_of : (policy : Policy) (stores : List S) (l : ℕ) (store later : S) → l < length stores → store ≡ slice_index_or stores l store → (seen later).room ≡ (seen store).room → (held_of (map seen (slice_set stores l later)) policy).rooms ≡ (held_of (map seen stores) policy).rooms
  rooms_of policy stores l store later within is room = maps (λ x. x.room) (slice_set stores l later) ∙ stays (λ s. (seen s).room) stores l store later within is room ∙ sym (maps (λ x. x.room) stores)

  marks_of : (policy : Policy) (stores : List S) (l : ℕ) (store later : S) → l < length stores → store ≡ slice_index_or stores l store → (seen later).marks ≡ (seen store).marks → (held_of (map seen (slice_set stores l later)) policy).marks ≡ (held_of (map seen stores) policy).marks
  marks_of policy stores l store later within is same = maps (λ x. x.marks) (slice_set stores l later) ∙ stays (λ s. (seen s).marks) stores l store later within is same ∙ sym (maps (λ x. x.marks) stores)

  -- no mark was given nor taken
  pub same_marks : (old : Held) (policy : Policy) (stores : List S) (l : ℕ) (store later : S) → held_of (map seen stores) policy ≡ old → l < length old.levels → store ≡ slice_index_or stores l store → (seen later).marks ≡ (seen store).marks
      → (held_of (map seen (slice_set stores l later)) policy).marks ≡ old.marks
  same_marks old policy stores l store later at within is same =
      let here : l < length stores = within_stores policy stores l (subst (λ (o : Held). l < length o.levels) (sym at) within) in
      marks_of policy stores l store later here is same ∙ ap (λ (o : Held). o.marks) at

  -- nothing was opened nor closed
  pub same_rooms : (old : Held) (policy : Policy) (stores : List S) (l : ℕ) (store later : S) → held_of (map seen stores) policy ≡ old → l < length old.levels → store ≡ slice_index_or stores l store → (seen later).room ≡ (seen store).room
      → (held_of (map seen (slice_set stores l later)) policy).rooms ≡ old.rooms
  same_rooms old policy stores l store later at within is room =
      let here : l < length stores = within_stores policy stores l (subst (λ (o : Held). l < length o.levels) (sym at) within) in
      rooms_of policy stores l store later here is room ∙ ap (λ (o : Held). o.rooms) at

pub if_ok : {A E : Type 0} {P Q : A → Type 0} (r : Result A E) → ((a : A) → P a → Q a) → IfOk r P → IfOk r Q
if_ok (Ok a) f h = f a h
if_ok (Err e) f h = tt

-- the clauses of a lookup
pub asks_at : (old new : Held) (l : ℕ) (before after : HeldLevel) (key : List ℕ) (mode : Mode) (answer : Answer) → Alone old new l before after → AsksLevel key mode answer before after → AsksAt l key mode answer old new
asks_at old new l before after key mode answer m asks told has =
    let known : IsTrue (has_mode before.facts.kind mode) = subst (λ (f : LevelFacts). IsTrue (has_mode f.kind mode)) m.facts_were has in
    let h = asks (m.tells told) known in
    let r = (room_in old.rooms l).reserved in (
      after.level,
      subst (λ (v : Level). Asks objects (level_facts old.facts l) r key mode answer v after.level) (sym m.was) (subst (λ (f : LevelFacts). Asks objects f r key mode answer before.level after.level) (sym m.facts_were)
          (subst (λ (n : Room). Asks objects before.facts n.reserved key mode answer before.level after.level) (sym m.room_was) h)),
      m.alone,
    )

pub cause_at : (old new : Held) (l : ℕ) (before after : HeldLevel) (key : List ℕ) (mode : Mode) (answer : Answer) → Alone old new l before after → CauseBy before.facts.kind mode answer key before.level after.level
    → CauseBy (level_facts old.facts l).kind mode answer key (level_in old.levels l) (level_in new.levels l)
cause_at old new l before after key mode answer m h =
    subst (λ (f : LevelFacts). CauseBy f.kind mode answer key (level_in old.levels l) (level_in new.levels l)) (sym m.facts_were)
    (subst (λ (v : Level). CauseBy before.facts.kind mode answer key v (level_in new.levels l)) (sym m.was) (subst (λ (w : Level). CauseBy before.facts.kind mode answer key before.level w) (sym m.is) h))

pub later_at : (old new : Held) (l : ℕ) (before after : HeldLevel) → Alone old new l before after → Later before.level after.level → Later (level_in old.levels l) (level_in new.levels l)
later_at old new l before after m h = subst (λ (v : Level). Later v (level_in new.levels l)) (sym m.was) (subst (λ (w : Level). Later before.level w) (sym m.is) h)

pub alone_at : (old new : Held) (l : ℕ) (before after : HeldLevel) → Alone old new l before after → new.levels ≡ slice_set old.levels l (level_in new.levels l)
alone_at old new l before after m = m.alone ∙ ap (λ v. slice_set old.levels l v) (sym m.is)

-- the clauses of a write
pub puts_at : (old new : Held) (l : ℕ) (before after : HeldLevel) (policy : Policy) (key bytes : List ℕ) (mark : Bool) (how : Written) → policy ≡ old.policy → Alone old new l before after → Later before.level after.level → PutsLevel policy key bytes mark how before after → PutsAt l key bytes mark how old new
puts_at old new l before after policy key bytes mark how by m later puts told r =
    let h = puts (m.tells told) r in (
      after.level,
      subst (λ (v : Level). Later v after.level) (sym m.was) later,
      subst (λ (p : Policy). Wrote_at p (level_facts old.facts l) r key bytes Whole mark how (level_in old.levels l) after.level) by
          (subst (λ (v : Level). Wrote_at policy (level_facts old.facts l) r key bytes Whole mark how v after.level) (sym m.was) (subst (λ (f : LevelFacts). Wrote_at policy f r key bytes Whole mark how before.level after.level) (sym m.facts_were) h)),
      m.alone,
    )

pub put_cause_at : (old new : Held) (l : ℕ) (before after : HeldLevel) (policy : Policy) (key : List ℕ) (how : Written) → policy ≡ old.policy → Alone old new l before after → PutCause (early_cause policy before.facts key) how before.level after.level
    → PutCause (early_cause old.policy (level_facts old.facts l) key) how (level_in old.levels l) (level_in new.levels l)
put_cause_at old new l before after policy key how by m h =
    subst (λ (p : Policy). PutCause (early_cause p (level_facts old.facts l) key) how (level_in old.levels l) (level_in new.levels l)) by
    (subst (λ (f : LevelFacts). PutCause (early_cause policy f key) how (level_in old.levels l) (level_in new.levels l)) (sym m.facts_were)
    (subst (λ (v : Level). PutCause (early_cause policy before.facts key) how v (level_in new.levels l)) (sym m.was) (subst (λ (w : Level). PutCause (early_cause policy before.facts key) how before.level w) (sym m.is) h)))

-- What is so of a level's marks.
pub marks_alone : (old new : Held) (l : ℕ) (before after : HeldLevel) → Alone old new l before after → new.marks ≡ slice_set old.marks l (marks_in new.marks l)
marks_alone old new l before after m = m.marks ∙ ap (λ x. slice_set old.marks l x) (sym m.marks_are)

pub marks_at : (P : Marks → Marks → Type 0) (old new : Held) (l : ℕ) (before after : HeldLevel) → Alone old new l before after → P before.marks after.marks → P (marks_in old.marks l) (marks_in new.marks l)
marks_at P old new l before after m h = subst (λ (x : Marks). P x (marks_in new.marks l)) (sym m.marks_were) (subst (λ (x : Marks). P before.marks x) (sym m.marks_are) h)

pub tells_at : (old new : Held) (l : ℕ) (before after : HeldLevel) (key : List ℕ) (answer : Answer) → Alone old new l before after → TellsMark before.facts.kind before.marks key answer → TellsMark (level_facts old.facts l).kind (marks_in old.marks l) key answer
tells_at old new l before after key answer m h =
    subst (λ (f : LevelFacts). TellsMark f.kind (marks_in old.marks l) key answer) (sym m.facts_were) (subst (λ (x : Marks). TellsMark before.facts.kind x key answer) (sym m.marks_were) h)

pub marks_asked_at : (old new : Held) (l : ℕ) (before after : HeldLevel) (mode : Mode) (key : List ℕ) (answer : Answer) → Alone old new l before after → MarksAsked before.facts.kind mode key answer before.marks after.marks
    → MarksAsked (level_facts old.facts l).kind mode key answer (marks_in old.marks l) (marks_in new.marks l)
marks_asked_at old new l before after mode key answer m h =
    subst (λ (f : LevelFacts). MarksAsked f.kind mode key answer (marks_in old.marks l) (marks_in new.marks l)) (sym m.facts_were) (marks_at (MarksAsked before.facts.kind mode key answer) old new l before after m h)

-- The clauses of calls of disk levels.
pub alone_moved : (old new : Held) (l : ℕ) (before after : HeldLevel) → Alone old new l before after → AloneAt l old new
alone_moved old new l before after m = record {
  titles = m.titles;
  facts = m.facts;
  policy = m.policy;
  told = m.told;
  levels = alone_at old new l before after m;
  rooms = m.rooms ∙ ap (λ r. slice_set old.rooms l r) (sym m.room_is);
  marks = marks_alone old new l before after m;
}

-- a level that tells where all do
abbrev pub telling : Bool → DiskStore → DiskStore
telling told s = record s { told = told }

disk_was : (old new : Held) (l : ℕ) (before after : HeldLevel) → Alone old new l before after → disk_in old l ≡ telling old.told (disk_of before)
disk_was old new l before after m = λ i. record { facts = m.facts_were i; told = old.told; level = m.was i; reserved = (m.room_was i).reserved; entries = (m.room_was i).entries }

disk_is : (old new : Held) (l : ℕ) (before after : HeldLevel) → Alone old new l before after → after.facts ≡ before.facts → disk_in new l ≡ telling new.told (disk_of after)
disk_is old new l before after m same =
    let facts : level_facts new.facts l ≡ after.facts = ap (λ fs. level_facts fs l) m.facts ∙ m.facts_were ∙ sym same in
    λ i. record { facts = facts i; told = new.told; level = m.is i; reserved = (m.room_is i).reserved; entries = (m.room_is i).entries }

-- what is so of a level's store is so of it among the levels
pub disk_at : (P : DiskStore → DiskStore → Type 0) (old new : Held) (l : ℕ) (before after : HeldLevel) → Alone old new l before after → after.facts ≡ before.facts → P (telling old.told (disk_of before)) (telling new.told (disk_of after)) → P (disk_in old l) (disk_in new l)
disk_at P old new l before after m same h =
    subst (λ (s : DiskStore). P s (disk_in new l)) (sym (disk_was old new l before after m)) (subst (λ (s : DiskStore). P (telling old.told (disk_of before)) s) (sym (disk_is old new l before after m same)) h)

pub files_at : (old new : Held) (l : ℕ) (before after : HeldLevel) → Alone old new l before after → SameFiles before.level after.level → SameFiles (level_in old.levels l) (level_in new.levels l)
files_at old new l before after m h = subst (λ (v : Level). SameFiles v (level_in new.levels l)) (sym m.was) (subst (λ (w : Level). SameFiles before.level w) (sym m.is) h)

pub reserve_cause_at : (old new : Held) (l : ℕ) (before after : HeldLevel) (policy : Policy) (key : List ℕ) (size : ℕ) (how : Reservation) → policy ≡ old.policy → Alone old new l before after → ReserveCause (causes policy before.facts before.room.reserved key size) how before.level after.level
    → ReserveCause (causes old.policy (level_facts old.facts l) (room_in old.rooms l).reserved key size) how (level_in old.levels l) (level_in new.levels l)
reserve_cause_at old new l before after policy key size how by m h =
    subst (λ (p : Policy). ReserveCause (causes p (level_facts old.facts l) (room_in old.rooms l).reserved key size) how (level_in old.levels l) (level_in new.levels l)) by
    (subst (λ (f : LevelFacts). ReserveCause (causes policy f (room_in old.rooms l).reserved key size) how (level_in old.levels l) (level_in new.levels l)) (sym m.facts_were)
    (subst (λ (r : Room). ReserveCause (causes policy before.facts r.reserved key size) how (level_in old.levels l) (level_in new.levels l)) (sym m.room_was)
    (subst (λ (v : Level). ReserveCause (causes policy before.facts before.room.reserved key size) how v (level_in new.levels l)) (sym m.was)
    (subst (λ (w : Level). ReserveCause (causes policy before.facts before.room.reserved key size) how before.level w) (sym m.is) h))))

-- The levels stay within their capacities.
never : false ≡ true → ⊥
never e = absurd (cc)

within_at : (old : Held) (facts : List LevelFacts) (levels : List Level) (rooms : List Room) (l : ℕ) (f : LevelFacts) (v : Level) (r : Room) → level_facts facts l ≡ f → level_in levels l ≡ v → room_in rooms l ≡ r → IsWithin f v r → IsWithin (level_facts facts l) (level_in levels l) (room_in rooms l)
within_at old facts levels rooms l f v r is_f is_v is_r h =
    subst (λ (g : LevelFacts). IsWithin g (level_in levels l) (room_in rooms l)) (sym is_f) (subst (λ (w : Level). IsWithin f w (room_in rooms l)) (sym is_v) (subst (λ (q : Room). IsWithin f v q) (sym is_r) h))

pub other_set : {A : Type 0} (xs : List A) (l m : ℕ) (x d : A) → m ≢ l → slice_index_or (slice_set xs l x) m d ≡ slice_index_or xs m d
other_set [] l m x d apart = refl
other_set (y ∷ ys) zero zero x d apart = absurd (apart refl)
other_set (y ∷ ys) zero (suc m) x d apart = refl
other_set (y ∷ ys) (suc l) zero x d apart = refl
other_set (y ∷ ys) (suc l) (suc m) x d apart = other_set ys l m x d (λ e. apart (ap suc e))

pub stays_within : (old new : Held) (l : ℕ) (before after : HeldLevel) → Alone old new l before after → after.facts ≡ before.facts → IsWithin after.facts after.level after.room → AreWithin old → AreWithin new
stays_within old new l before after m same within all k = (elim (k == l) as (λ t. (k == l) ≡ t → IsWithin (level_facts new.facts k) (level_in new.levels k) (room_in new.rooms k)) [
  | true ↦ λ e.
      let is : k ≡ l = eqb-true k l e in
      subst (λ (i : ℕ). IsWithin (level_facts new.facts i) (level_in new.levels i) (room_in new.rooms i)) (sym is)
      (within_at old new.facts new.levels new.rooms l after.facts after.level after.room (ap (λ fs. level_facts fs l) m.facts ∙ m.facts_were ∙ sym same) m.is m.room_is within)
  | false ↦ λ e.
      let apart : k ≢ l = λ is. absurd (never (sym e ∙ eq-eqb k l is)) in
      within_at old new.facts new.levels new.rooms k (level_facts old.facts k) (level_in old.levels k) (room_in old.rooms k) (ap (λ fs. level_facts fs k) m.facts)
      (ap (λ vs. level_in vs k) m.alone ∙ other_set old.levels l k after.level no_level_held apart) (ap (λ rs. room_in rs k) m.rooms ∙ other_set old.rooms l k after.room no_room apart) (all k)
]) refl
