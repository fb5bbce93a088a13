-- Lookups at a disk store, as the daemon's definitions have them.
use Rattle.std.proofs.Common.{◌≡◌, inl, inr, ℕ, ◌≤◌, Bool, true, false, is_some, IfOk, List, ◌∷◌, ◌++◌, Option, Some, None, Result, Ok, Err, refl, sym, ap, ◌∙◌, subst, arith}
use Rattle.sc_entry.specs.Causes.{Rose}
use Rattle.sc_entry.specs.Entries.{objects}
use Rattle.sc_entry.specs.Keys.{IsStoreKey, is_store_key, make_key_path, normalize_key}
use Rattle.sc_entry.specs.declared.cache_mode.CacheMode.{CacheMode}
use Rattle.sc_entry.specs.declared.memory.NoMemory.{NoMemory}
use Rattle.sc_entry.specs.declared.object.Object.{Object}
use Rattle.sc_model.specs.Asking.{Answers, Answers_path, Answers_pre, Answers_whole, Answers_raw, Asks, Asks_calls, CallsOf, Opens_by, Spells, Tells_mark, level_size}
use Rattle.sc_model.specs.Levels.{Keeps_all, Level, find_file, is_marked as is_marked_at, is_there}
use Rattle.sc_model.specs.declared.event.Answer.{Answer}
use Rattle.sc_model.specs.declared.event.Answer.TheVariants.{Found as FoundAt, Hit, Miss, Refused, Size as SizeIs}
use Rattle.sc_model.specs.declared.event.Mode.{Mode}
use Rattle.sc_model.specs.declared.event.Mode.TheVariants.{Path, Pre as PreMode, Raw, Size as Sizes, Whole}
use Rattle.sc_model.specs.declared.level.Cause.TheVariants.{BadEntry, BadKey, FileTooLarge, Io, NotOpen, ReadOnly as ForReading, RemoteFault as RemoteRefused, Reserved as NoRoom}
use Rattle.sc_model.specs.declared.level.LevelFacts.{LevelFacts}
use Rattle.sc_model.specs.declared.level.LevelKind.{LevelKind}
use Rattle.sc_model.specs.declared.level.LevelKind.TheVariants.{Disk}
use Rattle.sc_disk_pair.specs.Parts.{in_part}
use Rattle.sc_disk_pair.specs.Twos.{TwoState}
use Rattle.sc_disk_pair.specs.declared.pair_cache.PairCache.{PairCache}
use Rattle.sc_disk_pair.specs.declared.part.Part.{Part}
use Rattle.sc_disk_pair.specs.declared.part.Part.TheVariants.{Main, Pre}
use Rattle.sc_store_disk.specs.DiskStores.{DiskStore, level_with, store_of, with_marks}
use Rattle.sc_store_disk.specs.Marked.{TellsMark, with_mark}
use Rattle.sc_store_disk.specs.Marks.{Marks, is_marked}
use Rattle.sc_store_disk.specs.Moving.{AskCause, AsksDisk, HasFile, OpensFor, ReadsAt, Steady, hit_or_miss, reads_key}
use Rattle.sc_store_disk.specs.Wholes.{hit_of, if_spells, mode_answer, whole_answer}
use Rattle.sc_store_disk.proofs.Devices.{later_same}
use Rattle.sc_store_disk.proofs.LevelMarks.{and_true, keeps-fewer, marked-there, same-fewer}
use Rattle.sc_store_disk.proofs.StoreMarks.{later-marked}

-- what every disk store is
module _ {D : Type 0} (mode : CacheMode) (capacity : ℕ) where
  pub disk-kind : (o : Option (PairCache D)) (t : Option TwoState) → (store_of mode capacity o t).facts.kind ≡ Disk
  disk-kind (Some c) t = refl
  disk-kind None t = refl

pub steady-self : (s : DiskStore) → Steady s s
steady-self s = record { facts = refl; told = refl; later = later_same s.level; main = refl; pre = refl; marks = refl; written = refl; reserved = refl; entries = refl }

rose_then : (a b c : ℕ) → Rose a b → b ≤ c → Rose a c
rose_then a b c h l = omega (arith, h, l)

pub rose_before : (a b c : ℕ) → a ≤ b → Rose b c → Rose a c
rose_before a b c l h = omega (arith, h, l)

-- a read of an opened store is one of the store before it was opened
pub reads-before : (part : Part) (path : List ℕ) (a : Answer) (t u : Bool) (v m w : Level) → t ≡ u → v.faults ≤ m.faults → ReadsAt part path a t m w → ReadsAt part path a u v w
reads-before part path (Hit bytes mark) t u v m w e l h = (h.0, λ told. h.1 (e ∙ told))
reads-before part path Miss t u v m w e l h = h
reads-before part path (Refused Io) t u v m w e l h = rose_before v.faults m.faults w.faults l h
reads-before part path (Refused BadEntry) t u v m w e l h = h
reads-before part path (Refused BadKey) t u v m w e l h = h
reads-before part path (Refused FileTooLarge) t u v m w e l h = h
reads-before part path (Refused NoRoom) t u v m w e l h = h
reads-before part path (Refused (ForReading s)) t u v m w e l h = h
reads-before part path (Refused (RemoteRefused k)) t u v m w e l h = h
reads-before part path (Refused (NotOpen x)) t u v m w e l h = h
reads-before part path (FoundAt p) t u v m w e l h = h
reads-before part path (SizeIs n c) t u v m w e l h = h

pub opens-for : (a : Answer) (opened : Bool) → opened ≡ true → OpensFor a opened
opens-for (Hit bytes mark) opened h = h
opens-for Miss opened h = h
opens-for (Refused c) opened h = tt
opens-for (FoundAt p) opened h = h
opens-for (SizeIs n c) opened h = h

-- the mark that is kept of a key
abbrev pub own_mark : Marks → List ℕ → Bool
own_mark m k = is_marked m (in_part Main (make_key_path k))

module _ (m n : Marks) (same : n ≡ m) (k : List ℕ) (a : Answer) (old new : DiskStore) (kind : old.facts.kind ≡ Disk) (s : Steady old new) where
  keeps : Keeps_all old.facts.kind (level_with m old.level) (level_with n new.level)
  keeps = subst (λ (d : LevelKind). Keeps_all d (level_with m old.level) (level_with n new.level)) (sym kind) (s.main, s.pre)

  asks : (mode : Mode) → Answers objects old.facts old.reserved k mode a (level_with m old.level) (level_with n new.level) → Opens_by Disk mode a (level_with m old.level) (level_with n new.level) → Tells_mark Disk k mode a (level_with m old.level)
      → Asks objects old.facts old.reserved k mode a (level_with m old.level) (level_with n new.level)
  asks mode h o t = record {
    later = later-marked m n old.level new.level s.later;
    keeps = keeps;
    answers = h;
    opens = subst (λ (d : LevelKind). Opens_by d mode a (level_with m old.level) (level_with n new.level)) (sym kind) o;
    marks = keeps-fewer m n old.level new.level (λ p. ap (λ x. is_marked x (in_part Main p)) same) (same-fewer old.level new.level s.main);
    tells_mark = subst (λ (d : LevelKind). Tells_mark d k mode a (level_with m old.level)) (sym kind) t;
    calls = subst (λ (d : LevelKind). CallsOf d (Asks_calls d mode k a (level_with m old.level) (level_with n new.level)) (level_with m old.level) (level_with n new.level)) (sym kind) tt;
    written = s.written;
  }

  asks-whole : Answers_whole objects Disk k a (level_with m old.level) (level_with n new.level) → Opens_by Disk Whole a (level_with m old.level) (level_with n new.level) → Tells_mark Disk k Whole a (level_with m old.level)
      → Asks objects old.facts old.reserved k Whole a (level_with m old.level) (level_with n new.level)
  asks-whole h o t = asks Whole (subst (λ (d : LevelKind). Answers_whole objects d k a (level_with m old.level) (level_with n new.level)) (sym kind) h) o t

  asks-raw : Answers_raw Disk k a (level_with m old.level) (level_with n new.level) → Opens_by Disk Raw a (level_with m old.level) (level_with n new.level) → Tells_mark Disk k Raw a (level_with m old.level)
      → Asks objects old.facts old.reserved k Raw a (level_with m old.level) (level_with n new.level)
  asks-raw h o t = asks Raw (subst (λ (d : LevelKind). Answers_raw d k a (level_with m old.level) (level_with n new.level)) (sym kind) h) o t

  asks-path : Answers_path old.facts k a (level_with m old.level) (level_with n new.level) → Opens_by Disk Path a (level_with m old.level) (level_with n new.level) → Tells_mark Disk k Path a (level_with m old.level)
      → AsksDisk k Path a (with_marks m old) (with_marks n new)
  asks-path h o t told = asks Path h o t

  asks-pre : Answers_pre Disk k a (level_with m old.level) (level_with n new.level) → Opens_by Disk PreMode a (level_with m old.level) (level_with n new.level) → Tells_mark Disk k PreMode a (level_with m old.level)
      → Asks objects old.facts old.reserved k PreMode a (level_with m old.level) (level_with n new.level)
  asks-pre h o t = asks PreMode (subst (λ (d : LevelKind). Answers_pre d k a (level_with m old.level) (level_with n new.level)) (sym kind) h) o t

whole_hit : (t : Bool) (k b : List ℕ) (m : Bool) (v w : Level) (o : Option (List Object)) → objects b ≡ o → IsStoreKey k → find_file w.main (make_key_path k) ≡ Some b → Answers_whole objects Disk k (with_mark t (hit_of (if_spells o b) m)) v w
whole_hit t k b m v w None e good h = (good, (b, h, e))
whole_hit t k b m v w (Some os) e good h = (good, h, subst Spells (sym e) tt)

whole-answers : (m n : Marks) (t : Bool) (k : List ℕ) (raw : Answer) (v w : Level) → IsStoreKey k → ReadsAt Main (make_key_path k) raw true v w → Answers_whole objects Disk k (with_mark t (whole_answer raw)) (level_with m v) (level_with n w)
whole-answers m n t k (Hit b c) v w good h = whole_hit t k b c (level_with m v) (level_with n w) (objects b) refl good (h.1 refl)
whole-answers m n t k Miss v w good h = (good, h)
whole-answers m n t k (Refused Io) v w good h = (good, h)
whole-answers m n t k (Refused BadEntry) v w good h = absurd h
whole-answers m n t k (Refused BadKey) v w good h = absurd h
whole-answers m n t k (Refused FileTooLarge) v w good h = absurd h
whole-answers m n t k (Refused NoRoom) v w good h = absurd h
whole-answers m n t k (Refused (ForReading s)) v w good h = absurd h
whole-answers m n t k (Refused (RemoteRefused d)) v w good h = absurd h
whole-answers m n t k (Refused (NotOpen x)) v w good h = absurd h
whole-answers m n t k (FoundAt p) v w good h = absurd h
whole-answers m n t k (SizeIs z c) v w good h = absurd h

hit_opens : (t : Bool) (b : List ℕ) (m : Bool) (v w : Level) (o : Option (List Object)) → w.opened ≡ true → Opens_by Disk Whole (with_mark t (hit_of (if_spells o b) m)) v w
hit_opens t b m v w None h = h
hit_opens t b m v w (Some os) h = h

whole-opens : (m n : Marks) (t : Bool) (path : List ℕ) (raw : Answer) (v w : Level) → ReadsAt Main path raw true v w → OpensFor raw w.opened → Opens_by Disk Whole (with_mark t (whole_answer raw)) (level_with m v) (level_with n w)
whole-opens m n t path (Hit b c) v w h o = hit_opens t b c (level_with m v) (level_with n w) (objects b) o
whole-opens m n t path Miss v w h o = o
whole-opens m n t path (Refused Io) v w h o = tt
whole-opens m n t path (Refused BadEntry) v w h o = absurd h
whole-opens m n t path (Refused BadKey) v w h o = absurd h
whole-opens m n t path (Refused FileTooLarge) v w h o = absurd h
whole-opens m n t path (Refused NoRoom) v w h o = absurd h
whole-opens m n t path (Refused (ForReading s)) v w h o = absurd h
whole-opens m n t path (Refused (RemoteRefused d)) v w h o = absurd h
whole-opens m n t path (Refused (NotOpen x)) v w h o = absurd h
whole-opens m n t path (FoundAt p) v w h o = absurd h
whole-opens m n t path (SizeIs z c) v w h o = absurd h

raw-answers : (m n : Marks) (t : Bool) (k : List ℕ) (raw : Answer) (v w : Level) → IsStoreKey k → ReadsAt Main (make_key_path k) raw true v w → Answers_raw Disk k (with_mark t raw) (level_with m v) (level_with n w)
raw-answers m n t k (Hit b c) v w good h = (good, h.1 refl)
raw-answers m n t k Miss v w good h = (good, h)
raw-answers m n t k (Refused Io) v w good h = (good, h)
raw-answers m n t k (Refused BadEntry) v w good h = absurd h
raw-answers m n t k (Refused BadKey) v w good h = absurd h
raw-answers m n t k (Refused FileTooLarge) v w good h = absurd h
raw-answers m n t k (Refused NoRoom) v w good h = absurd h
raw-answers m n t k (Refused (ForReading s)) v w good h = absurd h
raw-answers m n t k (Refused (RemoteRefused d)) v w good h = absurd h
raw-answers m n t k (Refused (NotOpen x)) v w good h = absurd h
raw-answers m n t k (FoundAt p) v w good h = absurd h
raw-answers m n t k (SizeIs z c) v w good h = absurd h

raw-opens : (m n : Marks) (t : Bool) (path : List ℕ) (raw : Answer) (v w : Level) → ReadsAt Main path raw true v w → OpensFor raw w.opened → Opens_by Disk Raw (with_mark t raw) (level_with m v) (level_with n w)
raw-opens m n t path (Hit b c) v w h o = o
raw-opens m n t path Miss v w h o = o
raw-opens m n t path (Refused Io) v w h o = tt
raw-opens m n t path (Refused BadEntry) v w h o = absurd h
raw-opens m n t path (Refused BadKey) v w h o = absurd h
raw-opens m n t path (Refused FileTooLarge) v w h o = absurd h
raw-opens m n t path (Refused NoRoom) v w h o = absurd h
raw-opens m n t path (Refused (ForReading s)) v w h o = absurd h
raw-opens m n t path (Refused (RemoteRefused d)) v w h o = absurd h
raw-opens m n t path (Refused (NotOpen x)) v w h o = absurd h
raw-opens m n t path (FoundAt p) v w h o = absurd h
raw-opens m n t path (SizeIs z c) v w h o = absurd h

-- a hit tells the mark that is kept of its file
tells_own : (m : Marks) (v w : Level) (path b : List ℕ) → w.main ≡ v.main → find_file w.main path ≡ Some b → is_marked m (in_part Main path) ≡ is_marked_at (level_with m v) path
tells_own m v w path b same h = sym (marked-there m v path ∙ and_true (is_marked m (in_part Main path)) (is_there v path) (ap (λ f. is_some (find_file f path)) (sym same) ∙ ap is_some h))

whole_tells : (m : Marks) (k b : List ℕ) (c : Bool) (v w : Level) (o : Option (List Object)) → w.main ≡ v.main → find_file w.main (make_key_path k) ≡ Some b → Tells_mark Disk k Whole (with_mark (own_mark m k) (hit_of (if_spells o b) c)) (level_with m v)
whole_tells m k b c v w None same h = tt
whole_tells m k b c v w (Some os) same h = tells_own m v w (make_key_path k) b same h

whole-tells : (m : Marks) (k : List ℕ) (raw : Answer) (v u w : Level) → w.main ≡ v.main → ReadsAt Main (make_key_path k) raw true u w → Tells_mark Disk k Whole (with_mark (own_mark m k) (whole_answer raw)) (level_with m v)
whole-tells m k (Hit b c) v u w same h = whole_tells m k b c v w (objects b) same (h.1 refl)
whole-tells m k Miss v u w same h = tt
whole-tells m k (Refused c) v u w same h = tt
whole-tells m k (FoundAt p) v u w same h = tt
whole-tells m k (SizeIs n c) v u w same h = tt

raw-tells : (m : Marks) (k : List ℕ) (raw : Answer) (v u w : Level) → w.main ≡ v.main → ReadsAt Main (make_key_path k) raw true u w → Tells_mark Disk k Raw (with_mark (own_mark m k) raw) (level_with m v)
raw-tells m k (Hit b c) v u w same h = tells_own m v w (make_key_path k) b same (h.1 refl)
raw-tells m k Miss v u w same h = tt
raw-tells m k (Refused c) v u w same h = tt
raw-tells m k (FoundAt p) v u w same h = tt
raw-tells m k (SizeIs n c) v u w same h = tt

pre-tells : (m : Marks) (k path : List ℕ) (a : Answer) (v u w : Level) → ReadsAt Pre path a true u w → Tells_mark Disk k PreMode (hit_or_miss a) (level_with m v)
pre-tells m k path (Hit b c) v u w h = h.0
pre-tells m k path Miss v u w h = tt
pre-tells m k path (Refused c) v u w h = tt
pre-tells m k path (FoundAt p) v u w h = tt
pre-tells m k path (SizeIs n c) v u w h = tt

told-reads : (path : List ℕ) (raw : Answer) (told : Bool) (v w : Level) → told ≡ true → ReadsAt Main path raw told v w → ReadsAt Main path raw true v w
told-reads path raw told v w e h = subst (λ (t : Bool). ReadsAt Main path raw t v w) e h

-- an entry is looked up: this is its answer, once a hit tells its mark
entry_asked : (m n : Marks) → n ≡ m → (mode : Mode) (k : List ℕ) (raw : Answer) (old new : DiskStore) → reads_key mode ≡ true → old.facts.kind ≡ Disk → IsStoreKey k → Steady old new → ReadsAt Main (make_key_path k) raw old.told old.level new.level
    → OpensFor raw new.level.opened → AsksDisk k mode (with_mark (own_mark m k) (mode_answer mode raw)) (with_marks m old) (with_marks n new)
entry_asked m n same Whole k raw old new reads kind good s h o told = let r = told-reads (make_key_path k) raw old.told old.level new.level told h in
    asks-whole m n same k (with_mark (own_mark m k) (whole_answer raw)) old new kind s (whole-answers m n (own_mark m k) k raw old.level new.level good r) (whole-opens m n (own_mark m k) (make_key_path k) raw old.level new.level r o) (whole-tells m k raw old.level old.level new.level s.main r)
entry_asked m n same Raw k raw old new reads kind good s h o told = let r = told-reads (make_key_path k) raw old.told old.level new.level told h in
    asks-raw m n same k (with_mark (own_mark m k) raw) old new kind s (raw-answers m n (own_mark m k) k raw old.level new.level good r) (raw-opens m n (own_mark m k) (make_key_path k) raw old.level new.level r o) (raw-tells m k raw old.level old.level new.level s.main r)
entry_asked m n same Path k raw old new reads kind good s h o told = cc
entry_asked m n same PreMode k raw old new reads kind good s h o told = cc
entry_asked m n same Sizes k raw old new reads kind good s h o told = cc

hit_cause : (k b : List ℕ) (m : Bool) (v w : Level) (o : Option (List Object)) → objects b ≡ o → IsStoreKey k → AskCause Whole (hit_of (if_spells o b) m) k v w
hit_cause k b m v w None e good = good
hit_cause k b m v w (Some os) e good = (good, subst Spells (sym e) tt)

entry_cause : (mode : Mode) (k : List ℕ) (raw : Answer) (told : Bool) (v w : Level) → reads_key mode ≡ true → IsStoreKey k → ReadsAt Main (make_key_path k) raw told v w → AskCause mode (mode_answer mode raw) k v w
entry_cause Whole k (Hit b m) told v w reads good h = hit_cause k b m v w (objects b) refl good
entry_cause Whole k Miss told v w reads good h = good
entry_cause Whole k (Refused Io) told v w reads good h = (good, h)
entry_cause Whole k (Refused BadEntry) told v w reads good h = absurd h
entry_cause Whole k (Refused BadKey) told v w reads good h = absurd h
entry_cause Whole k (Refused FileTooLarge) told v w reads good h = absurd h
entry_cause Whole k (Refused NoRoom) told v w reads good h = absurd h
entry_cause Whole k (Refused (ForReading s)) told v w reads good h = absurd h
entry_cause Whole k (Refused (RemoteRefused d)) told v w reads good h = absurd h
entry_cause Whole k (Refused (NotOpen x)) told v w reads good h = absurd h
entry_cause Whole k (FoundAt p) told v w reads good h = absurd h
entry_cause Whole k (SizeIs n c) told v w reads good h = absurd h
entry_cause Raw k (Hit b m) told v w reads good h = good
entry_cause Raw k Miss told v w reads good h = good
entry_cause Raw k (Refused Io) told v w reads good h = (good, h)
entry_cause Raw k (Refused BadEntry) told v w reads good h = absurd h
entry_cause Raw k (Refused BadKey) told v w reads good h = absurd h
entry_cause Raw k (Refused FileTooLarge) told v w reads good h = absurd h
entry_cause Raw k (Refused NoRoom) told v w reads good h = absurd h
entry_cause Raw k (Refused (ForReading s)) told v w reads good h = absurd h
entry_cause Raw k (Refused (RemoteRefused d)) told v w reads good h = absurd h
entry_cause Raw k (Refused (NotOpen x)) told v w reads good h = absurd h
entry_cause Raw k (FoundAt p) told v w reads good h = absurd h
entry_cause Raw k (SizeIs n c) told v w reads good h = absurd h
entry_cause Path k raw told v w reads good h = cc
entry_cause PreMode k raw told v w reads good h = cc
entry_cause Sizes k raw told v w reads good h = cc

pub if_ok : {A E : Type 0} {P Q : A → Type 0} (r : Result A E) → IfOk r P → ((a : A) → P a → Q a) → IfOk r Q
if_ok (Ok a) h f = f a h
if_ok (Err e) h f = tt

pub asked-entry : (m n : Marks) → n ≡ m → (mode : Mode) (k : List ℕ) (raw : Answer) (old new : DiskStore) (r : Result Answer NoMemory) → reads_key mode ≡ true → old.facts.kind ≡ Disk → IsStoreKey k → Steady old new
    → ReadsAt Main (make_key_path k) raw old.told old.level new.level → OpensFor raw new.level.opened → IfOk r (λ a. a ≡ mode_answer mode raw) → IfOk r (λ a. AsksDisk k mode (with_mark (own_mark m k) a) (with_marks m old) (with_marks n new))
asked-entry m n same mode k raw old new r reads kind good s h o is =
    if_ok r is (λ a e. subst (λ (x : Answer). AsksDisk k mode (with_mark (own_mark m k) x) (with_marks m old) (with_marks n new)) (sym e) (entry_asked m n same mode k raw old new reads kind good s h o))

pub cause-entry : (mode : Mode) (k : List ℕ) (raw : Answer) (told : Bool) (v w : Level) (r : Result Answer NoMemory) → reads_key mode ≡ true → IsStoreKey k → ReadsAt Main (make_key_path k) raw told v w
    → IfOk r (λ a. a ≡ mode_answer mode raw) → IfOk r (λ a. AskCause mode a k v w)
cause-entry mode k raw told v w r reads good h is = if_ok r is (λ a e. subst (λ (x : Answer). AskCause mode x k v w) (sym e) (entry_cause mode k raw told v w reads good h))

not_both : (b : Bool) → b ≡ false → b ≡ true → ⊥
not_both true p q = cc
not_both false p q = cc

-- a bad key
pub asked-bad : (m : Marks) (mode : Mode) (k : List ℕ) (s : DiskStore) → reads_key mode ≡ true → s.facts.kind ≡ Disk → is_store_key k ≡ false → AsksDisk k mode (Refused BadKey) (with_marks m s) (with_marks m s)
asked-bad m Whole k s reads kind bad told = asks-whole m m refl k (Refused BadKey) s s kind (steady-self s) (not_both (is_store_key k) bad) refl tt
asked-bad m Raw k s reads kind bad told = asks-raw m m refl k (Refused BadKey) s s kind (steady-self s) (not_both (is_store_key k) bad) refl tt
asked-bad m Path k s reads kind bad told = cc
asked-bad m PreMode k s reads kind bad told = cc
asked-bad m Sizes k s reads kind bad told = cc

pub cause-bad : (mode : Mode) (k : List ℕ) (v w : Level) → reads_key mode ≡ true → is_store_key k ≡ false → AskCause mode (Refused BadKey) k v w
cause-bad Whole k v w reads bad = not_both (is_store_key k) bad
cause-bad Raw k v w reads bad = not_both (is_store_key k) bad
cause-bad Path k v w reads bad = cc
cause-bad PreMode k v w reads bad = cc
cause-bad Sizes k v w reads bad = cc

-- a preprocessor entry
pre-answers : (m n : Marks) (k : List ℕ) (a : Answer) (v w : Level) → IsStoreKey k → ReadsAt Pre (normalize_key k) a true v w → w.opened ≡ true → Answers_pre Disk k (hit_or_miss a) (level_with m v) (level_with n w)
pre-answers m n k (Hit b c) v w good h o = (good, h.1 refl)
pre-answers m n k Miss v w good h o = inr (good, inl (o, h))
pre-answers m n k (Refused Io) v w good h o = inr (good, inr (o, h))
pre-answers m n k (Refused BadEntry) v w good h o = absurd h
pre-answers m n k (Refused BadKey) v w good h o = absurd h
pre-answers m n k (Refused FileTooLarge) v w good h o = absurd h
pre-answers m n k (Refused NoRoom) v w good h o = absurd h
pre-answers m n k (Refused (ForReading s)) v w good h o = absurd h
pre-answers m n k (Refused (RemoteRefused d)) v w good h o = absurd h
pre-answers m n k (Refused (NotOpen x)) v w good h o = absurd h
pre-answers m n k (FoundAt p) v w good h o = absurd h
pre-answers m n k (SizeIs z c) v w good h o = absurd h

pre-opens : (m n : Marks) (path : List ℕ) (a : Answer) (v w : Level) → ReadsAt Pre path a true v w → w.opened ≡ true → Opens_by Disk PreMode (hit_or_miss a) (level_with m v) (level_with n w)
pre-opens m n path (Hit b c) v w h o = o
pre-opens m n path Miss v w h o = tt
pre-opens m n path (Refused c) v w h o = tt
pre-opens m n path (FoundAt p) v w h o = absurd h
pre-opens m n path (SizeIs z c) v w h o = absurd h

pub asked-pre : (m n : Marks) → n ≡ m → (k : List ℕ) (a : Answer) (old new : DiskStore) → old.facts.kind ≡ Disk → IsStoreKey k → Steady old new → ReadsAt Pre (normalize_key k) a old.told old.level new.level → new.level.opened ≡ true
    → AsksDisk k PreMode (hit_or_miss a) (with_marks m old) (with_marks n new)
asked-pre m n same k a old new kind good s h o told =
    let r = subst (λ (t : Bool). ReadsAt Pre (normalize_key k) a t old.level new.level) told h in
    asks-pre m n same k (hit_or_miss a) old new kind s (pre-answers m n k a old.level new.level good r o) (pre-opens m n (normalize_key k) a old.level new.level r o) (pre-tells m k (normalize_key k) a old.level old.level new.level r)

pub asked-pre_bad : (m : Marks) (k : List ℕ) (s : DiskStore) → s.facts.kind ≡ Disk → is_store_key k ≡ false → AsksDisk k PreMode Miss (with_marks m s) (with_marks m s)
asked-pre_bad m k s kind bad told = asks-pre m m refl k Miss s s kind (steady-self s) (inl (not_both (is_store_key k) bad, refl)) tt tt

pub asked-pre_refused : (m n : Marks) → n ≡ m → (k : List ℕ) (old new : DiskStore) → old.facts.kind ≡ Disk → IsStoreKey k → Steady old new → Rose old.level.faults new.level.faults → new.level.opened ≡ false → AsksDisk k PreMode (Refused Io) (with_marks m old) (with_marks n new)
asked-pre_refused m n same k old new kind good s rose shut told = asks-pre m n same k (Refused Io) old new kind s (good, rose, shut) tt tt

pub cause-pre : (k : List ℕ) (a : Answer) (told : Bool) (v w : Level) → IsStoreKey k → ReadsAt Pre (normalize_key k) a told v w → AskCause PreMode (hit_or_miss a) k v w
cause-pre k (Hit b m) told v w good h = (good, h.0)
cause-pre k Miss told v w good h = tt
cause-pre k (Refused c) told v w good h = tt
cause-pre k (FoundAt p) told v w good h = absurd h
cause-pre k (SizeIs n c) told v w good h = absurd h

-- where an entry's file stands
module _ (m n : Marks) (same : n ≡ m) (k : List ℕ) (old new : DiskStore) (kind : old.facts.kind ≡ Disk) (good : IsStoreKey k) (s : Steady old new) where
  pub asked-path : (root p : List ℕ) → HasFile (make_key_path k) true old.told new.level → new.level.opened ≡ true → root ≡ new.facts.root → p ≡ root ++ 47 ∷ make_key_path k → AsksDisk k Path (FoundAt p) (with_marks m old) (with_marks n new)
  asked-path root p h o at is told =
      let there = h told in
      asks-path m n same k (FoundAt p) old new kind s (good, (there.0, there.1), is ∙ ap (λ (r : List ℕ). r ++ 47 ∷ make_key_path k) (at ∙ ap (λ (f : LevelFacts). f.root) s.facts)) o tt told

  pub asked-path_none : HasFile (make_key_path k) false old.told new.level → new.level.opened ≡ true → AsksDisk k Path Miss (with_marks m old) (with_marks n new)
  asked-path_none h o told = asks-path m n same k Miss old new kind s (inr (good, inl (o, h))) tt tt told

  -- no file is read, so that a fault was met where the store was to be opened
  pub asked-path_refused : Rose old.level.faults new.level.faults → new.level.opened ≡ false → AsksDisk k Path Miss (with_marks m old) (with_marks n new)
  asked-path_refused rose shut told = asks-path m n same k Miss old new kind s (inr (good, inr (shut, rose))) tt tt told

pub asked-path_bad : (m : Marks) (k : List ℕ) (s : DiskStore) → s.facts.kind ≡ Disk → is_store_key k ≡ false → AsksDisk k Path Miss (with_marks m s) (with_marks m s)
asked-path_bad m k s kind bad told = asks-path m m refl k Miss s s kind (steady-self s) (inl (not_both (is_store_key k) bad, refl)) tt tt told

-- how much it holds
pub asked-size : (m : Marks) (k : List ℕ) (z : Option ℕ) (s : DiskStore) → s.facts.kind ≡ Disk → (s.told ≡ true → z ≡ level_size Disk s.level s.reserved) → AsksDisk k Sizes (SizeIs z None) (with_marks m s) (with_marks m s)
asked-size m k z s kind is told = asks m m refl k (SizeIs z None) s s kind (steady-self s) Sizes (subst (λ (d : LevelKind). z ≡ level_size d (level_with m s.level) s.reserved) (sym kind) (is told)) refl tt

hit_marked : (b : Bool) (mode : Mode) (k bytes : List ℕ) (m : Bool) (v w : Level) → reads_key mode ≡ true → AskCause mode (Hit bytes m) k v w → AskCause mode (Hit bytes b) k v w
hit_marked b Whole k bytes m v w reads h = h
hit_marked b Raw k bytes m v w reads h = h
hit_marked b Path k bytes m v w reads h = cc
hit_marked b PreMode k bytes m v w reads h = cc
hit_marked b Sizes k bytes m v w reads h = cc

pub cause-marked : (b : Bool) (mode : Mode) (k : List ℕ) (a : Answer) (v w : Level) → reads_key mode ≡ true → AskCause mode a k v w → AskCause mode (with_mark b a) k v w
cause-marked b mode k (Hit bytes m) v w reads h = hit_marked b mode k bytes m v w reads h
cause-marked b mode k Miss v w reads h = h
cause-marked b mode k (Refused c) v w reads h = h
cause-marked b mode k (FoundAt p) v w reads h = h
cause-marked b mode k (SizeIs n c) v w reads h = h

pub tells-marked : (marks : Marks) (key path : List ℕ) (a : Answer) → path ≡ make_key_path key → TellsMark marks key (with_mark (is_marked marks (in_part Main path)) a)
tells-marked marks key path (Hit bytes m) at = ap (λ p. is_marked marks (in_part Main p)) at
tells-marked marks key path Miss at = tt
tells-marked marks key path (Refused c) at = tt
tells-marked marks key path (FoundAt p) at = tt
tells-marked marks key path (SizeIs n c) at = tt

-- by an answer that was told so
module _ (mode : Mode) (k path : List ℕ) (b : Bool) (a : Answer) (r : Result Answer NoMemory) (reads : reads_key mode ≡ true) (is : IfOk r (λ told. told ≡ with_mark b a)) where
  pub asked-told : (c : Bool) (old new : DiskStore) → b ≡ c → AsksDisk k mode (with_mark c a) old new → IfOk r (λ told. AsksDisk k mode told old new)
  asked-told c old new mark h = if_ok r is (λ told e. subst (λ (x : Answer). AsksDisk k mode x old new) (sym (e ∙ ap (λ x. with_mark x a) mark)) h)

  pub cause-told : (v w : Level) → AskCause mode a k v w → IfOk r (λ told. AskCause mode told k v w)
  cause-told v w h = if_ok r is (λ told e. subst (λ (x : Answer). AskCause mode x k v w) (sym e) (cause-marked b mode k a v w reads h))

  pub mark-told : (marks : Marks) → b ≡ is_marked marks (in_part Main path) → path ≡ make_key_path k → IfOk r (λ told. TellsMark marks k told)
  mark-told marks mark at = if_ok r is (λ told e. subst (TellsMark marks k) (sym (e ∙ ap (λ c. with_mark c a) mark)) (tells-marked marks k path a at))
