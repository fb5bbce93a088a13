-- A level that is only read, by the store in it.
use Rattle.std.proofs.Common.{◌≡◌, inl, ℕ, Bool, false, List, [], length, Some, Result, Ok, Err, IfOk, refl, subst, sym}
use Rattle.sc_disk.specs.Store.{AddEntry}
use Rattle.sc_store_disk.specs.DiskStores.{OpenEntry, entry_at}
use Rattle.sc_store_disk.specs.Entries.{IsOpenAt}
use Rattle.sc_entry.specs.Entries.{objects}
use Rattle.sc_model.specs.Asking.{Answers}
use Rattle.sc_model.specs.Levels.{KeepsMarks, Later, Level}
use Rattle.sc_model.specs.WriteCauses.{causes}
use Rattle.sc_model.specs.Writing.{Puts_pre, Puts_pre_remote, Reserves}
use Rattle.sc_model.specs.declared.event.Answer.{Answer}
use Rattle.sc_model.specs.declared.event.Answer.TheVariants.{Found as FoundAt, Hit, Miss, Refused, Size as SizeIs}
use Rattle.sc_model.specs.declared.event.Mode.{Mode}
use Rattle.sc_model.specs.declared.event.Mode.TheVariants.{Path, Pre, Raw, Size as Sizes, Whole}
use Rattle.sc_model.specs.declared.event.Written.TheVariants.{Done as WriteDone, Refused as NotWritten}
use Rattle.sc_model.specs.declared.level.Cause.TheVariants.{ReadOnly as ForReading}
use Rattle.sc_model.specs.declared.level.LevelFacts.{LevelFacts}
use Rattle.sc_model.specs.declared.level.LevelKind.{LevelKind}
use Rattle.sc_model.specs.declared.level.LevelKind.TheVariants.{Disk, Remote}
use Rattle.sc_model.specs.declared.level.Policy.{Policy}
use Rattle.sc_model.specs.declared.level.Store.TheVariants.{Wrapper}
use Rattle.sc_store_disk.specs.declared.reserving.Reservation.TheVariants.{Refused as NotReserved}
use Rattle.sc_store.specs.Asking.{AsksLevel, PutsLevel, PutsPre, ReservesDisk}
use Rattle.sc_store.specs.Held.{HeldLevel, disk_of}
use Rattle.sc_store.specs.Levels.{held_level, held_read_only, only_read, read_only}
use Rattle.sc_store.specs.declared.level.Level.{Level as StoreLevel}
use Rattle.sc_store.specs.declared.level.Level.TheVariants.{ReadOnly as IsReadOnly}
use Rattle.sc_store.specs.declared.read_only.ReadOnlyLevel.{ReadOnlyLevel}
use Rattle.sc_store.specs.declared.read_only.ReadOnlyLevel.TheVariants.{Disk as DiskOnly, Remote as RemoteOnly}
use Rattle.sc_store.proofs.Askings.{no_call, refused_early}
use Rattle.sc_store.proofs.Devices.{later_same}

-- what a lookup is answered doesn't rest on who may write
answers_read : (f : LevelFacts) (r : ℕ) (k : List ℕ) (mode : Mode) (a : Answer) (v w : Level) → Answers objects f r k mode a v w → Answers objects (only_read f) r k mode a v w
answers_read f r k Whole a v w h = h
answers_read f r k Raw a v w h = h
answers_read f r k Pre a v w h = h
answers_read f r k Sizes a v w h = h
answers_read f r k Path (FoundAt p) v w h = h
answers_read f r k Path Miss v w h = h
answers_read f r k Path (Hit b mark) v w h = h
answers_read f r k Path (Refused c) v w h = h
answers_read f r k Path (SizeIs n counts) v w h = h

asked_read : (key : List ℕ) (mode : Mode) (answer : Answer) (old new : HeldLevel) → AsksLevel key mode answer old new → AsksLevel key mode answer (read_only old) (read_only new)
asked_read key mode answer old new h told has =
    let a = h told has in
    record {
      later = a.later;
      keeps = a.keeps;
      answers = answers_read old.facts old.room.reserved key mode answer old.level new.level a.answers;
      opens = a.opens;
      marks = a.marks;
      tells_mark = a.tells_mark;
      calls = a.calls;
      written = a.written;
    }

pub if_asked_read : {E : Type 0} (r : Result Answer E) (key : List ℕ) (mode : Mode) (old new : HeldLevel) → IfOk r (λ answer. AsksLevel key mode answer old new) → IfOk r (λ answer. AsksLevel key mode answer (read_only old) (read_only new))
if_asked_read (Ok answer) key mode old new h = asked_read key mode answer old new h
if_asked_read (Err e) key mode old new h = tt

-- nothing is open that can be reached
no_entry : (number : ℕ) (o : OpenEntry) → entry_at [] number ≡ Some o → ⊥
no_entry number o h = absurd (cc)

pub none_open_read : (entry : AddEntry) (h : HeldLevel) → IsOpenAt entry (disk_of (read_only h)) → ⊥
none_open_read entry h is = no_entry entry.number is.1.0 is.1.1

-- it is as it was
pub later_read : {R D V : Type 0} (l : StoreLevel R D V) (only : ReadOnlyLevel R D V) → l ≡ IsReadOnly only → Later (held_level l).level (held_read_only only).level
later_read {R} {D} {V} l only is = subst (λ (m : StoreLevel R D V). Later (held_level m).level (held_read_only only).level) (sym is) (later_same (held_read_only only).level)

-- a put at a level that is only read
module _ {R D V : Type 0} (policy : Policy) (key bytes : List ℕ) (mark : Bool) where
  puts_only : (only : ReadOnlyLevel R D V) → (held_read_only only).facts.kind ≡ Remote → KeepsMarks (held_read_only only).level (held_read_only only).level → PutsLevel policy key bytes mark (NotWritten (ForReading Wrapper)) (held_read_only only) (held_read_only only)
  puts_only (RemoteOnly x) kind same told r = refused_early policy (only_read x.store.facts) key bytes mark x.store.level kind same (ForReading Wrapper) refl r
  puts_only (DiskOnly x) kind same told r = refused_early policy (only_read x.store.facts) key bytes mark x.store.level kind same (ForReading Wrapper) refl r

  pub puts_read : (l : StoreLevel R D V) (only : ReadOnlyLevel R D V) → l ≡ IsReadOnly only → (held_level l).facts.kind ≡ Remote → KeepsMarks (held_read_only only).level (held_read_only only).level
      → PutsLevel policy key bytes mark (NotWritten (ForReading Wrapper)) (held_level l) (held_read_only only)
  puts_read l only is kind same =
      subst (λ (m : StoreLevel R D V). PutsLevel policy key bytes mark (NotWritten (ForReading Wrapper)) (held_level m) (held_read_only only)) (sym is)
      (puts_only only (subst (λ (m : StoreLevel R D V). (held_level m).facts.kind ≡ Remote) is kind) same)

-- a reservation and a put of a preprocessor entry there
only_reserved : (policy : Policy) (f : LevelFacts) (key : List ℕ) (size r : ℕ) (v : Level) → KeepsMarks v v → Reserves f.capacity (causes policy (only_read f) r key size) r size (NotWritten (ForReading Wrapper)) v v
only_reserved policy f key size r v same = (0, ((refl, (refl, refl), refl), refl), tt, same, refl)

only_put : (policy : Policy) (f : LevelFacts) (kind : LevelKind) (key bytes : List ℕ) (r : ℕ) (v : Level) → KeepsMarks v v → Puts_pre (only_read f) kind (causes policy (only_read f) r key (length bytes)) r key bytes (NotWritten (ForReading Wrapper)) v v
only_put policy f Disk key bytes r v same = (0, ((refl, (refl, refl), refl), refl), tt, same, refl)
only_put policy f Remote key bytes r v same = refl

module _ {R D V : Type 0} (policy : Policy) where
  reserves_only : (only : ReadOnlyLevel R D V) (key : List ℕ) (size : ℕ) → KeepsMarks (held_read_only only).level (held_read_only only).level → ReservesDisk policy key size (NotReserved (ForReading Wrapper)) (disk_of (held_read_only only)) (disk_of (held_read_only only))
  reserves_only (RemoteOnly x) key size same told = only_reserved policy x.store.facts key size x.store.room.reserved x.store.level same
  reserves_only (DiskOnly x) key size same told = only_reserved policy x.store.facts key size x.store.room.reserved x.store.level same

  pub reserves_read : (l : StoreLevel R D V) (only : ReadOnlyLevel R D V) → l ≡ IsReadOnly only → (key : List ℕ) (size : ℕ) → KeepsMarks (held_read_only only).level (held_read_only only).level
      → ReservesDisk policy key size (NotReserved (ForReading Wrapper)) (disk_of (held_level l)) (disk_of (held_read_only only))
  reserves_read l only is key size same = subst (λ (m : StoreLevel R D V). ReservesDisk policy key size (NotReserved (ForReading Wrapper)) (disk_of (held_level m)) (disk_of (held_read_only only))) (sym is) (reserves_only only key size same)

  puts_pre_only : (only : ReadOnlyLevel R D V) (key bytes : List ℕ) → KeepsMarks (held_read_only only).level (held_read_only only).level → PutsPre policy key bytes (NotWritten (ForReading Wrapper)) (disk_of (held_read_only only)) (disk_of (held_read_only only))
  puts_pre_only (RemoteOnly x) key bytes same told = only_put policy x.store.facts x.store.facts.kind key bytes x.store.room.reserved x.store.level same
  puts_pre_only (DiskOnly x) key bytes same told = only_put policy x.store.facts x.store.facts.kind key bytes x.store.room.reserved x.store.level same

  pub puts_pre_read : (l : StoreLevel R D V) (only : ReadOnlyLevel R D V) → l ≡ IsReadOnly only → (key bytes : List ℕ) → KeepsMarks (held_read_only only).level (held_read_only only).level
      → PutsPre policy key bytes (NotWritten (ForReading Wrapper)) (disk_of (held_level l)) (disk_of (held_read_only only))
  puts_pre_read l only is key bytes same = subst (λ (m : StoreLevel R D V). PutsPre policy key bytes (NotWritten (ForReading Wrapper)) (disk_of (held_level m)) (disk_of (held_read_only only))) (sym is) (puts_pre_only only key bytes same)

-- a preprocessor entry at a remote level, which keeps none
pub puts_pre_remote : (policy : Policy) (h : HeldLevel) (key bytes : List ℕ) → h.facts.kind ≡ Remote → h.facts.wrapped ≡ false → KeepsMarks h.level h.level → PutsPre policy key bytes WriteDone (disk_of h) (disk_of h)
puts_pre_remote policy h key bytes kind bare same told =
    subst (λ (k : LevelKind). Puts_pre h.facts k (causes policy h.facts h.room.reserved key (length bytes)) h.room.reserved key bytes WriteDone h.level h.level) (sym kind)
    (subst (λ (b : Bool). Puts_pre_remote b WriteDone h.level h.level) (sym bare) ((inl refl, refl), no_call h.level.calls h.level.faults, same, (refl, refl, refl)))
