-- A put at a disk level: its reservation, its fill and its commit in one.
use Rattle.std.proofs.Common.{◌≡◌, ◌≢◌, ◌==◌, eqb-true, eq-eqb, ℕ, ◌+◌, ◌≤◌, Bool, true, false, not, IsTrue, List, [], ◌∷◌, length, slice_set, Option, Some, None, is_some, ◌&&◌, refl, arith, subst, sym, ap, ◌∙◌, set-set, length-set, inl, inr, Result, Ok, Err, IfOk}
use Rattle.std.specs.Cmp.Lexicographic.{nat_list_eq_equiv}
use Rattle.std.specs.Option.{option_map_or}
use Rattle.sc_disk.specs.Store.{AddEntry}
use Rattle.sc_store_disk.specs.DiskStores.{DiskStore, OpenEntry, entry_at, entry_path}
use Rattle.sc_store_disk.specs.Entries.{ClosesEntry, CommitCause, CommitsAt, CommitsEntry, CommitsFile, FillsBy, IsOpenAt, OthersStay, size_at}
use Rattle.sc_store_disk.specs.Marked.{MarksCommitted, MarksFilled, MarksOpened}
use Rattle.sc_store_disk.specs.Marks.{Fills, Forgets, Marks, SameMarks, after_fill, filled_by, is_marked, mark_of}
use Rattle.sc_store_disk.specs.Moving.{Opens, OpensBy, ReserveCause, SameEntries, written_of as reserved_of}
use Rattle.sc_store_disk.specs.declared.filling.Filling.TheVariants.{Filled as StillOpen, Refused as NotFilled}
use Rattle.sc_store_disk.specs.declared.reserving.Reservation.{Reservation}
use Rattle.sc_store_disk.specs.declared.reserving.Reservation.TheVariants.{Open, Refused as NotOpened}
use Rattle.sc_entry.proofs.Gatherings.{rose_later}
use Rattle.sc_entry.specs.Keys.{is_store_key, make_key_path}
use Rattle.sc_model.specs.Plan.{level_facts}
use Rattle.sc_model.specs.Asking.{same_maps}
use Rattle.sc_model.specs.Evicting.{Evicts, drop_part}
use Rattle.sc_model.specs.Levels.{IsFault, KeepsMarks, Later, Level, SetsMark, find_file, is_later, is_marked as is_marked_at, is_there, put_file}
use Rattle.sc_model.specs.WriteCauses.{Causes, causes, or_cause, read_only_store, refuses_writes, room_cause}
use Rattle.sc_model.specs.Writing.{Evicts_unless, Fills as FillsLevel, Reserves}
use Rattle.sc_model.specs.declared.event.Written.{Written}
use Rattle.sc_model.specs.declared.event.Written.TheVariants.{Done, Refused}
use Rattle.sc_model.specs.declared.level.Cause.{Cause}
use Rattle.sc_model.specs.declared.level.Cause.TheVariants.{BadEntry, BadKey, FileTooLarge, Io, NotOpen, ReadOnly as ForReading, RemoteFault as RemoteRefused, Reserved as NoRoom}
use Rattle.sc_model.specs.declared.level.LevelFacts.{LevelFacts}
use Rattle.sc_model.specs.declared.level.LevelKind.TheVariants.{Disk}
use Rattle.sc_model.specs.declared.level.Policy.{Policy}
use Rattle.sc_store_alone.specs.Moving.{Keeps}
use Rattle.sc_disk_pair.specs.Parts.{in_part}
use Rattle.sc_disk_pair.specs.declared.part.Part.TheVariants.{Main}
use Rattle.sc_store_alone.specs.Puts.{EntryCause, PutMarks, PutsDisk, PutsEntry, PutsEntryBy}
use Rattle.sc_store.proofs.Alone.{other_set}
use Rattle.sc_store_disk.proofs.Devices.{later_then}
use Rattle.sc_store_disk.proofs.LevelMarks.{IsFewer, marks_stay, put_there, same-fewer}
use Rattle.sc_store.specs.Asking.{AloneAt, ReservesDisk}
use Rattle.sc_store.specs.Held.{Held, disk_in, level_in, marks_in, no_room, room_in}

never : false ≡ true → ⊥
never e = absurd (cc)

pub if_all : {A E : Type 0} {P Q M S : A → Type 0} (r : Result A E) → ((a : A) → P a → Q a → M a → S a) → IfOk r P → IfOk r Q → IfOk r M → IfOk r S
if_all (Ok a) f p q m = f a p q m
if_all (Err e) f p q m = tt

-- one level moved twice
pub alone_then : (l : ℕ) (a b c : Held) → AloneAt l a b → AloneAt l b c → AloneAt l a c
alone_then l a b c s t = record {
  titles = t.titles ∙ s.titles;
  facts = t.facts ∙ s.facts;
  policy = t.policy ∙ s.policy;
  told = t.told ∙ s.told;
  levels = t.levels ∙ ap (λ vs. slice_set vs l (level_in c.levels l)) s.levels ∙ set-set a.levels l (level_in b.levels l) (level_in c.levels l);
  rooms = t.rooms ∙ ap (λ rs. slice_set rs l (room_in c.rooms l)) s.rooms ∙ set-set a.rooms l (room_in b.rooms l) (room_in c.rooms l);
  marks = t.marks ∙ ap (λ ms. slice_set ms l (marks_in c.marks l)) s.marks ∙ set-set a.marks l (marks_in b.marks l) (marks_in c.marks l);
}

-- what is so of one level, and of all others, is so of all
every : (P : ℕ → Type 0) (l : ℕ) → P l → ((m : ℕ) → m ≢ l → P m) → (m : ℕ) → P m
every P l at apart m = (elim (m == l) as (λ t. (m == l) ≡ t → P m) [
  | true ↦ λ e. subst P (sym (eqb-true m l e)) at
  | false ↦ λ e. apart m (λ is. never (sym e ∙ eq-eqb m l is))
]) refl

pub keeps_alone : (l : ℕ) (a b : Held) → AloneAt l a b → SameEntries (disk_in a l) (disk_in b l) → Keeps a b
keeps_alone l a b s same = record {
  titles = s.titles;
  facts = s.facts;
  policy = s.policy;
  told = s.told;
  count = ap length s.levels ∙ length-set a.levels l (level_in b.levels l);
  reserved = every (λ m. (room_in b.rooms m).reserved ≡ (room_in a.rooms m).reserved) l same.reserved (λ m apart. ap (λ r. r.reserved) (elsewhere m apart));
  entries = every (λ m. (number : ℕ) → entry_at (room_in b.rooms m).entries number ≡ entry_at (room_in a.rooms m).entries number) l same.entries (λ m apart number. ap (λ r. entry_at r.entries number) (elsewhere m apart));
} where
  elsewhere : (m : ℕ) → m ≢ l → room_in b.rooms m ≡ room_in a.rooms m
  elsewhere m apart = ap (λ rs. room_in rs m) s.rooms ∙ other_set a.rooms l m (room_in b.rooms l) no_room apart

-- An entry was opened for a put.
pub record Opened (policy : Policy) (key : List ℕ) (size : ℕ) (e : AddEntry) (s t : DiskStore) : Type 0 where
  pub later : Later s.level t.level
  pub told : t.told ≡ s.told
  pub reserves : s.told ≡ true → Reserves s.facts.capacity (causes policy s.facts s.reserved key size) s.reserved size Done s.level t.level
  pub opens : Opens (entry_path key) size e s t
  pub free : (causes policy s.facts s.reserved key size).all ≡ None

pub opened_by : (policy : Policy) (key : List ℕ) (size : ℕ) (how : Reservation) (e : AddEntry) (s t : DiskStore) → how ≡ Open e → Later s.level t.level → t.told ≡ s.told → ReservesDisk policy key size how s t → OpensBy (entry_path key) size how s t
    → ReserveCause (causes policy s.facts s.reserved key size) how s.level t.level → Opened policy key size e s t
opened_by policy key size how e s t is later told moved opens cause = record {
  later = later;
  told = told;
  reserves = λ tells. subst (λ (x : Reservation). Reserves s.facts.capacity (causes policy s.facts s.reserved key size) s.reserved size (reserved_of x) s.level t.level) is (moved tells);
  opens = subst (λ (x : Reservation). OpensBy (entry_path key) size x s t) is opens;
  free = subst (λ (x : Reservation). ReserveCause (causes policy s.facts s.reserved key size) x s.level t.level) is cause;
}

-- one level of several
pub was_opened : (l : ℕ) (a b : Held) (key : List ℕ) (size : ℕ) (how : Reservation) (e : AddEntry) → how ≡ Open e → AloneAt l a b → Later (level_in a.levels l) (level_in b.levels l) → ReservesDisk a.policy key size how (disk_in a l) (disk_in b l)
    → OpensBy (entry_path key) size how (disk_in a l) (disk_in b l) → ReserveCause (causes a.policy (level_facts a.facts l) (room_in a.rooms l).reserved key size) how (level_in a.levels l) (level_in b.levels l) → Opened a.policy key size e (disk_in a l) (disk_in b l)
was_opened l a b key size how e is alone later moved opens cause = opened_by a.policy key size how e (disk_in a l) (disk_in b l) is later alone.told moved opens cause

-- what it is once it was filled, and before
abbrev pub filled : List ℕ → ℕ → List ℕ → Option Bool → OpenEntry
filled key size bytes fills = record { path = entry_path key; size = size; bytes = bytes; fills = fills }

pub still_open : (policy : Policy) (key : List ℕ) (size : ℕ) (e e2 : AddEntry) (bytes : List ℕ) (mark : Bool) (s t u : DiskStore) → Opened policy key size e s t → FillsBy e bytes (filled_by mark) (StillOpen e2) t u → IsOpenAt e2 u
still_open policy key size e e2 bytes mark s t u o f =
    let at = f.1.entry (filled key size [] None) o.opens.opened in
    subst (λ (x : AddEntry). IsOpenAt x u) (sym f.0) (o.opens.divided, (filled key size at.0 (Some mark), at.1, sym o.opens.key))

-- it is closed again, and all that was open before is open
same_entries : (path : List ℕ) (size : ℕ) (e : AddEntry) (s t u w : DiskStore) → Opens path size e s t → OthersStay e.number t u → u.reserved ≡ t.reserved → size_at u e.number ≡ size → ClosesEntry e.number u w → SameEntries s w
same_entries path size e s t u w opens others same declared closes = record {
  reserved = omega (arith, closes.reserved, same, declared, opens.reserved);
  entries = every (λ m. entry_at w.entries m ≡ entry_at s.entries m) e.number (closes.closed ∙ sym opens.free) (λ m apart. closes.others m apart ∙ others m apart ∙ opens.others m apart);
}

size_of_entry : (o : Option OpenEntry) (x : OpenEntry) → o ≡ Some x → option_map_or (λ (y : OpenEntry). y.size) o 0 ≡ x.size
size_of_entry o x is = ap (λ (z : Option OpenEntry). option_map_or (λ (y : OpenEntry). y.size) z 0) is

pub closed_again : (policy : Policy) (key : List ℕ) (size : ℕ) (e e2 : AddEntry) (bytes : List ℕ) (mark : Bool) (s t u w : DiskStore) → Opened policy key size e s t → FillsBy e bytes (filled_by mark) (StillOpen e2) t u → ClosesEntry e2.number u w → SameEntries s w
closed_again policy key size e e2 bytes mark s t u w o f closes =
    let at = f.1.entry (filled key size [] None) o.opens.opened in
    same_entries (entry_path key) size e s t u w o.opens f.1.others f.1.reserved (size_of_entry (entry_at u.entries e.number) (filled key size at.0 (Some mark)) at.1) (subst (λ (n : ℕ). ClosesEntry n u w) (ap (λ (x : AddEntry). x.number) f.0) closes)

-- what is put is refused for no cause of its own
or_early : (a b : Bool) (x : Cause) (rest : Option Cause) → or_cause a x (or_cause b BadKey rest) ≡ None → or_cause a x (or_cause b BadKey None) ≡ None
or_early true b x rest h = absurd (cc)
or_early false true x rest h = absurd (cc)
or_early false false x rest h = refl

none_early : (p : Policy) (f : LevelFacts) (r : ℕ) (key : List ℕ) (size : ℕ) → (causes p f r key size).all ≡ None → (causes p f r key size).early ≡ None
none_early p f r key size h = or_early (refuses_writes p f) (not (is_store_key key)) (ForReading (read_only_store f f.wrapped)) (room_cause f.kind f.capacity r size) h

evicts_to : (capacity more : ℕ) (ps : List (Bool × List ℕ)) (v u w : Level) → same_maps u w → Evicts capacity more ps v u → Evicts capacity more ps v w
evicts_to capacity more [] v u w same h = (same.0 ∙ h.0, same.1 ∙ h.1)
evicts_to capacity more (p ∷ ps) v u w same h = (h.0, h.1, evicts_to capacity more ps (drop_part p.0 p.1 v) u w same h.2)

unless_to : (o : Option Cause) (capacity more gone : ℕ) (v u w : Level) → same_maps u w → Evicts_unless o capacity more gone v u → Evicts_unless o capacity more gone v w
unless_to None capacity more gone v u w same h = (h.0, evicts_to capacity more h.0 v u w same h.1, h.2)
unless_to (Some c) capacity more gone v u w same h = ((same.0 ∙ h.0.0, same.1 ∙ h.0.1), h.1)

-- Marks in two steps: of a path where what stands at the end stood in between, and of all.
mark_on : (v u w : Level) (p : List ℕ) → (is_there w p ≡ true → is_there u p ≡ true) → KeepsMarks v u → (is_marked_at u p && is_there w p) ≡ (is_marked_at v p && is_there w p)
mark_on v u w p stood first = ap (λ t. t && is_there w p) (first p) ∙ sym (marks_stay (is_marked_at v p) (is_marked_at v p) (is_there u p) (is_there w p) stood (λ there. refl))

keeps_then : (v u w : Level) → IsFewer u w → KeepsMarks v u → KeepsMarks u w → KeepsMarks v w
keeps_then v u w fewer first next = λ p. next p ∙ mark_on v u w p (fewer p) first

sets_then : (v u w : Level) (path bytes : List ℕ) (mark : Bool) → w.main ≡ put_file u.main path bytes → KeepsMarks v u → SetsMark path mark u w → SetsMark path mark v w
sets_then v u w path bytes mark put first next = record {
  set = next.set;
  others = λ q apart.
      let stood : is_there w q ≡ is_there u q = ap (λ f. is_some (find_file f q)) put ∙ put_there u.main path bytes q (nat_list_eq_equiv.symm q path ∙ apart) in
      next.others q apart ∙ mark_on v u w q (λ there. sym stood ∙ there) first;
}

opened_later : (a b : Bool) → IsTrue a → IsTrue (is_later a b) → IsTrue b
opened_later true b here later = later
opened_later false b here later = absurd (cc)

-- a reservation that was refused
refused_reserve : (c : Cause) (capacity : ℕ) (expected : Causes) (r : ℕ) (key bytes : List ℕ) (mark : Bool) (v w : Level) → Reserves capacity expected r (length bytes) (Refused c) v w → PutsEntry capacity expected r key bytes mark (Refused c) v w
refused_reserve Io capacity expected r key bytes mark v w h = ((h.1.0, h.1.1, (h.0, h.1.2), h.3), h.4)
refused_reserve FileTooLarge capacity expected r key bytes mark v w h = ((h.1.0, h.3), h.4)
refused_reserve NoRoom capacity expected r key bytes mark v w h = ((h.1.0, h.3), h.4)
refused_reserve BadKey capacity expected r key bytes mark v w h = ((h.1.0, h.3), h.4)
refused_reserve BadEntry capacity expected r key bytes mark v w h = ((h.1.0, h.3), h.4)
refused_reserve (ForReading s) capacity expected r key bytes mark v w h = ((h.1.0, h.3), h.4)
refused_reserve (RemoteRefused k) capacity expected r key bytes mark v w h = ((h.1.0, h.3), h.4)
refused_reserve (NotOpen n) capacity expected r key bytes mark v w h = ((h.1.0, h.3), h.4)

refusal_cause : (c : Cause) (told : Bool) (expected : Causes) (v w : Level) → ReserveCause expected (NotOpened c) v w → EntryCause told expected (Refused c) v w
refusal_cause Io told expected v w h = h
refusal_cause FileTooLarge told expected v w h = inl h
refusal_cause NoRoom told expected v w h = inl h
refusal_cause BadKey told expected v w h = inl h
refusal_cause BadEntry told expected v w h = inl h
refusal_cause (ForReading s) told expected v w h = inl h
refusal_cause (RemoteRefused k) told expected v w h = inl h
refusal_cause (NotOpen n) told expected v w h = inl h

pub not_opened : (policy : Policy) (key : List ℕ) (size : ℕ) (bytes : List ℕ) (mark : Bool) (how : Reservation) (c : Cause) (s t : DiskStore) → size ≡ length bytes → how ≡ NotOpened c → Later s.level t.level → ReservesDisk policy key size how s t → OpensBy (entry_path key) size how s t
    → ReserveCause (causes policy s.facts s.reserved key size) how s.level t.level → PutsDisk policy key bytes mark (Refused c) s t
not_opened policy key size bytes mark how c s t long is later moved opens cause = record {
  later = later;
  entries = subst (λ (x : Reservation). OpensBy (entry_path key) size x s t) is opens;
  wrote = λ told. refused_reserve c s.facts.capacity (causes policy s.facts s.reserved key (length bytes)) s.reserved key bytes mark s.level t.level
      (subst (λ (n : ℕ). Reserves s.facts.capacity (causes policy s.facts s.reserved key n) s.reserved n (Refused c) s.level t.level) long (subst (λ (x : Reservation). Reserves s.facts.capacity (causes policy s.facts s.reserved key size) s.reserved size (reserved_of x) s.level t.level) is (moved told)));
  cause = refusal_cause c s.told (causes policy s.facts s.reserved key (length bytes)) s.level t.level
      (subst (λ (n : ℕ). ReserveCause (causes policy s.facts s.reserved key n) (NotOpened c) s.level t.level) long (subst (λ (x : Reservation). ReserveCause (causes policy s.facts s.reserved key size) x s.level t.level) is cause));
}

-- a put whose fill or commit its device refused
refused_behind : (c : Cause) (capacity : ℕ) (expected : Causes) (r : ℕ) (key bytes : List ℕ) (mark : Bool) (v u t w : Level) → expected.early ≡ None → Reserves capacity expected r (length bytes) Done v u → same_maps u t → Later v t → IsFault Disk t w c → same_maps t w → KeepsMarks v w
    → PutsEntryBy capacity expected r key bytes mark (Refused c) v w
refused_behind Io capacity expected r key bytes mark v u t w early reserves same later fault again keeps =
    (early, rose_later v.faults t.faults w.faults later.faults fault, (reserves.0, unless_to expected.all capacity (r + length bytes) reserves.0 v u w (again.0 ∙ same.0, again.1 ∙ same.1) reserves.1.1), keeps)
refused_behind FileTooLarge capacity expected r key bytes mark v u t w early reserves same later fault again keeps = absurd fault
refused_behind NoRoom capacity expected r key bytes mark v u t w early reserves same later fault again keeps = absurd fault
refused_behind BadKey capacity expected r key bytes mark v u t w early reserves same later fault again keeps = absurd fault
refused_behind BadEntry capacity expected r key bytes mark v u t w early reserves same later fault again keeps = absurd fault
refused_behind (ForReading s) capacity expected r key bytes mark v u t w early reserves same later fault again keeps = absurd fault
refused_behind (RemoteRefused k) capacity expected r key bytes mark v u t w early reserves same later fault again keeps = absurd fault
refused_behind (NotOpen n) capacity expected r key bytes mark v u t w early reserves same later fault again keeps = absurd fault

fault_cause : (c : Cause) (told : Bool) (expected : Causes) (v t w : Level) → expected.early ≡ None → Later v t → IsFault Disk t w c → EntryCause told expected (Refused c) v w
fault_cause Io told expected v t w early later fault = (early, rose_later v.faults t.faults w.faults later.faults fault)
fault_cause FileTooLarge told expected v t w early later fault = absurd fault
fault_cause NoRoom told expected v t w early later fault = absurd fault
fault_cause BadKey told expected v t w early later fault = absurd fault
fault_cause BadEntry told expected v t w early later fault = absurd fault
fault_cause (ForReading s) told expected v t w early later fault = absurd fault
fault_cause (RemoteRefused k) told expected v t w early later fault = absurd fault
fault_cause (NotOpen n) told expected v t w early later fault = absurd fault

pub refused_fill : (policy : Policy) (key : List ℕ) (size : ℕ) (e : AddEntry) (bytes : List ℕ) (mark : Bool) (c : Cause) (s t u : DiskStore) → size ≡ length bytes → Opened policy key size e s t → Later t.level u.level → FillsBy e bytes (filled_by mark) (NotFilled c) t u
    → PutsDisk policy key bytes mark (Refused c) s u
refused_fill policy key size e bytes mark c s t u long o later f =
    let sized : Opened policy key (length bytes) e s t = subst (λ (n : ℕ). Opened policy key n e s t) long o in
    let expected = causes policy s.facts s.reserved key (length bytes) in
    let early : expected.early ≡ None = none_early policy s.facts s.reserved key (length bytes) sized.free in
    record {
      later = later_then s.level t.level u.level o.later later;
      entries = same_entries (entry_path key) size e s t t u o.opens (λ m apart. refl) refl (size_of_entry (entry_at t.entries e.number) (filled key size [] None) o.opens.opened) f.1;
      wrote = λ told.
          let reserves = sized.reserves told in
          let keeps : KeepsMarks s.level u.level = keeps_then s.level t.level u.level (same-fewer t.level u.level f.0.0.1.0) reserves.3 f.0.2 in
          (refused_behind c s.facts.capacity expected s.reserved key bytes mark s.level t.level t.level u.level early reserves (refl, refl) o.later f.0.0.0 f.0.0.1 keeps, f.0.3.2 ∙ reserves.4);
      cause = fault_cause c s.told expected s.level t.level u.level early o.later f.0.0.0;
    }

-- a device that tells what it holds finds no file larger than what was put
untold : (told : Bool) → (told ≡ true → ⊥) → told ≡ false
untold true h = absurd (h refl)
untold false h = refl

commit_cause : (how : Written) (number : ℕ) (path bytes : List ℕ) (mark told : Bool) (expected : Causes) (v : Level) (u w : DiskStore) → expected.all ≡ None → expected.early ≡ None → Later v u.level → (told ≡ true → CommitsFile path bytes mark how u.level w.level) → CommitCause number how u w
    → EntryCause told expected how v w.level
commit_cause Done number path bytes mark told expected v u w free early later file cause = free
commit_cause (Refused Io) number path bytes mark told expected v u w free early later file cause = (early, rose_later v.faults u.level.faults w.level.faults later.faults cause)
commit_cause (Refused FileTooLarge) number path bytes mark told expected v u w free early later file cause = inr (free, untold told (λ t. (file t).file.0))
commit_cause (Refused NoRoom) number path bytes mark told expected v u w free early later file cause = inr (free, untold told (λ t. (file t).file.0))
commit_cause (Refused BadKey) number path bytes mark told expected v u w free early later file cause = absurd cause
commit_cause (Refused BadEntry) number path bytes mark told expected v u w free early later file cause = absurd cause
commit_cause (Refused (ForReading s)) number path bytes mark told expected v u w free early later file cause = absurd cause
commit_cause (Refused (RemoteRefused k)) number path bytes mark told expected v u w free early later file cause = absurd cause
commit_cause (Refused (NotOpen n)) number path bytes mark told expected v u w free early later file cause = absurd cause

commit_puts : (how : Written) (capacity : ℕ) (expected : Causes) (r : ℕ) (key bytes : List ℕ) (mark : Bool) (v u t w : Level) → expected.early ≡ None → Reserves capacity expected r (length bytes) Done v u → FillsLevel Done u t → Later u t → Later v t → Later t w
    → CommitsFile (make_key_path key) bytes mark how t w → PutsEntry capacity expected r key bytes mark how v w
commit_puts how capacity expected r key bytes mark v u t w early reserves fills later all after file = (by how file.file, file.store.2 ∙ fills.3.2 ∙ reserves.4)
  where
    until : KeepsMarks v t
    until = keeps_then v u t (same-fewer u t fills.0.0) reserves.3 fills.2

    by : (x : Written) → CommitsAt (make_key_path key) bytes mark x t w → PutsEntryBy capacity expected r key bytes mark x v w
    by Done at = (
      reserves.1.0,
      (u, (reserves.0, reserves.1.1), at.0 ∙ ap (λ m. put_file m (make_key_path key) bytes) fills.0.0, at.1 ∙ fills.0.1),
      opened_later t.opened w.opened (opened_later u.opened t.opened reserves.1.2 later.opened) after.opened,
      sets_then v t w (make_key_path key) bytes mark at.0 until at.2,
    )
    by (Refused c) at = refused_behind c capacity expected r key bytes mark v u t w early reserves fills.0 all at.0 at.1 (keeps_then v t w (same-fewer t w at.1.0) until at.2)

pub was_put : (policy : Policy) (key : List ℕ) (size : ℕ) (e e2 : AddEntry) (bytes : List ℕ) (mark : Bool) (how : Written) (s t u w : DiskStore) → size ≡ length bytes → Opened policy key size e s t → Later t.level u.level → u.told ≡ t.told → FillsBy e bytes (filled_by mark) (StillOpen e2) t u
    → Later u.level w.level → ClosesEntry e2.number u w → CommitsEntry e2.number how u w → CommitCause e2.number how u w → PutsDisk policy key bytes mark how s w
was_put policy key size e e2 bytes mark how s t u w long o later same f after closes commits cause =
    let sized : Opened policy key (length bytes) e s t = subst (λ (n : ℕ). Opened policy key n e s t) long o in
    let expected = causes policy s.facts s.reserved key (length bytes) in
    let early : expected.early ≡ None = none_early policy s.facts s.reserved key (length bytes) sized.free in
    let at = f.1.entry (filled key size [] None) o.opens.opened in
    let number : e2.number ≡ e.number = ap (λ (x : AddEntry). x.number) f.0 in
    let told_then : s.told ≡ true → u.told ≡ true = λ t2. same ∙ o.told ∙ t2 in
    let file : s.told ≡ true → CommitsFile (make_key_path key) bytes mark how u.level w.level = λ t2.
    let is : at.0 ≡ bytes = at.2 (o.told ∙ t2) in
    subst (λ (b : List ℕ). CommitsFile (make_key_path key) b mark how u.level w.level) is
    (commits (told_then t2) (filled key size at.0 (Some mark)) (make_key_path key) (subst (λ (n : ℕ). entry_at u.entries n ≡ Some (filled key size at.0 (Some mark))) (sym number) at.1) (subst (λ (b : List ℕ). length b ≤ size) (sym is) (omega (arith, long))) refl) in
    let till = later_then s.level t.level u.level o.later later in
    record {
      later = later_then s.level u.level w.level till after;
      entries = closed_again policy key size e e2 bytes mark s t u w o f closes;
      wrote = λ t2. commit_puts how s.facts.capacity expected s.reserved key bytes mark s.level t.level u.level w.level early (sized.reserves t2) f.1.level later till after (file t2);
      cause = commit_cause how e2.number (make_key_path key) bytes mark s.told expected s.level u w sized.free early till file cause;
    }

-- The marks of such a put.
pub kept_marks : (a b : Marks) → b ≡ a → SameMarks a b
kept_marks a b same = λ q. ap (λ (m : Marks). is_marked m q) same

marks_then : (a b c : Marks) → SameMarks a b → SameMarks b c → SameMarks a c
marks_then a b c s t = λ q. t q ∙ s q

pub not_filled : (e : AddEntry) (c : Cause) (how : Reservation) (a b d : Marks) (number : ℕ) (mark : Bool) → how ≡ Open e → MarksOpened how a b → MarksFilled number mark (NotFilled c) b d → SameMarks a d
not_filled e c how a b d number mark is opened filled =
    let began : Forgets e.number a b = subst (λ (x : Reservation). MarksOpened x a b) is opened in
    marks_then a b d began.files filled.files

pub none_opened : (c : Cause) (how : Reservation) (a b : Marks) → how ≡ NotOpened c → MarksOpened how a b → SameMarks a b
none_opened c how a b is opened = kept_marks a b (subst (λ (x : Reservation). MarksOpened x a b) is opened)

settled : (path : List ℕ) (e : AddEntry) (mark : Bool) (how : Written) (a b c d : Marks) (w : DiskStore) → Forgets e.number a b → Fills e.number mark b c → MarksCommitted e.number path how c d w → PutMarks path mark how a d w
settled path e mark Done a b c d w opened filled done = record {
  marked = done.marked ∙ ap mark_of (filled.filled ∙ ap (λ o. Some (after_fill o mark)) opened.none);
  kept = λ told key bytes apart is. done.kept told key bytes apart is ∙ filled.files (in_part Main key) ∙ opened.files (in_part Main key);
  fewer = λ q apart none. done.fewer q apart (filled.files q ∙ opened.files q ∙ none);
}
settled path e mark (Refused r) a b c d w opened filled done = marks_then a c d (marks_then a b c opened.files filled.files) done.files

pub marks_put : (policy : Policy) (key : List ℕ) (size : ℕ) (e e2 : AddEntry) (bytes : List ℕ) (s t u : DiskStore) (how_opened : Reservation) (mark : Bool) (how : Written) (a b c d : Marks) (w : DiskStore) → Opened policy key size e s t → FillsBy e bytes (filled_by mark) (StillOpen e2) t u
    → how_opened ≡ Open e → MarksOpened how_opened a b → MarksFilled e.number mark (StillOpen e2) b c → MarksCommitted e2.number e2.key how c d w → PutMarks (entry_path key) mark how a d w
marks_put policy key size e e2 bytes s t u how_opened mark how a b c d w o f is opened filled done =
    settled (entry_path key) e mark how a b c d w (subst (λ (x : Reservation). MarksOpened x a b) is opened) filled
    (subst (λ (p : List ℕ). MarksCommitted e.number p how c d w) o.opens.key (subst (λ (x : AddEntry). MarksCommitted x.number x.key how c d w) f.0 done))
