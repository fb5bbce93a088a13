-- A reservation at a disk store, as the daemon's definitions have it.
use Rattle.std.proofs.Common.{◌≡◌, ℕ, ◌+◌, ◌≤◌, Bool, true, false, not, nat_lt, IfOk, OnErr, List, [], Option, Some, None, Result, Ok, Err, refl, sym, ap, ◌∙◌, subst}
use Rattle.sc_entry.specs.Causes.{Rose}
use Rattle.sc_entry.specs.Keys.{IsStoreKey, is_store_key}
use Rattle.sc_entry.specs.declared.cache_mode.CacheMode.{CacheMode}
use Rattle.sc_entry.specs.declared.memory.NoMemory.{NoMemory}
use Rattle.sc_model.specs.Evicting.{Evicts}
use Rattle.sc_model.specs.Levels.{Level}
use Rattle.sc_model.specs.WriteCauses.{causes, early_cause, or_cause, read_only_store, refuses_writes, room_cause, write_cause}
use Rattle.sc_model.specs.Writing.{Evicts_unless, IsRefused, Reserves, Reserves_by}
use Rattle.sc_model.specs.declared.event.Written.{Written}
use Rattle.sc_model.specs.declared.event.Written.TheVariants.{Done as WriteDone, Refused as WriteRefused}
use Rattle.sc_model.specs.declared.level.Cause.{Cause}
use Rattle.sc_model.specs.declared.level.Cause.TheVariants.{BadEntry, BadKey, FileTooLarge, Io, NotOpen, ReadOnly as ForReading, RemoteFault as RemoteRefused, Reserved as NoRoom}
use Rattle.sc_model.specs.declared.level.LevelFacts.{LevelFacts}
use Rattle.sc_model.specs.declared.level.LevelKind.{LevelKind}
use Rattle.sc_model.specs.declared.level.LevelKind.TheVariants.{Disk}
use Rattle.sc_model.specs.declared.level.Policy.{Policy}
use Rattle.sc_disk_pair.specs.Twos.{TwoState}
use Rattle.sc_disk_pair.specs.declared.pair_cache.PairCache.{PairCache}
use Rattle.sc_store_disk.specs.DiskStores.{DiskStore, disk_facts, store_of}
use Rattle.sc_store_disk.specs.Moving.{EvictsFiles, ReserveCause, Steady, room_causes, written_of}
use Rattle.sc_store_disk.specs.declared.reserving.Reservation.{Reservation}
use Rattle.sc_store_disk.specs.declared.reserving.Reservation.TheVariants.{Open as IsOpened, Refused as IsRefused_of}
use Rattle.sc_store_disk.proofs.Askings.{rose_before}
use Rattle.sc_store_disk.proofs.Lending.{on_err}
use Rattle.sc_store_disk.proofs.LevelMarks.{keeps_from, none-marked}
use Rattle.sc_store_disk.proofs.StoreMarks.{evicts_like}

-- the causes that are found before the store is opened hang on its mode alone
pub early-held : {D : Type 0} (mode : CacheMode) (capacity : ℕ) (o : Option (PairCache D)) (t : Option TwoState) (p : Policy) (k : List ℕ) → early_cause p (store_of mode capacity o t).facts k ≡ early_cause p (disk_facts mode 0 []) k
early-held mode capacity (Some c) t p k = refl
early-held mode capacity None t p k = refl

-- a store alone keeps no marks
pub disk-bare : {D : Type 0} (mode : CacheMode) (capacity : ℕ) (o : Option (PairCache D)) (t : Option TwoState) → (store_of mode capacity o t).level.marks ≡ []
disk-bare mode capacity (Some c) t = refl
disk-bare mode capacity None t = refl

early_all : (a b : Bool) (x c : Cause) (rest : Option Cause) → or_cause a x (or_cause b BadKey None) ≡ Some c → or_cause a x (or_cause b BadKey rest) ≡ Some c
early_all true b x c rest h = h
early_all false true x c rest h = h
early_all false false x c rest h = cc

early_rest : (a b : Bool) (x : Cause) (rest : Option Cause) → or_cause a x (or_cause b BadKey None) ≡ None → or_cause a x (or_cause b BadKey rest) ≡ rest
early_rest true b x rest h = cc
early_rest false true x rest h = cc
early_rest false false x rest h = refl

early_key : (a b : Bool) (x : Cause) → or_cause a x (or_cause (not b) BadKey None) ≡ None → b ≡ true
early_key true b x h = cc
early_key false true x h = refl
early_key false false x h = cc

pub early-is-all : (p : Policy) (f : LevelFacts) (r : ℕ) (k : List ℕ) (n : ℕ) (c : Cause) → early_cause p f k ≡ Some c → write_cause p f r k n ≡ Some c
early-is-all p f r k n c h = early_all (refuses_writes p f) (not (is_store_key k)) (ForReading (read_only_store f f.wrapped)) c (room_cause f.kind f.capacity r n) h

pub none-is-room : (p : Policy) (f : LevelFacts) (r : ℕ) (k : List ℕ) (n : ℕ) → early_cause p f k ≡ None → write_cause p f r k n ≡ room_cause f.kind f.capacity r n
none-is-room p f r k n h = early_rest (refuses_writes p f) (not (is_store_key k)) (ForReading (read_only_store f f.wrapped)) (room_cause f.kind f.capacity r n) h

pub early-good : (p : Policy) (f : LevelFacts) (k : List ℕ) → early_cause p f k ≡ None → IsStoreKey k
early-good p f k h = early_key (refuses_writes p f) (is_store_key k) (ForReading (read_only_store f f.wrapped)) h

-- a cause that is found early
IsEarly : Cause → Type 0
IsEarly BadKey = Unit {0}
IsEarly (ForReading s) = Unit {0}
IsEarly c = ⊥

same_cause : (c d : Cause) → Some c ≡ Some d → c ≡ d
same_cause c d h = cc

is_early : (a b : Bool) (f : LevelFacts) (c : Cause) → or_cause a (ForReading (read_only_store f f.wrapped)) (or_cause b BadKey None) ≡ Some c → IsEarly c
unfolding IsEarly
is_early true b f c h = subst IsEarly (same_cause (ForReading (read_only_store f f.wrapped)) c h) tt
is_early false true f c h = subst IsEarly (same_cause BadKey c h) tt
is_early false false f c h = cc

early_refused : (p : Policy) (f : LevelFacts) (r : ℕ) (k : List ℕ) (n : ℕ) (c : Cause) (v : Level) → v.marks ≡ [] → IsEarly c → write_cause p f r k n ≡ Some c → Reserves f.capacity (causes p f r k n) r n (WriteRefused c) v v
unfolding IsEarly
early_refused p f r k n BadKey v bare e h = (0, ((h, (refl, refl), refl), refl), tt, none-marked v v bare bare, refl)
early_refused p f r k n (ForReading s) v bare e h = (0, ((h, (refl, refl), refl), refl), tt, none-marked v v bare bare, refl)
early_refused p f r k n BadEntry v bare e h = absurd e
early_refused p f r k n FileTooLarge v bare e h = absurd e
early_refused p f r k n NoRoom v bare e h = absurd e
early_refused p f r k n Io v bare e h = absurd e
early_refused p f r k n (RemoteRefused d) v bare e h = absurd e
early_refused p f r k n (NotOpen m) v bare e h = absurd e

pub early-moved : (p : Policy) (f : LevelFacts) (r : ℕ) (k : List ℕ) (n : ℕ) (c : Cause) (v : Level) → v.marks ≡ [] → early_cause p f k ≡ Some c → Reserves f.capacity (causes p f r k n) r n (WriteRefused c) v v
early-moved p f r k n c v bare h = early_refused p f r k n c v bare (is_early (refuses_writes p f) (not (is_store_key k)) f c h) (early-is-all p f r k n c h)

early_told : (p : Policy) (f : LevelFacts) (r : ℕ) (k : List ℕ) (n : ℕ) (c : Cause) (v : Level) → IsEarly c → write_cause p f r k n ≡ Some c → ReserveCause (causes p f r k n) (IsRefused_of c) v v
unfolding IsEarly
early_told p f r k n BadKey v e h = h
early_told p f r k n (ForReading s) v e h = h
early_told p f r k n BadEntry v e h = absurd e
early_told p f r k n FileTooLarge v e h = absurd e
early_told p f r k n NoRoom v e h = absurd e
early_told p f r k n Io v e h = absurd e
early_told p f r k n (RemoteRefused d) v e h = absurd e
early_told p f r k n (NotOpen m) v e h = absurd e

pub early-cause : (p : Policy) (f : LevelFacts) (r : ℕ) (k : List ℕ) (n : ℕ) (c : Cause) (v : Level) → early_cause p f k ≡ Some c → ReserveCause (causes p f r k n) (IsRefused_of c) v v
early-cause p f r k n c v h = early_told p f r k n c v (is_early (refuses_writes p f) (not (is_store_key k)) f c h) (early-is-all p f r k n c h)

-- the cause that was found is the one that is said
pub same-refusal : {S W : Type 0} (refused : Cause → W) (s : S) (a b : Cause) → Some a ≡ Some b → ◌≡◌ {A = Result W NoMemory} (Ok (refused a)) (Ok (refused b)) × (s ≡ s)
same-refusal refused s a b h = (ap (λ (c : Cause). Ok (refused c)) (same_cause a b h), refl)

-- the store's disks refuse to open
pub unless_same : (o : Option Cause) (capacity more : ℕ) (v w : Level) → w.main ≡ v.main → w.pre ≡ v.pre → Evicts_unless o capacity more 0 v w
unless_same None capacity more v w m p = ([], (m, p), refl)
unless_same (Some c) capacity more v w m p = ((m, p), refl)

pub unopened-moved : (p : Policy) (f : LevelFacts) (r : ℕ) (k : List ℕ) (n : ℕ) (old new : DiskStore) → early_cause p f k ≡ None → Rose old.level.faults new.level.faults → old.level.marks ≡ [] → Steady old new → Reserves f.capacity (causes p f r k n) r n (WriteRefused Io) old.level new.level
unopened-moved p f r k n old new early rose bare s = (
  0,
  (early, rose, unless_same (write_cause p f r k n) f.capacity (r + n) old.level new.level s.main s.pre),
  tt,
  none-marked old.level new.level bare (s.marks ∙ bare),
  s.written,
)

-- a reservation at the opened store is one of the store before it was opened
pub evicts_from : (capacity more : ℕ) (ps : List (Bool × List ℕ)) (v u w : Level) → u.main ≡ v.main → u.pre ≡ v.pre → Evicts capacity more ps u w → Evicts capacity more ps v w
evicts_from capacity more ps v u w m q e = evicts_like capacity more ps u v w w (sym m) (sym q) refl refl e

pub unless_from : (o o2 : Option Cause) (capacity more gone : ℕ) (v u w : Level) → o2 ≡ o → u.main ≡ v.main → u.pre ≡ v.pre → Evicts_unless o2 capacity more gone u w → Evicts_unless o capacity more gone v w
unless_from None o2 capacity more gone v u w e m q h = let x = subst (λ (y : Option Cause). Evicts_unless y capacity more gone u w) e h in (x.0, evicts_from capacity more x.0 v u w m q x.1, x.2)
unless_from (Some c) o2 capacity more gone v u w e m q h = let x = subst (λ (y : Option Cause). Evicts_unless y capacity more gone u w) e h in ((x.0.0 ∙ m, x.0.1 ∙ q), x.1)

unfoldable pub IsRoom : Cause → Type 0
IsRoom FileTooLarge = Unit {0}
IsRoom NoRoom = Unit {0}
IsRoom c = ⊥

is_room : (a b : Bool) (c : Cause) → or_cause a FileTooLarge (or_cause b NoRoom None) ≡ Some c → IsRoom c
unfolding IsRoom
is_room true b c h = subst IsRoom (same_cause FileTooLarge c h) tt
is_room false true c h = subst IsRoom (same_cause NoRoom c h) tt
is_room false false c h = cc

refused_from : (p : Policy) (f : LevelFacts) (r : ℕ) (k : List ℕ) (n gone : ℕ) (c : Cause) (v u w : Level) → IsRoom c → room_cause Disk f.capacity r n ≡ write_cause p f r k n → u.main ≡ v.main → u.pre ≡ v.pre
    → IsRefused Disk (room_causes f.capacity r n) c u w × (gone ≡ 0) → Reserves_by gone f.capacity (causes p f r k n) r n (WriteRefused c) v w
unfolding IsRoom
refused_from p f r k n gone FileTooLarge v u w e all m q h = ((sym all ∙ h.0.0, (h.0.1.0 ∙ m, h.0.1.1 ∙ q), h.0.2), h.1)
refused_from p f r k n gone NoRoom v u w e all m q h = ((sym all ∙ h.0.0, (h.0.1.0 ∙ m, h.0.1.1 ∙ q), h.0.2), h.1)
refused_from p f r k n gone BadKey v u w e all m q h = absurd e
refused_from p f r k n gone BadEntry v u w e all m q h = absurd e
refused_from p f r k n gone Io v u w e all m q h = absurd e
refused_from p f r k n gone (ForReading s) v u w e all m q h = absurd e
refused_from p f r k n gone (RemoteRefused d) v u w e all m q h = absurd e
refused_from p f r k n gone (NotOpen x) v u w e all m q h = absurd e

pub room_of : (capacity r n : ℕ) (c : Cause) → room_cause Disk capacity r n ≡ Some c → IsRoom c
room_of capacity r n c h = is_room (nat_lt capacity n) (nat_lt capacity (n + r)) c h

no_fault : (kind : Cause) → ⊥ → ⊥
no_fault kind h = h

moved_by : (p : Policy) (f : LevelFacts) (r : ℕ) (k : List ℕ) (n gone : ℕ) (how : Written) (v u w : Level) → f.kind ≡ Disk → early_cause p f k ≡ None → v.faults ≤ u.faults → u.main ≡ v.main → u.pre ≡ v.pre
    → Reserves_by gone f.capacity (room_causes f.capacity r n) r n how u w → Reserves_by gone f.capacity (causes p f r k n) r n how v w
moved_by p f r k n gone WriteDone v u w kind early l m q h =
    let all : room_cause Disk f.capacity r n ≡ write_cause p f r k n = ap (λ (d : LevelKind). room_cause d f.capacity r n) (sym kind) ∙ sym (none-is-room p f r k n early) in
    (sym all ∙ h.0, unless_from (write_cause p f r k n) (room_cause Disk f.capacity r n) f.capacity (r + n) gone v u w all m q h.1, h.2)
moved_by p f r k n gone (WriteRefused Io) v u w kind early l m q h =
    let all : room_cause Disk f.capacity r n ≡ write_cause p f r k n = ap (λ (d : LevelKind). room_cause d f.capacity r n) (sym kind) ∙ sym (none-is-room p f r k n early) in
    (early, rose_before v.faults u.faults w.faults l h.1, unless_from (write_cause p f r k n) (room_cause Disk f.capacity r n) f.capacity (r + n) gone v u w all m q h.2)
moved_by p f r k n gone (WriteRefused FileTooLarge) v u w kind early l m q h = refused_from p f r k n gone FileTooLarge v u w (room_of f.capacity r n FileTooLarge h.0.0) (ap (λ (d : LevelKind). room_cause d f.capacity r n) (sym kind) ∙ sym (none-is-room p f r k n early)) m q h
moved_by p f r k n gone (WriteRefused NoRoom) v u w kind early l m q h = refused_from p f r k n gone NoRoom v u w (room_of f.capacity r n NoRoom h.0.0) (ap (λ (d : LevelKind). room_cause d f.capacity r n) (sym kind) ∙ sym (none-is-room p f r k n early)) m q h
moved_by p f r k n gone (WriteRefused BadKey) v u w kind early l m q h = refused_from p f r k n gone BadKey v u w (room_of f.capacity r n BadKey h.0.0) (ap (λ (d : LevelKind). room_cause d f.capacity r n) (sym kind) ∙ sym (none-is-room p f r k n early)) m q h
moved_by p f r k n gone (WriteRefused BadEntry) v u w kind early l m q h = refused_from p f r k n gone BadEntry v u w (room_of f.capacity r n BadEntry h.0.0) (ap (λ (d : LevelKind). room_cause d f.capacity r n) (sym kind) ∙ sym (none-is-room p f r k n early)) m q h
moved_by p f r k n gone (WriteRefused (ForReading s)) v u w kind early l m q h = refused_from p f r k n gone (ForReading s) v u w (room_of f.capacity r n (ForReading s) h.0.0) (ap (λ (d : LevelKind). room_cause d f.capacity r n) (sym kind) ∙ sym (none-is-room p f r k n early)) m q h
moved_by p f r k n gone (WriteRefused (RemoteRefused d)) v u w kind early l m q h = absurd h.0.1
moved_by p f r k n gone (WriteRefused (NotOpen x)) v u w kind early l m q h = refused_from p f r k n gone (NotOpen x) v u w (room_of f.capacity r n (NotOpen x) h.0.0) (ap (λ (d : LevelKind). room_cause d f.capacity r n) (sym kind) ∙ sym (none-is-room p f r k n early)) m q h

moved_from : (p : Policy) (k : List ℕ) (n : ℕ) (how : Written) (old mid : DiskStore) (w : Level) → old.facts.kind ≡ Disk → early_cause p old.facts k ≡ None → Steady old mid
    → Reserves old.facts.capacity (room_causes old.facts.capacity old.reserved n) old.reserved n how mid.level w → Reserves old.facts.capacity (causes p old.facts old.reserved k n) old.reserved n how old.level w
moved_from p k n how old mid w kind early s h = (
  h.0,
  moved_by p old.facts old.reserved k n h.0 how old.level mid.level w kind early s.later.faults s.main s.pre h.1,
  tt,
  keeps_from old.level mid.level w s.marks h.3,
  h.4 ∙ s.written,
)

told_from : (p : Policy) (f : LevelFacts) (r : ℕ) (k : List ℕ) (n : ℕ) (how : Reservation) (v u w : Level) → f.kind ≡ Disk → early_cause p f k ≡ None → v.faults ≤ u.faults → ReserveCause (room_causes f.capacity r n) how u w → ReserveCause (causes p f r k n) how v w
told_from p f r k n (IsOpened e) v u w kind early l h = none-is-room p f r k n early ∙ ap (λ (d : LevelKind). room_cause d f.capacity r n) kind ∙ h
told_from p f r k n (IsRefused_of Io) v u w kind early l h = (early, rose_before v.faults u.faults w.faults l h.1)
told_from p f r k n (IsRefused_of FileTooLarge) v u w kind early l h = none-is-room p f r k n early ∙ ap (λ (d : LevelKind). room_cause d f.capacity r n) kind ∙ h
told_from p f r k n (IsRefused_of NoRoom) v u w kind early l h = none-is-room p f r k n early ∙ ap (λ (d : LevelKind). room_cause d f.capacity r n) kind ∙ h
told_from p f r k n (IsRefused_of BadKey) v u w kind early l h = none-is-room p f r k n early ∙ ap (λ (d : LevelKind). room_cause d f.capacity r n) kind ∙ h
told_from p f r k n (IsRefused_of BadEntry) v u w kind early l h = none-is-room p f r k n early ∙ ap (λ (d : LevelKind). room_cause d f.capacity r n) kind ∙ h
told_from p f r k n (IsRefused_of (ForReading s)) v u w kind early l h = none-is-room p f r k n early ∙ ap (λ (d : LevelKind). room_cause d f.capacity r n) kind ∙ h
told_from p f r k n (IsRefused_of (RemoteRefused d)) v u w kind early l h = none-is-room p f r k n early ∙ ap (λ (d : LevelKind). room_cause d f.capacity r n) kind ∙ h
told_from p f r k n (IsRefused_of (NotOpen x)) v u w kind early l h = none-is-room p f r k n early ∙ ap (λ (d : LevelKind). room_cause d f.capacity r n) kind ∙ h

if_ok : {A E : Type 0} {P Q : A → Type 0} (r : Result A E) → IfOk r P → ((a : A) → P a → Q a) → IfOk r Q
if_ok (Ok a) h f = f a h
if_ok (Err e) h f = tt

module _ (old mid new : DiskStore) (steady : Steady old mid) (kind : old.facts.kind ≡ Disk) (p : Policy) (k : List ℕ) (n : ℕ) (early : early_cause p old.facts k ≡ None) (r : Result Reservation NoMemory) where
  pub reserved-moved : IfOk r (λ how. mid.told ≡ true → Reserves mid.facts.capacity (room_causes mid.facts.capacity mid.reserved n) mid.reserved n (written_of how) mid.level new.level)
      → IfOk r (λ how. old.told ≡ true → Reserves old.facts.capacity (causes p old.facts old.reserved k n) old.reserved n (written_of how) old.level new.level)
  reserved-moved h = if_ok r h (λ how f told. moved_from p k n (written_of how) old mid new.level kind early steady
      (subst (λ (x : LevelFacts). Reserves x.capacity (room_causes x.capacity old.reserved n) old.reserved n (written_of how) mid.level new.level) steady.facts
      (subst (λ (z : ℕ). Reserves mid.facts.capacity (room_causes mid.facts.capacity z n) z n (written_of how) mid.level new.level) steady.reserved (f (steady.told ∙ told)))))

  pub reserved-cause : IfOk r (λ how. ReserveCause (room_causes mid.facts.capacity mid.reserved n) how mid.level new.level) → IfOk r (λ how. ReserveCause (causes p old.facts old.reserved k n) how old.level new.level)
  reserved-cause h = if_ok r h (λ how f. told_from p old.facts old.reserved k n how old.level mid.level new.level kind early steady.later.faults
      (subst (λ (x : LevelFacts). ReserveCause (room_causes x.capacity old.reserved n) how mid.level new.level) steady.facts
      (subst (λ (z : ℕ). ReserveCause (room_causes mid.facts.capacity z n) how mid.level new.level) steady.reserved f)))

  pub reserved-evicts : OnErr r (EvictsFiles n mid new) → OnErr r (EvictsFiles n old new)
  reserved-evicts h = on_err r h (λ f told. let x = f (steady.told ∙ told) in (
    x.0,
    evicts_from old.facts.capacity (old.reserved + n) x.0 old.level mid.level new.level steady.main steady.pre
        (subst (λ (y : LevelFacts). Evicts y.capacity (old.reserved + n) x.0 mid.level new.level) steady.facts (subst (λ (z : ℕ). Evicts mid.facts.capacity (z + n) x.0 mid.level new.level) steady.reserved x.1)),
  ))
