-- A put of a preprocessor entry: an entry that declares nothing, its fill and its commit in one.
use Rattle.std.proofs.Common.{◌≡◌, ◌≢◌, ◌==◌, eqb-true, eq-eqb, inl, inr, ℕ, ◌+◌, ◌<◌, ◌≤◌, Bool, true, false, bytes_eq, IfOk, OnErr, List, [], ◌∷◌, ◌++◌, length, Option, Some, None, Result, Ok, refl, sym, ap, ◌∙◌, subst, arith}
use Rattle.std.proofs.lemmas.Bool.{lt-ltb}
use Rattle.std.specs.List.{IsDistinct}
use Rattle.std.specs.Map.{keys_of}
use Rattle.std.specs.Option.{option_map_or}
use Rattle.sc_entry.specs.Causes.{IfTold, Rose}
use Rattle.sc_entry.specs.Keys.{normalize_key}
use Rattle.sc_entry.specs.declared.cache_mode.CacheMode.{CacheMode}
use Rattle.sc_entry.specs.declared.memory.NoMemory.{NoMemory}
use Rattle.sc_disk.specs.Disks.{files_now}
use Rattle.sc_disk.specs.Sound.{IsSound}
use Rattle.sc_disk.specs.Store.{AddEntry, Store, reserved}
use Rattle.sc_model.specs.Asking.{same_maps}
use Rattle.sc_model.specs.Evicting.{Evicts, main_count, part_size}
use Rattle.sc_model.specs.Levels.{IsFault, Level, put_file}
use Rattle.sc_model.specs.WriteCauses.{causes, early_cause, room_cause, write_cause}
use Rattle.sc_model.specs.Writing.{Evicts_unless, Puts_pre_by, Reserves}
use Rattle.sc_model.specs.declared.event.Written.{Written}
use Rattle.sc_model.specs.declared.event.Written.TheVariants.{Done as WriteDone, Refused as WriteRefused}
use Rattle.sc_model.specs.declared.level.Cause.{Cause}
use Rattle.sc_model.specs.declared.level.Cause.TheVariants.{BadEntry, BadKey, FileTooLarge, Io, NotOpen, ReadOnly as ForReading, RemoteFault as RemoteRefused, Reserved as NoRoom}
use Rattle.sc_model.specs.declared.level.LevelFacts.{LevelFacts}
use Rattle.sc_model.specs.declared.level.LevelKind.{LevelKind}
use Rattle.sc_model.specs.declared.level.LevelKind.TheVariants.{Disk}
use Rattle.sc_model.specs.declared.level.Policy.{Policy}
use Rattle.sc_disk_pair.specs.Parts.{ArePlaced, in_part}
use Rattle.sc_disk_pair.specs.declared.part.Part.TheVariants.{Pre}
use Rattle.sc_store_disk.specs.DiskStores.{DiskStore, OpenEntry, entry_at, opened_store}
use Rattle.sc_store_disk.specs.Entries.{ClosesEntry, CommitCause, FillsBy, FillsEntry, Grows, GrowsEntry, GrowsNothing, MakesRoom, OthersStay, room_for, size_at}
use Rattle.sc_store_disk.specs.Moving.{EvictsFiles, Opens, OpensBy, ReserveCause, SameEntries, Stays, Steady, room_causes, written_of}
use Rattle.sc_store_disk.specs.Preprocessor.{PreCause, StoresKey, StoresPre}
use Rattle.sc_store_disk.specs.declared.filling.Filling.{Filling}
use Rattle.sc_store_disk.specs.declared.filling.Filling.TheVariants.{Filled as StillOpen, Refused as NotFilled}
use Rattle.sc_store_disk.specs.declared.reserving.Reservation.{Reservation}
use Rattle.sc_store_disk.specs.declared.reserving.Reservation.TheVariants.{Open as IsOpened, Refused as IsRefused_of}
use Rattle.sc_store_disk.proofs.Askings.{if_ok, rose_before}
use Rattle.sc_store_disk.proofs.Devices.{later_then}
use Rattle.sc_store_disk.proofs.Lending.{on_err, store-sized}
use Rattle.sc_store_disk.proofs.Preparing.{not_less, room-free, unless_went}
use Rattle.sc_store_disk.proofs.Reservings.{IsRoom, evicts_from, none-is-room, room_of, unless_from, unless_same}

-- a store that holds no more than its capacity
abbrev pub IsWithin : DiskStore → Type 0
IsWithin s = s.told ≡ true → part_size s.level + s.reserved ≤ s.facts.capacity

pub within-opened : (mode : CacheMode) (s : Store) → IsSound s → IsDistinct bytes_eq (keys_of s.index) → IfTold s.disk.told (λ r. ArePlaced (files_now r)) → IsWithin (opened_store mode s.capacity s)
within-opened mode s sound d placed told = let sized = store-sized s sound d placed told in let fits = sound.fits in omega (arith, sized, fits)

pub reserved-within : (s : Store) → IsSound s → reserved s ≤ s.capacity
reserved-within s sound = let fits = sound.fits in omega (arith, fits)

-- what a fill answered
pub is-filled : (e f : AddEntry) (bytes : List ℕ) (how : Filling) (t u : DiskStore) → how ≡ StillOpen f → FillsBy e bytes (λ fills. fills) how t u → (f ≡ e) × FillsEntry e.number bytes (λ fills. fills) t u
is-filled e f bytes how t u is h = subst (λ (x : Filling). FillsBy e bytes (λ fills. fills) x t u) is h

pub is-refused : (e : AddEntry) (c : Cause) (bytes : List ℕ) (how : Filling) (t u : DiskStore) → how ≡ NotFilled c → FillsBy e bytes (λ fills. fills) how t u → FillsBy e bytes (λ fills. fills) (NotFilled c) t u
is-refused e c bytes how t u is h = subst (λ (x : Filling). FillsBy e bytes (λ fills. fills) x t u) is h

pub not-opened_entries : (path : List ℕ) (how : Reservation) (c : Cause) (s t : DiskStore) → how ≡ IsRefused_of c → OpensBy path 0 how s t → SameEntries s t
not-opened_entries path how c s t is h = subst (λ (x : Reservation). OpensBy path 0 x s t) is h

-- one call after another
pub stays-then : (s t u : DiskStore) → Stays s t → Stays t u → Stays s u
stays-then s t u a b = record { facts = b.facts ∙ a.facts; told = b.told ∙ a.told; later = later_then s.level t.level u.level a.later b.later }

-- nothing is evicted for nothing
no_evictions : (capacity more : ℕ) (ps : List (Bool × List ℕ)) (v w : Level) → part_size v + more ≤ capacity → Evicts capacity more ps v w → same_maps v w
no_evictions capacity more [] v w fits h = h
no_evictions capacity more (p ∷ ps) v w fits h = absurd (not_over (part_size v + more) capacity fits h.0)
  where
    not_over : (a b : ℕ) → a ≤ b → b < a → ⊥
    not_over a b p q = omega (arith, p, q)

unless_none : (o : Option Cause) (capacity more gone : ℕ) (v w : Level) → part_size v + more ≤ capacity → Evicts_unless o capacity more gone v w → same_maps v w
unless_none None capacity more gone v w fits h = no_evictions capacity more h.0 v w fits h.1
unless_none (Some c) capacity more gone v w fits h = h.0

nothing_more : (a r capacity : ℕ) → a + r ≤ capacity → a + (r + 0) ≤ capacity
nothing_more a r capacity h = omega (arith, h)

-- An entry was opened that declares nothing.
pub record Prepared (path : List ℕ) (e : AddEntry) (s t : DiskStore) : Type 0 where
  pub stays : Stays s t
  pub opens : Opens path 0 e s t
  pub same : s.told ≡ true → same_maps s.level t.level

pub prepared : (path : List ℕ) (how : Reservation) (e : AddEntry) (s t : DiskStore) → how ≡ IsOpened e → IsWithin s → Stays s t → OpensBy path 0 how s t
    → (s.told ≡ true → Reserves s.facts.capacity (room_causes s.facts.capacity s.reserved 0) s.reserved 0 (written_of how) s.level t.level) → Prepared path e s t
prepared path how e s t is within stays opens moved = record {
  stays = stays;
  opens = subst (λ (x : Reservation). OpensBy path 0 x s t) is opens;
  same = λ told. let m = subst (λ (x : Reservation). Reserves s.facts.capacity (room_causes s.facts.capacity s.reserved 0) s.reserved 0 (written_of x) s.level t.level) is (moved told) in
      unless_none (room_causes s.facts.capacity s.reserved 0).all s.facts.capacity (s.reserved + 0) m.0 s.level t.level (nothing_more (part_size s.level) s.reserved s.facts.capacity (within told)) m.1.1;
}

-- what is so of one number, and of all others, is so of all
every : (P : ℕ → Type 0) (l : ℕ) → P l → ((m : ℕ) → m ≢ l → P m) → (m : ℕ) → P m
every P l at apart m = (elim (m == l) as (λ t. (m == l) ≡ t → P m) [
  | true ↦ λ e. subst P (sym (eqb-true m l e)) at
  | false ↦ λ e. apart m (λ is. never (sym e ∙ eq-eqb m l is))
]) refl
  where
    never : false ≡ true → ⊥
    never e = cc

declared : (o : Option OpenEntry) (x : OpenEntry) → o ≡ Some x → option_map_or (λ (y : OpenEntry). y.size) o 0 ≡ x.size
declared o x is = ap (λ (z : Option OpenEntry). option_map_or (λ (y : OpenEntry). y.size) z 0) is

-- it is closed again, and all that was open before is open
closed_again : (path : List ℕ) (e : AddEntry) (s t u w : DiskStore) → Opens path 0 e s t → OthersStay e.number t u → u.reserved ≡ t.reserved → size_at u e.number ≡ 0 → ClosesEntry e.number u w → SameEntries s w
closed_again path e s t u w opens others same declared closes = record {
  reserved = omega (arith, closes.reserved, same, declared, opens.reserved);
  entries = every (λ m. entry_at w.entries m ≡ entry_at s.entries m) e.number (closes.closed ∙ sym opens.free) (λ m apart. closes.others m apart ∙ others m apart ∙ opens.others m apart);
}

opens_of : (path : List ℕ) (how : Reservation) (e : AddEntry) (s t : DiskStore) → how ≡ IsOpened e → OpensBy path 0 how s t → Opens path 0 e s t
opens_of path how e s t is h = subst (λ (x : Reservation). OpensBy path 0 x s t) is h

pub given-up : (path : List ℕ) (how : Reservation) (e : AddEntry) (s t w : DiskStore) → how ≡ IsOpened e → OpensBy path 0 how s t → ClosesEntry e.number t w → SameEntries s w
given-up path how e s t w is h closes =
    let opens = opens_of path how e s t is h in
    closed_again path e s t t w opens (λ m apart. refl) refl (declared (entry_at t.entries e.number) (record { path = path; size = 0; bytes = []; fills = None }) opens.opened) closes

-- the entry once it was filled
filled_at : (path bytes : List ℕ) (e : AddEntry) (s t u : DiskStore) → Opens path 0 e s t → FillsEntry e.number bytes (λ fills. fills) t u
    → (b : List ℕ) × (entry_at u.entries e.number ≡ Some (record { path = path; size = 0; bytes = b; fills = None })) × (t.told ≡ true → b ≡ bytes)
filled_at path bytes e s t u opens f = f.entry (record { path = path; size = 0; bytes = []; fills = None }) opens.opened

pub stored-entries : (path bytes : List ℕ) (how : Reservation) (e : AddEntry) (s t u w : DiskStore) → how ≡ IsOpened e → OpensBy path 0 how s t → FillsEntry e.number bytes (λ fills. fills) t u → ClosesEntry e.number u w → SameEntries s w
stored-entries path bytes how e s t u w is h f closes =
    let opens = opens_of path how e s t is h in
    let x = filled_at path bytes e s t u opens f in
    closed_again path e s t u w opens f.others f.reserved (declared (entry_at u.entries e.number) (record { path = path; size = 0; bytes = x.0; fills = None }) x.1) closes

-- the causes of a size
too_large : (capacity r n : ℕ) → capacity < n → room_cause Disk capacity r n ≡ Some FileTooLarge
too_large capacity r n l = rw (lt-ltb capacity n l) refl

no_room : (capacity r n : ℕ) → n ≤ capacity → capacity < n + r → room_cause Disk capacity r n ≡ Some NoRoom
no_room capacity r n l m = rw (not_less capacity n l, lt-ltb capacity (n + r) m) refl

-- No entry was opened.
never_opened : (capacity r : ℕ) (c : Cause) → r ≤ capacity → room_cause Disk capacity r 0 ≡ Some c → ⊥
never_opened capacity r c fits h = none_some (sym (room-free capacity r 0 (omega (arith, fits))) ∙ h)
  where
    none_some : None ≡ Some c → ⊥
    none_some e = cc

module _ (path bytes : List ℕ) (s : DiskStore) (fits : s.reserved ≤ s.facts.capacity) (within : IsWithin s) where
  pub not-opened : (how : Reservation) (c : Cause) (t : DiskStore) → how ≡ IsRefused_of c → (s.told ≡ true → Reserves s.facts.capacity (room_causes s.facts.capacity s.reserved 0) s.reserved 0 (written_of how) s.level t.level) → StoresPre path bytes (WriteRefused c) s t
  not-opened how c t is moved told key at = refused c (subst (λ (x : Reservation). Reserves s.facts.capacity (room_causes s.facts.capacity s.reserved 0) s.reserved 0 (written_of x) s.level t.level) is (moved told))
    where
      refused : (d : Cause) → Reserves s.facts.capacity (room_causes s.facts.capacity s.reserved 0) s.reserved 0 (WriteRefused d) s.level t.level
          → (gone : ℕ) × Puts_pre_by gone s.facts.capacity (room_causes s.facts.capacity s.reserved (length bytes)) s.reserved key bytes (WriteRefused d) s.level t.level
      refused Io h =
          let same = unless_none (room_causes s.facts.capacity s.reserved 0).all s.facts.capacity (s.reserved + 0) h.0 s.level t.level (nothing_more (part_size s.level) s.reserved s.facts.capacity (within told)) h.1.2 in
          (0, (refl, h.1.1, unless_same (room_causes s.facts.capacity s.reserved (length bytes)).all s.facts.capacity (s.reserved + length bytes) s.level t.level same.0 same.1))
      refused FileTooLarge h = absurd (never_opened s.facts.capacity s.reserved FileTooLarge fits h.1.0.0)
      refused NoRoom h = absurd (never_opened s.facts.capacity s.reserved NoRoom fits h.1.0.0)
      refused BadKey h = absurd (never_opened s.facts.capacity s.reserved BadKey fits h.1.0.0)
      refused BadEntry h = absurd (never_opened s.facts.capacity s.reserved BadEntry fits h.1.0.0)
      refused (ForReading x) h = absurd (never_opened s.facts.capacity s.reserved (ForReading x) fits h.1.0.0)
      refused (RemoteRefused x) h = absurd h.1.0.1
      refused (NotOpen x) h = absurd (never_opened s.facts.capacity s.reserved (NotOpen x) fits h.1.0.0)

  pub not-opened_cause : (how : Reservation) (c : Cause) (t : DiskStore) → how ≡ IsRefused_of c → ReserveCause (room_causes s.facts.capacity s.reserved 0) how s.level t.level → PreCause None bytes (WriteRefused c) s t
  not-opened_cause how c t is cause = refused c (subst (λ (x : Reservation). ReserveCause (room_causes s.facts.capacity s.reserved 0) x s.level t.level) is cause)
    where
      refused : (d : Cause) → ReserveCause (room_causes s.facts.capacity s.reserved 0) (IsRefused_of d) s.level t.level → PreCause None bytes (WriteRefused d) s t
      refused Io h = (refl, h.1)
      refused FileTooLarge h = absurd (never_opened s.facts.capacity s.reserved FileTooLarge fits h)
      refused NoRoom h = absurd (never_opened s.facts.capacity s.reserved NoRoom fits h)
      refused BadKey h = absurd (never_opened s.facts.capacity s.reserved BadKey fits h)
      refused BadEntry h = absurd (never_opened s.facts.capacity s.reserved BadEntry fits h)
      refused (ForReading x) h = absurd (never_opened s.facts.capacity s.reserved (ForReading x) fits h)
      refused (RemoteRefused x) h = absurd (never_opened s.facts.capacity s.reserved (RemoteRefused x) fits h)
      refused (NotOpen x) h = absurd (never_opened s.facts.capacity s.reserved (NotOpen x) fits h)

  -- want of memory: nothing went
  pub not-opened_evicts : (t : DiskStore) → EvictsFiles 0 s t → EvictsFiles (length bytes) s t
  not-opened_evicts t h told = let x = h told in ([], no_evictions s.facts.capacity (s.reserved + 0) x.0 s.level t.level (nothing_more (part_size s.level) s.reserved s.facts.capacity (within told)) x.1)

module _ (path bytes : List ℕ) (e : AddEntry) (s t : DiskStore) (p : Prepared (in_part Pre path) e s t) where
  -- the entry was not filled
  pub not-filled : (c : Cause) (u : DiskStore) → FillsBy e bytes (λ fills. fills) (NotFilled c) t u → StoresPre path bytes (WriteRefused c) s u
  not-filled c u f told key at = refused c f.0.0.0
    where
      refused : (d : Cause) → IsFault Disk t.level u.level d → (gone : ℕ) × Puts_pre_by gone s.facts.capacity (room_causes s.facts.capacity s.reserved (length bytes)) s.reserved key bytes (WriteRefused d) s.level u.level
      refused Io h =
          let same = p.same told in
          (0, (refl, rose_before s.level.faults t.level.faults u.level.faults p.stays.later.faults h, unless_same (room_causes s.facts.capacity s.reserved (length bytes)).all s.facts.capacity (s.reserved + length bytes) s.level u.level (f.0.0.1.0 ∙ same.0) (f.0.0.1.1 ∙ same.1)))
      refused FileTooLarge h = absurd h
      refused NoRoom h = absurd h
      refused BadKey h = absurd h
      refused BadEntry h = absurd h
      refused (ForReading x) h = absurd h
      refused (RemoteRefused x) h = absurd h
      refused (NotOpen x) h = absurd h

  pub not-filled_cause : (c : Cause) (u : DiskStore) → FillsBy e bytes (λ fills. fills) (NotFilled c) t u → PreCause None bytes (WriteRefused c) s u
  not-filled_cause c u f = refused c f.0.0.0
    where
      refused : (d : Cause) → IsFault Disk t.level u.level d → PreCause None bytes (WriteRefused d) s u
      refused Io h = (refl, rose_before s.level.faults t.level.faults u.level.faults p.stays.later.faults h)
      refused FileTooLarge h = absurd h
      refused NoRoom h = absurd h
      refused BadKey h = absurd h
      refused BadEntry h = absurd h
      refused (ForReading x) h = absurd h
      refused (RemoteRefused x) h = absurd h
      refused (NotOpen x) h = absurd h

  pub not-filled_evicts : (u : DiskStore) → same_maps t.level u.level → EvictsFiles (length bytes) s u
  not-filled_evicts u maps told = let same = p.same told in ([], (maps.0 ∙ same.0, maps.1 ∙ same.1))

  -- it was filled and then committed, or not
  module _ (u w : DiskStore) (more : Stays t u) (f : FillsEntry e.number bytes (λ fills. fills) t u) (last : Stays u w) (closes : ClosesEntry e.number u w) where
    reserved_same : w.reserved ≡ s.reserved
    reserved_same = (stored-entries (in_part Pre path) bytes (IsOpened e) e s t u w refl p.opens f closes).reserved

    capacity_same : u.facts.capacity ≡ s.facts.capacity
    capacity_same = ap (λ (x : LevelFacts). x.capacity) (more.facts ∙ p.stays.facts)

    told_same : u.told ≡ s.told
    told_same = more.told ∙ p.stays.told

    maps_same : s.told ≡ true → same_maps s.level u.level
    maps_same told = let same = p.same told in (f.level.0.0 ∙ same.0, f.level.0.1 ∙ same.1)

    faults_rose : Rose u.level.faults w.level.faults → Rose s.level.faults w.level.faults
    faults_rose h = rose_before s.level.faults u.level.faults w.level.faults (omega (arith, p.stays.later.faults, more.later.faults)) h

    -- what the entry holds, and what it takes
    abbrev entry : OpenEntry
    entry = record { path = in_part Pre path; size = 0; bytes = (filled_at (in_part Pre path) bytes e s t u p.opens f).0; fills = None }

    holds : entry_at u.entries e.number ≡ Some entry
    holds = (filled_at (in_part Pre path) bytes e s t u p.opens f).1

    long : s.told ≡ true → length entry.bytes ≡ length bytes
    long told = ap length ((filled_at (in_part Pre path) bytes e s t u p.opens f).2 (p.stays.told ∙ told))

    same_bytes : s.told ≡ true → entry.bytes ≡ bytes
    same_bytes told = (filled_at (in_part Pre path) bytes e s t u p.opens f).2 (p.stays.told ∙ told)

    keeps : s.told ≡ true → same_maps u.level w.level → same_maps s.level w.level
    keeps told same = let maps = maps_same told in (same.0 ∙ maps.0, same.1 ∙ maps.1)

    -- what went for the entry went for its bytes
    goes : (ps : List (Bool × List ℕ)) (v : Level) → Evicts u.facts.capacity (room_for entry w) ps u.level v → s.told ≡ true → Evicts s.facts.capacity (s.reserved + length bytes) ps s.level v
    goes ps v h told =
        let kept = reserved_same in
        let size = long told in
        let maps = maps_same told in
        let more : room_for entry w ≡ s.reserved + length bytes = omega (arith, kept, size) in
        evicts_from s.facts.capacity (s.reserved + length bytes) ps s.level u.level v maps.0 maps.1
        (subst (λ (n : ℕ). Evicts n (s.reserved + length bytes) ps u.level v) capacity_same (subst (λ (n : ℕ). Evicts u.facts.capacity n ps u.level v) more h))

    makes_room : s.told ≡ true → MakesRoom entry u w → (gone : ℕ) × Evicts_unless (room_causes s.facts.capacity s.reserved (length bytes)).all s.facts.capacity (s.reserved + length bytes) gone s.level w.level
    makes_room told (inl same) =
        let maps = maps_same told in
        (0, unless_same (room_causes s.facts.capacity s.reserved (length bytes)).all s.facts.capacity (s.reserved + length bytes) s.level w.level (same.0 ∙ maps.0) (same.1 ∙ maps.1))
    makes_room told (inr (fits, (ps, h))) =
        let maps = maps_same told in
        let kept = reserved_same in
        let size = long told in
        let capacity = capacity_same in
        let room : length bytes + s.reserved ≤ s.facts.capacity = omega (arith, fits, kept, size, capacity) in
        (main_count ps, unless_went (room_causes s.facts.capacity s.reserved (length bytes)).all s.facts.capacity (s.reserved + length bytes) ps s.level w.level (room-free s.facts.capacity s.reserved (length bytes) room) (goes ps w.level h told))

    pub stored : (how : Written) → GrowsEntry e.number how u w → w.level.opened ≡ true → StoresPre path bytes how s w
    stored how grows opened told key at = by how (grows (told_same ∙ told) entry Pre path holds refl)
      where
        by : (how : Written) → Grows Pre path entry how u w → (gone : ℕ) × Puts_pre_by gone s.facts.capacity (room_causes s.facts.capacity s.reserved (length bytes)) s.reserved key bytes how s.level w.level
        by WriteDone h =
            let kept = reserved_same in
            let size = long told in
            let capacity = capacity_same in
            let room : length bytes + s.reserved ≤ s.facts.capacity = omega (arith, h.0, kept, size, capacity) in
            let free = room-free s.facts.capacity s.reserved (length bytes) room in
            let went = h.1.1 in (
              main_count went.0,
              (
                free,
                (h.1.0, unless_went (room_causes s.facts.capacity s.reserved (length bytes)).all s.facts.capacity (s.reserved + length bytes) went.0 s.level h.1.0 free (goes went.0 h.1.0 went.1 told), h.1.2.0, h.1.2.1 ∙ (λ i. put_file h.1.0.pre (at i) (same_bytes told i))),
                opened,
              ),
            )
        by (WriteRefused Io) h = let room = makes_room told h.1 in (room.0, (refl, faults_rose h.0, room.1))
        by (WriteRefused FileTooLarge) h =
            let size = long told in
            let capacity = capacity_same in
            (0, ((too_large s.facts.capacity s.reserved (length bytes) (omega (arith, h.0, size, capacity)), keeps told h.1, opened), refl))
        by (WriteRefused NoRoom) h =
            let kept = reserved_same in
            let size = long told in
            let capacity = capacity_same in
            (0, ((no_room s.facts.capacity s.reserved (length bytes) (omega (arith, h.0, size, capacity)) (omega (arith, h.1, kept, size, capacity)), keeps told h.2, opened), refl))
        by (WriteRefused BadKey) h = absurd h
        by (WriteRefused BadEntry) h = absurd h
        by (WriteRefused (ForReading x)) h = absurd h
        by (WriteRefused (RemoteRefused x)) h = absurd h
        by (WriteRefused (NotOpen x)) h = absurd h

    pub stored-cause : (how : Written) → CommitCause e.number how u w → PreCause None bytes how s w
    stored-cause WriteDone h = refl
    stored-cause (WriteRefused Io) h = (refl, faults_rose h)
    stored-cause (WriteRefused FileTooLarge) h = (refl, (h.0, λ told. h.1 (told_same ∙ told) entry holds ∙ long told, let capacity = capacity_same in omega (arith, h.2, capacity)))
    stored-cause (WriteRefused NoRoom) h =
        let kept = reserved_same in
        let capacity = capacity_same in
        (refl, (h.0, λ told. h.1 (told_same ∙ told) entry holds ∙ long told, omega (arith, h.2, capacity), omega (arith, h.3, kept, capacity)))
    stored-cause (WriteRefused BadKey) h = absurd h
    stored-cause (WriteRefused BadEntry) h = absurd h
    stored-cause (WriteRefused (ForReading x)) h = absurd h
    stored-cause (WriteRefused (RemoteRefused x)) h = absurd h
    stored-cause (WriteRefused (NotOpen x)) h = absurd h

    -- want of memory
    pub not-stored : GrowsNothing e.number u w → EvictsFiles (length bytes) s w
    not-stored h told = went (h (told_same ∙ told) entry holds)
      where
        went : MakesRoom entry u w → (ps : List (Bool × List ℕ)) × Evicts s.facts.capacity (s.reserved + length bytes) ps s.level w.level
        went (inl same) = let maps = maps_same told in ([], (same.0 ∙ maps.0, same.1 ∙ maps.1))
        went (inr (fits, (ps, gone))) = (ps, goes ps w.level gone told)

-- A put at the opened store is one of the store before it was opened.
room_all : (p : Policy) (f : LevelFacts) (r : ℕ) (k : List ℕ) (n : ℕ) → f.kind ≡ Disk → early_cause p f k ≡ None → write_cause p f r k n ≡ room_cause Disk f.capacity r n
room_all p f r k n kind early = none-is-room p f r k n early ∙ ap (λ (d : LevelKind). room_cause d f.capacity r n) kind

no_such : (f : LevelFacts) (r n : ℕ) (c : Cause) → (IsRoom c → ⊥) → room_cause Disk f.capacity r n ≡ Some c → ⊥
no_such f r n c never h = never (room_of f.capacity r n c h)

put_from : (p : Policy) (f : LevelFacts) (r gone : ℕ) (k b : List ℕ) (how : Written) (v u w : Level) → f.kind ≡ Disk → early_cause p f k ≡ None → v.faults ≤ u.faults → u.main ≡ v.main → u.pre ≡ v.pre → Puts_pre_by gone f.capacity (room_causes f.capacity r (length b)) r k b how u w
    → Puts_pre_by gone f.capacity (causes p f r k (length b)) r k b how v w
unfolding IsRoom
put_from p f r gone k b WriteDone v u w kind early l m q h =
    let all = room_all p f r k (length b) kind early in (
      all ∙ h.0,
      (h.1.0, unless_from (write_cause p f r k (length b)) (room_cause Disk f.capacity r (length b)) f.capacity (r + length b) gone v u h.1.0 (sym all) m q h.1.1, h.1.2, h.1.3),
      h.2,
    )
put_from p f r gone k b (WriteRefused Io) v u w kind early l m q h =
    let all = room_all p f r k (length b) kind early in
    (early, rose_before v.faults u.faults w.faults l h.1, unless_from (write_cause p f r k (length b)) (room_cause Disk f.capacity r (length b)) f.capacity (r + length b) gone v u w (sym all) m q h.2)
put_from p f r gone k b (WriteRefused FileTooLarge) v u w kind early l m q h = ((room_all p f r k (length b) kind early ∙ h.0.0, (h.0.1.0 ∙ m, h.0.1.1 ∙ q), h.0.2), h.1)
put_from p f r gone k b (WriteRefused NoRoom) v u w kind early l m q h = ((room_all p f r k (length b) kind early ∙ h.0.0, (h.0.1.0 ∙ m, h.0.1.1 ∙ q), h.0.2), h.1)
put_from p f r gone k b (WriteRefused BadKey) v u w kind early l m q h = absurd (no_such f r (length b) BadKey (λ x. x) h.0.0)
put_from p f r gone k b (WriteRefused BadEntry) v u w kind early l m q h = absurd (no_such f r (length b) BadEntry (λ x. x) h.0.0)
put_from p f r gone k b (WriteRefused (ForReading x)) v u w kind early l m q h = absurd (no_such f r (length b) (ForReading x) (λ y. y) h.0.0)
put_from p f r gone k b (WriteRefused (RemoteRefused x)) v u w kind early l m q h = absurd h.0.1
put_from p f r gone k b (WriteRefused (NotOpen x)) v u w kind early l m q h = absurd (no_such f r (length b) (NotOpen x) (λ y. y) h.0.0)

-- the store's disks refuse to open
pub unopened-put : (old new : DiskStore) (p : Policy) (k b : List ℕ) → early_cause p old.facts k ≡ None → Rose old.level.faults new.level.faults → Steady old new
    → StoresKey p k b (WriteRefused Io) old new
unopened-put old new p k b early rose steady told = (0, (early, rose, unless_same (write_cause p old.facts old.reserved k (length b)) old.facts.capacity (old.reserved + length b) old.level new.level steady.main steady.pre))

none_some : (c : Cause) → None ≡ Some c → ⊥
none_some c e = cc

module _ (old mid new : DiskStore) (steady : Steady old mid) (kind : old.facts.kind ≡ Disk) (p : Policy) (k b : List ℕ) (early : early_cause p old.facts k ≡ None) (r : Result Written NoMemory) where
  pub put-opened : (path : List ℕ) → path ≡ normalize_key k → IfOk r (λ how. StoresPre path b how mid new) → IfOk r (λ how. StoresKey p k b how old new)
  put-opened path at h = if_ok r h (λ how f told. let x = f (steady.told ∙ told) k at in (
    x.0,
    put_from p old.facts old.reserved x.0 k b how old.level mid.level new.level kind early steady.later.faults steady.main steady.pre
        (subst (λ (y : LevelFacts). Puts_pre_by x.0 y.capacity (room_causes y.capacity old.reserved (length b)) old.reserved k b how mid.level new.level) steady.facts
        (subst (λ (z : ℕ). Puts_pre_by x.0 mid.facts.capacity (room_causes mid.facts.capacity z (length b)) z k b how mid.level new.level) steady.reserved x.1)),
  ))

  cause_from : (how : Written) → PreCause None b how mid new → PreCause (early_cause p old.facts k) b how old new
  cause_from WriteDone h = early
  cause_from (WriteRefused Io) h = (early, rose_before old.level.faults mid.level.faults new.level.faults steady.later.faults h.1)
  cause_from (WriteRefused FileTooLarge) h =
      let same = ap (λ (x : LevelFacts). x.capacity) steady.facts in
      (early, (h.1.0, (λ told. h.1.1 (steady.told ∙ told)), subst (λ (z : ℕ). z < h.1.0) same h.1.2))
  cause_from (WriteRefused NoRoom) h =
      let same = ap (λ (x : LevelFacts). x.capacity) steady.facts in
      let kept = steady.reserved in
      (early, (h.1.0, (λ told. h.1.1 (steady.told ∙ told)), subst (λ (z : ℕ). h.1.0 ≤ z) same h.1.2, omega (arith, h.1.3, same, kept)))
  cause_from (WriteRefused BadKey) h = absurd (none_some BadKey h)
  cause_from (WriteRefused BadEntry) h = absurd (none_some BadEntry h)
  cause_from (WriteRefused (ForReading x)) h = absurd (none_some (ForReading x) h)
  cause_from (WriteRefused (RemoteRefused x)) h = absurd (none_some (RemoteRefused x) h)
  cause_from (WriteRefused (NotOpen x)) h = absurd (none_some (NotOpen x) h)

  pub put-cause : IfOk r (λ how. PreCause None b how mid new) → IfOk r (λ how. PreCause (early_cause p old.facts k) b how old new)
  put-cause h = if_ok r h cause_from

  pub put-evicts : OnErr r (EvictsFiles (length b) mid new) → OnErr r (EvictsFiles (length b) old new)
  put-evicts h = on_err r h (λ f told. let x = f (steady.told ∙ told) in (
    x.0,
    evicts_from old.facts.capacity (old.reserved + length b) x.0 old.level mid.level new.level steady.main steady.pre
        (subst (λ (y : LevelFacts). Evicts y.capacity (old.reserved + length b) x.0 mid.level new.level) steady.facts (subst (λ (z : ℕ). Evicts mid.facts.capacity (z + length b) x.0 mid.level new.level) steady.reserved x.1)),
  ))
