-- How a state moves by what opened, filled and closed an entry at one of its disk levels.
use Rattle.std.proofs.Common.{◌≡◌, ◌≢◌, ◌==◌, ℕ, ◌+◌, ◌≤◌, Bool, true, false, not, List, [], length, slice_set, Option, Some, None, refl, ap, arith, sym, subst, ◌∙◌, eqb-true, eq-eqb}
use Rattle.std.specs.Option.{option_map_or}
use Rattle.sc_disk.specs.Store.{AddEntry}
use Rattle.sc_store_disk.specs.DiskStores.{DiskStore, OpenEntry, entry_at, entry_path}
use Rattle.sc_store_disk.specs.Entries.{ClosesEntry, CommitsEntry, CommitsFile, FillsBy, IsOpenAt}
use Rattle.sc_store_disk.specs.Marks.{filled_by}
use Rattle.sc_store_disk.specs.Moving.{OpensBy, ReserveCause, SameEntries, written_of as reserved_of}
use Rattle.sc_store_disk.specs.declared.filling.Filling.{Filling}
use Rattle.sc_store_disk.specs.declared.filling.Filling.TheVariants.{Filled as StillOpen, Refused as NotFilled}
use Rattle.sc_store_disk.specs.declared.reserving.Reservation.{Reservation}
use Rattle.sc_store_disk.specs.declared.reserving.Reservation.TheVariants.{Open, Refused as NotReserved}
use Rattle.sc_entry.specs.Keys.{IsStoreKey, is_store_key, make_key_path}
use Rattle.sc_daemon_hold.specs.Holding.{Holds, IsFor, IsGood, IsOpenFor, IsSame, OpensNone, ReservesBy, filled_of}
use Rattle.sc_daemon_job.specs.Setups.{setup}
use Rattle.sc_daemon_owned.specs.Facts.{config_of}
use Rattle.sc_model.specs.Dues.{kind_at}
use Rattle.sc_model.specs.Levels.{Later, Level}
use Rattle.sc_model.specs.World.{Need, World}
use Rattle.sc_model.specs.WriteCauses.{causes, or_cause, read_only_store, refuses_writes, room_cause}
use Rattle.sc_model.specs.Writing.{Commits, Fills}
use Rattle.sc_model.specs.declared.event.Mode.TheVariants.{Pre}
use Rattle.sc_model.specs.declared.event.What.{What}
use Rattle.sc_model.specs.declared.event.What.TheVariants.{Committed, Filled, Reserved, Wrote}
use Rattle.sc_model.specs.declared.event.Written.{Written}
use Rattle.sc_model.specs.declared.event.Written.TheVariants.{Done, Refused}
use Rattle.sc_model.specs.declared.level.Cause.{Cause}
use Rattle.sc_model.specs.declared.level.Cause.TheVariants.{BadKey, ReadOnly as ForReading}
use Rattle.sc_model.specs.declared.level.LevelFacts.{LevelFacts}
use Rattle.sc_model.specs.declared.level.LevelKind.{LevelKind}
use Rattle.sc_model.specs.declared.level.LevelKind.TheVariants.{Disk}
use Rattle.sc_model.specs.declared.level.Policy.{Policy}
use Rattle.sc_model.specs.declared.phase.Bytes.{Bytes}
use Rattle.sc_daemon_owned.specs.Moving.{MovesWorld, SameRooms}
use Rattle.sc_daemon_owned.specs.State.{State, disk_at, reserved_in}
use Rattle.sc_store.proofs.Alone.{other_set}
use Rattle.sc_store.specs.Asking.{PutsPre, ReservesDisk}
use Rattle.sc_store.specs.Held.{Held, Room, disk_in, level_in, no_room, room_in}

-- One level and what is open there moved, and no other.
pub record AtLevel (o : State) (after : Held) (l : ℕ) : Type 0 where
  pub told : after.told ≡ o.told
  pub facts : after.facts ≡ o.config.levels
  pub levels : after.levels ≡ slice_set o.world.levels l (level_in after.levels l)
  pub rooms : after.rooms ≡ slice_set o.rooms l (room_in after.rooms l)
  pub later : Later (level_in o.world.levels l) (level_in after.levels l)

-- how a state moves to what is told, held and open
abbrev pub MovesOpen : State → Need → What → Bool → World → List Room → Type 0
MovesOpen o n x told w rooms =
    (told ≡ o.told) × MovesWorld (setup (config_of o.config)) n (reserved_in o) o.told x o.world w × (OpensNone x → SameRooms o.rooms rooms) × ReservesBy x (reserved_in o) (λ l. (room_in rooms l).reserved)

never : false ≡ true → ⊥
never e = absurd (cc)

rooms_apart : (o : State) (after : Held) (l m : ℕ) → AtLevel o after l → m ≢ l → room_in after.rooms m ≡ room_in o.rooms m
rooms_apart o after l m at apart = ap (λ rs. room_in rs m) at.rooms ∙ other_set o.rooms l m (room_in after.rooms l) no_room apart

every : (l : ℕ) (f g : ℕ → ℕ) → g l ≡ f l → ((m : ℕ) → m ≢ l → g m ≡ f m) → (m : ℕ) → g m ≡ f m
every l f g at apart m = (elim (m == l) as (λ t. (m == l) ≡ t → g m ≡ f m) [
  | true ↦ λ e. subst (λ (k : ℕ). g k ≡ f k) (sym (eqb-true m l e)) at
  | false ↦ λ e. apart m (λ is. never (sym e ∙ eq-eqb m l is))
]) refl

-- the other levels
pub elsewhere : (o now : State) (after : Held) (l : ℕ) → o ≡ now → AtLevel o after l → (m : ℕ) → m ≢ l → ((room_in after.rooms m).reserved ≡ (room_in now.rooms m).reserved) × ((number : ℕ) → entry_at (room_in after.rooms m).entries number ≡ entry_at (room_in now.rooms m).entries number)
elsewhere o now after l is at m apart =
    let same = rooms_apart o after l m at apart ∙ ap (λ (s : State). room_in s.rooms m) is in
    (ap (λ r. r.reserved) same, λ number. ap (λ r. entry_at r.entries number) same)

-- what is open stays at each level where it stays at the one that moved
same_rooms : (o : State) (after : Held) (l : ℕ) → AtLevel o after l → SameEntries (disk_at o l) (disk_in after l) → SameRooms o.rooms after.rooms
same_rooms o after l at same m = (elim (m == l) as (λ t. (m == l) ≡ t → ((room_in after.rooms m).reserved ≡ (room_in o.rooms m).reserved) × ((number : ℕ) → entry_at (room_in after.rooms m).entries number ≡ entry_at (room_in o.rooms m).entries number)) [
  | true ↦ λ e. subst (λ (k : ℕ). ((room_in after.rooms k).reserved ≡ (room_in o.rooms k).reserved) × ((number : ℕ) → entry_at (room_in after.rooms k).entries number ≡ entry_at (room_in o.rooms k).entries number)) (sym (eqb-true m l e)) (same.reserved, same.entries)
  | false ↦ λ e. let apart = rooms_apart o after l m at (λ is. never (sym e ∙ eq-eqb m l is)) in (ap (λ r. r.reserved) apart, λ number. ap (λ r. entry_at r.entries number) apart)
]) refl

-- A preprocessor entry was put, or not.
wrote_pre_of_state : (o : State) (after : Held) (l : ℕ) (key bytes : List ℕ) (run : Bool) (how : Written) (n : Need) → AtLevel o after l → PutsPre o.config.policy key bytes how (disk_at o l) (disk_in after l) → SameEntries (disk_at o l) (disk_in after l)
    → MovesOpen o n (Wrote l key bytes Pre run how) after.told (record o.world { levels = after.levels }) after.rooms
wrote_pre_of_state o after l key bytes run how n at put same = (
  at.told,
  record { moment = refl; levels = λ told. (level_in after.levels l, (at.later, put told), at.levels); shop = (refl, refl, refl); dist = (refl, (refl, refl)) },
  λ none. same_rooms o after l at same,
  λ m. (same_rooms o after l at same m).0,
)

pub wrote_pre : (o now : State) (after : Held) (l : ℕ) (key bytes : List ℕ) (run : Bool) (how : Written) (n : Need) → o ≡ now → AtLevel o after l → PutsPre o.config.policy key bytes how (disk_at o l) (disk_in after l) → SameEntries (disk_at o l) (disk_in after l)
    → MovesOpen now n (Wrote l key bytes Pre run how) after.told (record o.world { levels = after.levels }) after.rooms
wrote_pre o now after l key bytes run how n is at put same =
    subst (λ (s : State). MovesOpen s n (Wrote l key bytes Pre run how) after.told (record o.world { levels = after.levels }) after.rooms) is (wrote_pre_of_state o after l key bytes run how n at put same)

-- An entry was opened, or not.
opened_reserves : (o : State) (after : Held) (l : ℕ) (key : List ℕ) (size : ℕ) (how : Reservation) → AtLevel o after l → OpensBy (entry_path key) size how (disk_at o l) (disk_in after l)
    → ReservesBy (Reserved l key size (reserved_of how)) (reserved_in o) (λ m. (room_in after.rooms m).reserved)
opened_reserves o after l key size (Open e) at opens = (opens.reserved, λ m apart. ap (λ r. r.reserved) (rooms_apart o after l m at apart))
opened_reserves o after l key size (NotReserved c) at opens = every l (reserved_in o) (λ m. (room_in after.rooms m).reserved) opens.reserved (λ m apart. ap (λ r. r.reserved) (rooms_apart o after l m at apart))

reserved_of_state : (o : State) (after : Held) (l : ℕ) (key : List ℕ) (size : ℕ) (how : Reservation) (n : Need) → AtLevel o after l → ReservesDisk o.config.policy key size how (disk_at o l) (disk_in after l)
    → OpensBy (entry_path key) size how (disk_at o l) (disk_in after l) → MovesOpen o n (Reserved l key size (reserved_of how)) after.told (record o.world { levels = after.levels }) after.rooms
reserved_of_state o after l key size how n at moved opens = (
  at.told,
  record { moment = refl; levels = λ told. (level_in after.levels l, (at.later, moved told), at.levels); shop = (refl, refl, refl); dist = (refl, (refl, refl)) },
  λ none. absurd none,
  opened_reserves o after l key size how at opens,
)

pub reserved : (o now : State) (after : Held) (l : ℕ) (key : List ℕ) (size : ℕ) (how : Reservation) (n : Need) → o ≡ now → AtLevel o after l → ReservesDisk o.config.policy key size how (disk_at o l) (disk_in after l)
    → OpensBy (entry_path key) size how (disk_at o l) (disk_in after l) → MovesOpen now n (Reserved l key size (reserved_of how)) after.told (record o.world { levels = after.levels }) after.rooms
reserved o now after l key size how n is at moved opens =
    subst (λ (s : State). MovesOpen s n (Reserved l key size (reserved_of how)) after.told (record o.world { levels = after.levels }) after.rooms) is (reserved_of_state o after l key size how n at moved opens)

-- an entry is opened for a store key alone
key_good : (a b : Bool) (x : Cause) (rest : Option Cause) → or_cause a x (or_cause (not b) BadKey rest) ≡ None → b ≡ true
key_good true b x rest h = absurd (cc)
key_good false true x rest h = refl
key_good false false x rest h = absurd (cc)

pub good_key : (p : Policy) (f : LevelFacts) (r : ℕ) (key : List ℕ) (size n : ℕ) (how : Reservation) (v w : Level) (s t : DiskStore) → ReserveCause (causes p f r key size) how v w → OpensBy (entry_path key) n how s t → IsGood how key
good_key p f r key size n (Open e) v w s t cause opens = record {
  good = key_good (refuses_writes p f) (is_store_key key) (ForReading (read_only_store f f.wrapped)) (room_cause f.kind f.capacity r size) cause;
  key = opens.key;
  divided = opens.divided;
}
good_key p f r key size n (NotReserved c) v w s t cause opens = tt

-- An entry that is held is open.
pub is_open_held : (s : DiskStore) (e : AddEntry) (b : Bytes) (filled : List ℕ) (fills : Option Bool) → IsFor e b.key × IsOpenFor s e b filled fills → IsOpenAt e s
is_open_held s e b filled fills h = (h.0.divided, (record { path = entry_path b.key; size = length b.bytes; bytes = h.1.bytes; fills = fills }, h.1.entry, sym h.0.key))

declared_held : (s : DiskStore) (e : AddEntry) (b : Bytes) (filled : List ℕ) (fills : Option Bool) → IsFor e b.key × IsOpenFor s e b filled fills → option_map_or (λ (o : OpenEntry). o.size) (entry_at s.entries e.number) 0 ≡ length b.bytes
declared_held s e b filled fills h = ap (λ x. option_map_or (λ (o : OpenEntry). o.size) x 0) h.1.entry

closed_reserves : (o : State) (after : Held) (l : ℕ) (e : AddEntry) (b : Bytes) (filled : List ℕ) (fills : Option Bool) → Holds (Some (disk_at o)) l e b filled fills → ClosesEntry e.number (disk_at o l) (disk_in after l) → (room_in after.rooms l).reserved + length b.bytes ≡ reserved_in o l
closed_reserves o after l e b filled fills h closes = ap (λ n. (room_in after.rooms l).reserved + n) (sym (declared_held (disk_at o l) e b filled fills h)) ∙ closes.reserved

-- a fill gives the entry that it was given
pub same_filled : (e : AddEntry) (more : List ℕ) (fills : Option Bool → Option Bool) (how : Filling) (s t : DiskStore) → FillsBy e more fills how s t → IsSame e how
same_filled e more fills (StillOpen same) s t h = h.0
same_filled e more fills (NotFilled c) s t h = tt

-- An entry was filled, or not.
fills_in : (s t : DiskStore) (e : AddEntry) (more : List ℕ) (fills : Option Bool → Option Bool) (how : Filling) → FillsBy e more fills how s t → Fills (filled_of how) s.level t.level
fills_in s t e more fills (StillOpen same) h = h.1.level
fills_in s t e more fills (NotFilled c) h = h.0

filled_reserves : (o : State) (after : Held) (l : ℕ) (e : AddEntry) (b : Bytes) (how : Filling) → AtLevel o after l → Holds (Some (disk_at o)) l e b [] None → FillsBy e b.bytes (filled_by b.run) how (disk_at o l) (disk_in after l)
    → ReservesBy (Filled l b.key b.bytes b.run (filled_of how)) (reserved_in o) (λ m. (room_in after.rooms m).reserved)
filled_reserves o after l e b (StillOpen same) at held h = every l (reserved_in o) (λ m. (room_in after.rooms m).reserved) h.1.reserved (λ m apart. ap (λ r. r.reserved) (rooms_apart o after l m at apart))
filled_reserves o after l e b (NotFilled c) at held h = (closed_reserves o after l e b [] None held h.1, λ m apart. ap (λ r. r.reserved) (rooms_apart o after l m at apart))

filled_of_state : (o : State) (after : Held) (l : ℕ) (e : AddEntry) (b : Bytes) (how : Filling) (n : Need) → AtLevel o after l → Holds (Some (disk_at o)) l e b [] None → FillsBy e b.bytes (filled_by b.run) how (disk_at o l) (disk_in after l)
    → MovesOpen o n (Filled l b.key b.bytes b.run (filled_of how)) after.told (record o.world { levels = after.levels }) after.rooms
filled_of_state o after l e b how n at held h = (
  at.told,
  record { moment = refl; levels = λ told. (level_in after.levels l, (at.later, fills_in (disk_at o l) (disk_in after l) e b.bytes (filled_by b.run) how h), at.levels); shop = (refl, refl, refl); dist = (refl, (refl, refl)) },
  λ none. absurd none,
  filled_reserves o after l e b how at held h,
)

pub filled : (o now : State) (after : Held) (l : ℕ) (e : AddEntry) (b : Bytes) (how : Filling) (n : Need) → o ≡ now → AtLevel o after l → Holds (Some (disk_at now)) l e b [] None → FillsBy e b.bytes (filled_by b.run) how (disk_at o l) (disk_in after l)
    → MovesOpen now n (Filled l b.key b.bytes b.run (filled_of how)) after.told (record o.world { levels = after.levels }) after.rooms
filled o now after l e b how n is at held h =
    subst (λ (s : State). MovesOpen s n (Filled l b.key b.bytes b.run (filled_of how)) after.told (record o.world { levels = after.levels }) after.rooms) is
    (filled_of_state o after l e b how n at (subst (λ (s : State). Holds (Some (disk_at s)) l e b [] None) (sym is) held) h)

-- An entry was committed, or not.
commits_in : (kind : LevelKind) (key bytes : List ℕ) (mark : Bool) (how : Written) (v w : Level) → kind ≡ Disk → IsStoreKey key → CommitsFile (make_key_path key) bytes mark how v w → Commits kind key bytes mark how v w
commits_in kind key bytes mark Done v w disk good h = subst (λ (k : LevelKind). Commits k key bytes mark Done v w) (sym disk) ((good, h.file.0, h.file.1, h.file.2), h.calls, h.store)
commits_in kind key bytes mark (Refused c) v w disk good h = subst (λ (k : LevelKind). Commits k key bytes mark (Refused c) v w) (sym disk) (h.file, h.calls, h.store)

as_long : (a b : List ℕ) → a ≡ b → length a ≤ length b
as_long a b e = let same : length a ≡ length b = ap length e in omega (arith, same)

committed_of_state : (o : State) (after : Held) (l : ℕ) (e : AddEntry) (b : Bytes) (how : Written) (n : Need) → AtLevel o after l → kind_at o.config.levels l ≡ Disk → Holds (Some (disk_at o)) l e b b.bytes (Some b.run) → ClosesEntry e.number (disk_at o l) (disk_in after l)
    → CommitsEntry e.number how (disk_at o l) (disk_in after l) → n.mark ≡ b.run → MovesOpen o n (Committed l b.key b.bytes how) after.told (record o.world { levels = after.levels }) after.rooms
committed_of_state o after l e b how n at disk held closes commits marks = (
  at.told,
  record {
    moment = refl;
    levels = λ told.
        let same : held.1.bytes ≡ b.bytes = held.1.told told in
        let file : CommitsFile (make_key_path b.key) held.1.bytes b.run how (level_in o.world.levels l) (level_in after.levels l) = commits told (record { path = entry_path b.key; size = length b.bytes; bytes = held.1.bytes; fills = Some b.run }) (make_key_path b.key) held.1.entry (as_long held.1.bytes b.bytes same) refl in (
          level_in after.levels l,
          (
            at.later,
            subst (λ (m : Bool). Commits (kind_at o.config.levels l) b.key b.bytes m how (level_in o.world.levels l) (level_in after.levels l)) (sym marks)
                (commits_in (kind_at o.config.levels l) b.key b.bytes b.run how (level_in o.world.levels l) (level_in after.levels l) disk held.0.good
                (subst (λ (c : List ℕ). CommitsFile (make_key_path b.key) c b.run how (level_in o.world.levels l) (level_in after.levels l)) same file)),
          ),
          at.levels,
        );
    shop = (refl, refl, refl);
    dist = (refl, (refl, refl));
  },
  λ none. absurd none,
  (closed_reserves o after l e b b.bytes (Some b.run) held closes, λ m apart. ap (λ r. r.reserved) (rooms_apart o after l m at apart)),
)

pub committed : (o now : State) (after : Held) (l : ℕ) (e : AddEntry) (b : Bytes) (how : Written) (n : Need) → o ≡ now → AtLevel o after l → kind_at now.config.levels l ≡ Disk → Holds (Some (disk_at now)) l e b b.bytes (Some b.run) → ClosesEntry e.number (disk_at o l) (disk_in after l)
    → CommitsEntry e.number how (disk_at o l) (disk_in after l) → n.mark ≡ b.run → MovesOpen now n (Committed l b.key b.bytes how) after.told (record o.world { levels = after.levels }) after.rooms
committed o now after l e b how n is at disk held closes commits marks =
    subst (λ (s : State). MovesOpen s n (Committed l b.key b.bytes how) after.told (record o.world { levels = after.levels }) after.rooms) is
    (committed_of_state o after l e b how n at (subst (λ (s : State). kind_at s.config.levels l ≡ Disk) (sym is) disk) (subst (λ (s : State). Holds (Some (disk_at s)) l e b b.bytes (Some b.run)) (sym is) held) closes commits marks)
