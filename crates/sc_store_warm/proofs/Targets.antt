-- What one key does to a target that stands alone.
use Rattle.std.proofs.Common.{◌≡◌, ◌⊎◌, ⊎_elim, inl, inr, ℕ, ◌+◌, ◌≤◌, Bool, true, false, not, nat_lt, bytes_eq, List, [], ◌∷◌, length, Option, Some, None, refl, sym, ap, ◌∙◌, subst, arith}
use Rattle.std.proofs.lemmas.Slice.Eq.{bytes_eq-Decides}
use Rattle.std.proofs.lemmas.Bool.Decides.{nat_tests}
use Rattle.sc_disk_pair.specs.declared.part.Part.{Part}
use Rattle.sc_disk_pair.specs.declared.part.Part.TheVariants.{Main, Pre}
use Rattle.sc_entry.specs.Keys.{IsStoreKey, is_store_key}
use Rattle.sc_model.specs.Evicting.{part_size}
use Rattle.sc_model.specs.Levels.{find_file, main_path}
use Rattle.sc_model.specs.WriteCauses.{causes, or_cause, read_only_store, refuses_writes, room_cause}
use Rattle.sc_model.specs.Writing.{Puts_remote}
use Rattle.sc_model.specs.declared.event.Written.{Written}
use Rattle.sc_model.specs.declared.event.Written.TheVariants.{Done, Refused as WriteRefused}
use Rattle.sc_model.specs.declared.level.Cause.{Cause}
use Rattle.sc_model.specs.declared.level.Cause.TheVariants.{BadEntry, BadKey, FileTooLarge, Io, NotOpen, ReadOnly as ForReading, RemoteFault as RemoteRefused, Reserved as NoRoom}
use Rattle.sc_model.specs.declared.level.LevelFacts.{LevelFacts}
use Rattle.sc_model.specs.declared.level.LevelKind.{LevelKind}
use Rattle.sc_model.specs.declared.level.LevelKind.TheVariants.{Disk, Remote}
use Rattle.sc_model.specs.declared.level.Policy.TheVariants.{Single}
use Rattle.sc_store.specs.Asking.{MarksWrote, mark_path}
use Rattle.sc_store.specs.Held.{HeldLevel, disk_of}
use Rattle.sc_store_alone.specs.Lookups.{AreSpelled}
use Rattle.sc_store_alone.specs.Puts.{PutMarks}
use Rattle.sc_store_alone.specs.Storages.{Alone, GetsRaw, KeepsAlone, KeepsStore, Layered, PutsAlone, State, Wrapped}
use Rattle.sc_store_alone.specs.declared.storage_error.StorageError.{StorageError}
use Rattle.sc_store_alone.specs.declared.storage_error.StorageError.TheVariants.{Level as LevelRefused, NoLevels, NoMemory, Refused, Unsupported}
use Rattle.sc_store_disk.specs.DiskStores.{entry_path}
use Rattle.sc_store_disk.specs.Marks.{Marks, Sets, is_marked}
use Rattle.sc_store_disk.specs.Moving.{part_files}
use Rattle.sc_store_warm.proofs.Moves.{GoneBy, IsApart, Shifts, disk_left, disk_shifts, remote_left, remote_shifts}
use Rattle.sc_store_warm.proofs.Sources.{loses_later, read_holds, read_stays, was_held}
use Rattle.sc_store_warm.specs.Causes.{IfTells, held_under}
use Rattle.sc_store_warm.specs.Outcomes.{IsCopy, StaysOrGone, WhyGone}
use Rattle.sc_store_warm.specs.Warming.{WarmsKey}
use Rattle.sc_store_warm.specs.declared.warmed.Warmed.{Warmed}
use Rattle.sc_store_warm.specs.declared.warmed.Warmed.TheVariants.{Absent, Copied, FromRefused, ToRefused, Torn}

-- what became of a key, by how its put ended
abbrev pub IsEnd : Warmed → Written → ℕ → Type 0
IsEnd (Copied size) Done long = size ≡ long
IsEnd (ToRefused (Refused c)) (WriteRefused d) long = c ≡ d
IsEnd warmed how long = ⊥

-- An entry that was read was put.
pub record PutStep (key : List ℕ) (warmed : Warmed) (from from2 : State) (to to2 : HeldLevel) : Type 0 where
  pub bytes : List ℕ
  pub how : Written
  pub keeps : KeepsStore from from2
  pub read : GetsRaw from from2 key (Some bytes)
  pub spelled : AreSpelled bytes
  pub same : KeepsAlone to to2
  pub puts : PutsAlone to.facts.kind key bytes how to to2
  pub end : IsEnd warmed how (length bytes)

-- or the target was not called
abbrev pub TargetStep : List ℕ → Warmed → State → State → HeldLevel → HeldLevel → Type 0
TargetStep key warmed from from2 to to2 = ((to2 ≡ to) × (IsCopy warmed → ⊥)) ⊎ PutStep key warmed from from2 to to2

refused_step : (key : List ℕ) (refusal : StorageError) (f g : State) (t u : HeldLevel) → WarmsKey key (ToRefused refusal) f g (Alone t) (Alone u) → PutStep key (ToRefused refusal) f g t u
refused_step key NoMemory f g t u (bytes, r, spelled, k, p) = absurd (p.0 refl)
refused_step key (Refused c) f g t u (bytes, r, spelled, k, p) = record { bytes = bytes; how = WriteRefused c; keeps = r.0; read = r.1; spelled = spelled; same = k; puts = p.1; end = refl }
refused_step key (LevelRefused l c) f g t u (bytes, r, spelled, k, p) = absurd p.1
refused_step key NoLevels f g t u (bytes, r, spelled, k, p) = absurd p.1
refused_step key Unsupported f g t u (bytes, r, spelled, k, p) = absurd p.1

-- the target stands alone after the key too
pub target_of : (key : List ℕ) (warmed : Warmed) (f g : State) (t : HeldLevel) (v : State) → WarmsKey key warmed f g (Alone t) v → (u : HeldLevel) × (v ≡ Alone u) × TargetStep key warmed f g t u
target_of key (FromRefused refusal) f g t v (apart, k, r, same) = (t, same, inl (refl, λ copy. copy))
target_of key Absent f g t v (r, same) = (t, same, inl (refl, λ copy. copy))
target_of key Torn f g t v (bytes, r, torn, same) = (t, same, inl (refl, λ copy. copy))
target_of key (Copied size) f g t (Alone u) (bytes, r, spelled, k, p) = (u, refl, inr (record { bytes = bytes; how = Done; keeps = r.0; read = r.1; spelled = spelled; same = k; puts = p.1; end = p.0 }))
target_of key (Copied size) f g t (Layered u) (bytes, r, spelled, k, p) = absurd k
target_of key (Copied size) f g t (Wrapped u) (bytes, r, spelled, k, p) = absurd k
target_of key (ToRefused refusal) f g t (Alone u) h = (u, refl, inr (refused_step key refusal f g t u h))
target_of key (ToRefused refusal) f g t (Layered u) (bytes, r, spelled, k, p) = absurd k
target_of key (ToRefused refusal) f g t (Wrapped u) (bytes, r, spelled, k, p) = absurd k

pub done_is_copy : (warmed : Warmed) (how : Written) (long : ℕ) → IsEnd warmed how long → how ≡ Done → IsCopy warmed
done_is_copy (Copied size) how long h done = tt
done_is_copy (ToRefused refusal) Done long h done = absurd (no_end refusal long h)
  where
    no_end : (r : StorageError) (n : ℕ) → IsEnd (ToRefused r) Done n → ⊥
    no_end NoMemory n x = x
    no_end (Refused c) n x = x
    no_end (LevelRefused l c) n x = x
    no_end NoLevels n x = x
    no_end Unsupported n x = x
done_is_copy (ToRefused refusal) (WriteRefused c) long h done = absurd (cc)
done_is_copy (FromRefused refusal) how long h done = absurd h
done_is_copy Absent how long h done = absurd h
done_is_copy Torn how long h done = absurd h

pub copy_is_done : (warmed : Warmed) (how : Written) (long : ℕ) → IsEnd warmed how long → IsCopy warmed → how ≡ Done
copy_is_done (Copied size) Done long h copy = refl
copy_is_done (Copied size) (WriteRefused c) long h copy = absurd h
copy_is_done (ToRefused refusal) how long h copy = absurd copy
copy_is_done (FromRefused refusal) how long h copy = absurd copy
copy_is_done Absent how long h copy = absurd copy
copy_is_done Torn how long h copy = absurd copy

-- ---- causes

no_cause : (b : Bool) (c : Cause) (rest : Option Cause) → or_cause b c rest ≡ None → (b ≡ false) × (rest ≡ None)
no_cause true c rest h = absurd (cc)
no_cause false c rest h = (refl, h)

not_false : (b : Bool) → not b ≡ false → b ≡ true
not_false true h = refl
not_false false h = absurd (cc)

good_then : (f : LevelFacts) (key : List ℕ) (rest : Option Cause) → or_cause (refuses_writes Single f) (ForReading (read_only_store f f.wrapped)) (or_cause (not (is_store_key key)) BadKey rest) ≡ None → IsStoreKey key × (rest ≡ None)
good_then f key rest h =
    let mode = no_cause (refuses_writes Single f) (ForReading (read_only_store f f.wrapped)) (or_cause (not (is_store_key key)) BadKey rest) h in
    let good = no_cause (not (is_store_key key)) BadKey rest mode.1 in
    (not_false (is_store_key key) good.0, good.1)

-- a put that is done was of a store key
good_key : (kind : LevelKind) (key bytes : List ℕ) (how : Written) (t u : HeldLevel) → PutsAlone kind key bytes how t u → how ≡ Done → IsStoreKey key
good_key Disk key bytes Done t u h done = (good_then t.facts key (room_cause t.facts.kind t.facts.capacity t.room.reserved (length bytes)) h.0.cause).0
good_key Remote key bytes Done t u h done = (good_then t.facts key None h.cause).0
good_key kind key bytes (WriteRefused c) t u h done = absurd (cc)

fits_by : (capacity r n : ℕ) → room_cause Disk capacity r n ≡ None → n + r ≤ capacity
fits_by capacity r n h =
    let first = no_cause (nat_lt capacity n) FileTooLarge (or_cause (nat_lt capacity (n + r)) NoRoom None) h in
    let room : nat_lt capacity (n + r) ≡ false = (no_cause (nat_lt capacity (n + r)) NoRoom None first.1).0 in
    grind (arith, nat_tests, room)

-- what was put in a disk store fits beside what is reserved
pub put_fits : (kind : LevelKind) (key bytes : List ℕ) (how : Written) (t u : HeldLevel) → PutsAlone kind key bytes how t u → how ≡ Done → kind ≡ Disk → t.facts.kind ≡ Disk → length bytes + t.room.reserved ≤ t.facts.capacity
put_fits Disk key bytes Done t u h done is disk =
    let all = good_then t.facts key (room_cause t.facts.kind t.facts.capacity t.room.reserved (length bytes)) h.0.cause in
    fits_by t.facts.capacity t.room.reserved (length bytes) (subst (λ (k : LevelKind). room_cause k t.facts.capacity t.room.reserved (length bytes) ≡ None) disk all.1)
put_fits Remote key bytes Done t u h done is disk = absurd (cc)
put_fits kind key bytes (WriteRefused c) t u h done is disk = absurd (cc)

-- ---- marks

same_or_not : (at q : List ℕ) → (bytes_eq at q ≡ true) ⊎ (bytes_eq at q ≡ false)
same_or_not at q = by (bytes_eq at q)
  where
    by : (t : Bool) → (t ≡ true) ⊎ (t ≡ false)
    by true = inl refl
    by false = inr refl

-- a path that loses its mark, and no other changes
sets_none : (at q : List ℕ) (old new : Marks) → Sets at false old new → is_marked old q ≡ false → is_marked new q ≡ false
sets_none at q old new h e =
    ⊎_elim (λ (y : bytes_eq at q ≡ true). subst (λ (p : List ℕ). is_marked new p ≡ false) ((bytes_eq-Decides at q).0 y) h.marked) (λ (y : bytes_eq at q ≡ false). h.others q y ∙ e) (same_or_not at q)

remote_fewer : (key q : List ℕ) (how : Written) (old new : Marks) → MarksWrote key false how old new → is_marked old q ≡ false → is_marked new q ≡ false
remote_fewer key q Done old new h e = sets_none (main_path Remote key) q old new h e
remote_fewer key q (WriteRefused (RemoteRefused k)) old new h e = sets_none (main_path Remote key) q old new h e
remote_fewer key q (WriteRefused FileTooLarge) old new h e = ap (λ (m : Marks). is_marked m q) h ∙ e
remote_fewer key q (WriteRefused NoRoom) old new h e = ap (λ (m : Marks). is_marked m q) h ∙ e
remote_fewer key q (WriteRefused BadKey) old new h e = ap (λ (m : Marks). is_marked m q) h ∙ e
remote_fewer key q (WriteRefused BadEntry) old new h e = ap (λ (m : Marks). is_marked m q) h ∙ e
remote_fewer key q (WriteRefused Io) old new h e = ap (λ (m : Marks). is_marked m q) h ∙ e
remote_fewer key q (WriteRefused (ForReading s)) old new h e = ap (λ (m : Marks). is_marked m q) h ∙ e
remote_fewer key q (WriteRefused (NotOpen n)) old new h e = ap (λ (m : Marks). is_marked m q) h ∙ e

disk_fewer : (key q : List ℕ) (how : Written) (t u : HeldLevel) → PutMarks (entry_path key) false how t.marks u.marks (disk_of u) → is_marked t.marks q ≡ false → is_marked u.marks q ≡ false
disk_fewer key q Done t u h e =
    ⊎_elim (λ (y : bytes_eq (entry_path key) q ≡ true). subst (λ (p : List ℕ). is_marked u.marks p ≡ false) ((bytes_eq-Decides (entry_path key) q).0 y) h.marked) (λ (y : bytes_eq (entry_path key) q ≡ false). h.fewer q y e)
    (same_or_not (entry_path key) q)
disk_fewer key q (WriteRefused c) t u h e = h q ∙ e

-- no put marks
put_fewer : (kind : LevelKind) (key bytes : List ℕ) (how : Written) (t u : HeldLevel) (q : List ℕ) → PutsAlone kind key bytes how t u → is_marked t.marks q ≡ false → is_marked u.marks q ≡ false
put_fewer Disk key bytes how t u q h e = disk_fewer key q how t u h.1 e
put_fewer Remote key bytes how t u q h e = remote_fewer key q how t.marks u.marks h.marks e

put_unmarked : (kind : LevelKind) (key bytes : List ℕ) (how : Written) (t u : HeldLevel) → PutsAlone kind key bytes how t u → how ≡ Done → is_marked u.marks (mark_path kind key) ≡ false
put_unmarked Disk key bytes Done t u h done = h.1.marked
put_unmarked Remote key bytes Done t u h done = h.marks.marked
put_unmarked kind key bytes (WriteRefused c) t u h done = absurd (cc)

-- ---- what the target holds

put_losses : (kind : LevelKind) (key bytes : List ℕ) (how : Written) (t u : HeldLevel) → PutsAlone kind key bytes how t u → t.level.losses ≤ u.level.losses
put_losses Disk key bytes how t u h = loses_later t.level.calls t.level.losses u.level.losses h.0.later.losses
put_losses Remote key bytes how t u h = loses_later t.level.calls t.level.losses u.level.losses h.later.losses

put_shifts : (kind : LevelKind) (key bytes : List ℕ) (how : Written) (t u : HeldLevel) → kind ≡ t.facts.kind → PutsAlone kind key bytes how t u → t.told ≡ true
    → Shifts kind t.facts.capacity (t.room.reserved + length bytes) key bytes how t.level u.level
put_shifts Disk key bytes how t u is h told =
    disk_shifts t.facts.capacity (t.room.reserved + length bytes) key bytes how t.level u.level
    (disk_left t.facts.capacity (causes Single t.facts t.room.reserved key (length bytes)) t.room.reserved key bytes false how t.level u.level (h.0.wrote told))
put_shifts Remote key bytes how t u is h told =
    remote_shifts t.facts.capacity (t.room.reserved + length bytes) key bytes how t.level u.level (remote_left (causes Single t.facts 0 key (length bytes)) key bytes false how t.level u.level
    (subst (λ (k : LevelKind). Puts_remote k (causes Single t.facts 0 key (length bytes)) key bytes false how t.level u.level) (sym is) (h.wrote told 0)))

-- an entry that was put stands under its key
pub put_stands : (key bytes : List ℕ) (t u : HeldLevel) → KeepsAlone t u → PutsAlone t.facts.kind key bytes Done t u → u.told ≡ true → held_under u key ≡ Some bytes
put_stands key bytes t u k h told =
    subst (λ (f : LevelFacts). find_file u.level.main (main_path f.kind key) ≡ Some bytes) (sym k.facts) ((put_shifts t.facts.kind key bytes Done t u refl h (sym k.told ∙ told)).there refl)

-- a path at which this key puts nothing
abbrev pub IsAside : Part → LevelKind → List ℕ → Warmed → List ℕ → Type 0
IsAside Main kind key warmed path = IsCopy warmed → main_path kind key ≡ path → ⊥
IsAside Pre kind key warmed path = Unit {0}

-- What one key does to the target.
pub record Moved (key : List ℕ) (warmed : Warmed) (from : State) (to to2 : HeldLevel) : Type 0 where
  pub facts : to2.facts ≡ to.facts
  pub told : to2.told ≡ to.told
  pub reserved : to2.room.reserved ≡ to.room.reserved
  pub losses : to.level.losses ≤ to2.level.losses
  pub good : IsCopy warmed → IsStoreKey key
  pub seen : to.told ≡ true → (p c : List ℕ) → find_file to2.level.main p ≡ Some c → (IsCopy warmed × (main_path to.facts.kind key ≡ p) × IfTells from (λ s. held_under s key ≡ Some c)) ⊎ (find_file to.level.main p ≡ Some c)
  pub there : to.told ≡ true → IsCopy warmed → (c : List ℕ) → find_file to2.level.main (main_path to.facts.kind key) ≡ Some c → IfTells from (λ s. held_under s key ≡ Some c)
  pub others : to.told ≡ true → (part : Part) (p : List ℕ) → IsAside part to.facts.kind key warmed p → StaysOrGone (key ∷ []) (warmed ∷ []) from part p to to2
  pub fewer : (q : List ℕ) → is_marked to.marks q ≡ false → is_marked to2.marks q ≡ false
  pub unmarked : IsCopy warmed → is_marked to2.marks (mark_path to.facts.kind key) ≡ false

still : (key : List ℕ) (warmed : Warmed) (f : State) (t u : HeldLevel) → u ≡ t → (IsCopy warmed → ⊥) → Moved key warmed f t u
still key warmed f t u same apart = record {
  facts = ap (λ (h : HeldLevel). h.facts) same;
  told = ap (λ (h : HeldLevel). h.told) same;
  reserved = ap (λ (h : HeldLevel). h.room.reserved) same;
  losses = subst (λ (h : HeldLevel). t.level.losses ≤ h.level.losses) (sym same) (omega arith);
  good = λ copy. absurd (apart copy);
  seen = λ told p c e. inr (ap (λ (h : HeldLevel). find_file h.level.main p) (sym same) ∙ e);
  there = λ told copy. absurd (apart copy);
  others = λ told part p aside. inl (ap (λ (h : HeldLevel). find_file (part_files part h.level) p) same);
  fewer = λ q e. ap (λ (h : HeldLevel). is_marked h.marks q) same ∙ e;
  unmarked = λ copy. absurd (apart copy);
}

module _ (key : List ℕ) (warmed : Warmed) (f g : State) (t u : HeldLevel) (x : PutStep key warmed f g t u) where
  at_source : IfTells f (λ s. held_under s key ≡ Some x.bytes)
  at_source = was_held f g key x.bytes (read_stays f g key (Some x.bytes) x.keeps x.read) (read_holds f g key x.bytes x.keeps x.read)

  shifts : t.told ≡ true → Shifts t.facts.kind t.facts.capacity (t.room.reserved + length x.bytes) key x.bytes x.how t.level u.level
  shifts told = put_shifts t.facts.kind key x.bytes x.how t u refl x.puts told

  apart_of : (part : Part) (how : Written) (p : List ℕ) → (how ≡ Done → IsCopy warmed) → IsAside part t.facts.kind key warmed p → IsApart part how (main_path t.facts.kind key) p
  apart_of Main Done p copy aside = aside (copy refl)
  apart_of Main (WriteRefused c) p copy aside = tt
  apart_of Pre Done p copy aside = tt
  apart_of Pre (WriteRefused c) p copy aside = tt

  why : (kind : LevelKind) (part : Part) → GoneBy kind t.facts.capacity (t.room.reserved + length x.bytes) part t.level u.level → WhyGone kind (key ∷ []) (warmed ∷ []) f part t u
  why Disk part over = record { key = key; before = []; behind = warmed ∷ []; split = refl; listed = refl; bytes = x.bytes; spelled = x.spelled; wanted = at_source; over = omega (arith, over) }
  why Remote Main rose = rose
  why Remote Pre none = none

  others_of : t.told ≡ true → (part : Part) (p : List ℕ) → IsAside part t.facts.kind key warmed p → StaysOrGone (key ∷ []) (warmed ∷ []) f part p t u
  others_of told part p aside =
      ⊎_elim (λ (y : find_file (part_files part u.level) p ≡ find_file (part_files part t.level) p). inl y)
      (λ (y : (find_file (part_files part u.level) p ≡ None) × GoneBy t.facts.kind t.facts.capacity (t.room.reserved + length x.bytes) part t.level u.level). inr (y.0, why t.facts.kind part y.1))
      ((shifts told).others part p (apart_of part x.how p (done_is_copy warmed x.how (length x.bytes) x.end) aside))

  held_so : (c : List ℕ) → x.bytes ≡ c → IfTells f (λ s. held_under s key ≡ Some c)
  held_so c e = subst (λ (b : List ℕ). IfTells f (λ s. held_under s key ≡ Some b)) e at_source

  same_some : (c : List ℕ) (o : Option (List ℕ)) → o ≡ Some x.bytes → o ≡ Some c → x.bytes ≡ c
  same_some c o a b = cc (a, b)

  pub put_moved : Moved key warmed f t u
  put_moved = record {
    facts = x.same.facts;
    told = x.same.told;
    reserved = x.same.reserved;
    losses = put_losses t.facts.kind key x.bytes x.how t u x.puts;
    good = λ copy. good_key t.facts.kind key x.bytes x.how t u x.puts (copy_is_done warmed x.how (length x.bytes) x.end copy);
    seen = λ told p c e. ⊎_elim (λ (y : (x.how ≡ Done) × (main_path t.facts.kind key ≡ p) × (x.bytes ≡ c)). inl (done_is_copy warmed x.how (length x.bytes) x.end y.0, y.1, held_so c y.2)) (λ (y : find_file t.level.main p ≡ Some c). inr y)
        ((shifts told).seen p c e);
    there = λ told copy c e. held_so c (same_some c (find_file u.level.main (main_path t.facts.kind key)) ((shifts told).there (copy_is_done warmed x.how (length x.bytes) x.end copy)) e);
    others = others_of;
    fewer = λ q e. put_fewer t.facts.kind key x.bytes x.how t u q x.puts e;
    unmarked = λ copy. put_unmarked t.facts.kind key x.bytes x.how t u x.puts (copy_is_done warmed x.how (length x.bytes) x.end copy);
  }

pub moved : (key : List ℕ) (warmed : Warmed) (f g : State) (t u : HeldLevel) → TargetStep key warmed f g t u → Moved key warmed f t u
moved key warmed f g t u (inl (same, apart)) = still key warmed f t u same apart
moved key warmed f g t u (inr x) = put_moved key warmed f g t u x

-- ---- sizes

long_of : (warmed : Warmed) (how : Written) (long size : ℕ) → IsEnd warmed how long → warmed ≡ Copied size → (how ≡ Done) × (size ≡ long)
long_of (Copied n) Done long size h e = let same : n ≡ size = cc (e) in (refl, sym same ∙ h)
long_of (Copied n) (WriteRefused c) long size h e = absurd h
long_of (ToRefused refusal) how long size h e = absurd (cc)
long_of (FromRefused refusal) how long size h e = absurd h
long_of Absent how long size h e = absurd h
long_of Torn how long size h e = absurd h

copy_is : (warmed : Warmed) (size : ℕ) → warmed ≡ Copied size → IsCopy warmed
copy_is warmed size e = subst (λ (w : Warmed). IsCopy w) (sym e) tt

pub step_fits : (key : List ℕ) (warmed : Warmed) (f g : State) (t u : HeldLevel) (size : ℕ) → TargetStep key warmed f g t u → warmed ≡ Copied size → t.facts.kind ≡ Disk → size + t.room.reserved ≤ t.facts.capacity
step_fits key warmed f g t u size (inl (same, apart)) is disk = absurd (apart (copy_is warmed size is))
step_fits key warmed f g t u size (inr x) is disk =
    let at : (x.how ≡ Done) × (size ≡ length x.bytes) = long_of warmed x.how (length x.bytes) size x.end is in
    subst (λ (n : ℕ). n + t.room.reserved ≤ t.facts.capacity) (sym at.1) (put_fits t.facts.kind key x.bytes x.how t u x.puts at.0 disk disk)

pub step_grows : (key : List ℕ) (warmed : Warmed) (f g : State) (t u : HeldLevel) (size : ℕ) → TargetStep key warmed f g t u → warmed ≡ Copied size → t.told ≡ true → t.facts.kind ≡ Disk → part_size u.level ≤ part_size t.level + size
step_grows key warmed f g t u size (inl (same, apart)) is told disk = absurd (apart (copy_is warmed size is))
step_grows key warmed f g t u size (inr x) is told disk =
    let at : (x.how ≡ Done) × (size ≡ length x.bytes) = long_of warmed x.how (length x.bytes) size x.end is in
    subst (λ (n : ℕ). part_size u.level ≤ part_size t.level + n) (sym at.1) ((shifts key warmed f g t u x told).grows disk)

pub step_still : (key : List ℕ) (warmed : Warmed) (f g : State) (t u : HeldLevel) → TargetStep key warmed f g t u → (IsCopy warmed → ⊥) → t.told ≡ true → t.facts.kind ≡ Disk → part_size u.level ≤ part_size t.level
step_still key warmed f g t u (inl (same, none)) apart told disk = subst (λ (h : HeldLevel). part_size h.level ≤ part_size t.level) (sym same) (omega arith)
step_still key warmed f g t u (inr x) apart told disk = (shifts key warmed f g t u x told).refused disk (λ done. apart (done_is_copy warmed x.how (length x.bytes) x.end done))

-- a disk store is within its capacity behind a key, where it was before
put_within : (kind : LevelKind) (key bytes : List ℕ) (how : Written) (t u : HeldLevel) → PutsAlone kind key bytes how t u → kind ≡ Disk → part_size u.level + u.room.reserved ≤ u.facts.capacity
put_within Disk key bytes how t u h disk = h.2
put_within Remote key bytes how t u h disk = absurd (cc)

pub step_within : (key : List ℕ) (warmed : Warmed) (f g : State) (t u : HeldLevel) → TargetStep key warmed f g t u → t.facts.kind ≡ Disk → part_size t.level + t.room.reserved ≤ t.facts.capacity → part_size u.level + u.room.reserved ≤ u.facts.capacity
step_within key warmed f g t u (inl (same, apart)) disk within = subst (λ (h : HeldLevel). part_size h.level + h.room.reserved ≤ h.facts.capacity) (sym same) within
step_within key warmed f g t u (inr x) disk within = put_within t.facts.kind key x.bytes x.how t u x.puts disk
