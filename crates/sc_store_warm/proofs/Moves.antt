-- What a put at a store that stands alone does to what the store holds, where it tells that.
use Rattle.std.proofs.Common.{◌≡◌, ◌⊎◌, ⊎_elim, inl, inr, ℕ, ◌+◌, ◌≤◌, Bool, List, [], length, Option, Some, None, refl, sym, ap, ◌∙◌, arith}
use Rattle.sc_disk_pair.specs.declared.part.Part.{Part}
use Rattle.sc_disk_pair.specs.declared.part.Part.TheVariants.{Main, Pre}
use Rattle.sc_entry.specs.Causes.{Rose}
use Rattle.sc_entry.specs.Keys.{make_key_path, normalize_key}
use Rattle.sc_model.specs.Evicting.{Evicts, part_size}
use Rattle.sc_model.specs.Levels.{Files, IsPart, Level, find_file, main_path, put_file}
use Rattle.sc_model.specs.WriteCauses.{Causes}
use Rattle.sc_model.specs.Writing.{Evicts_unless, Puts_remote}
use Rattle.sc_model.specs.declared.event.Written.{Written}
use Rattle.sc_model.specs.declared.event.Written.TheVariants.{Done, Refused}
use Rattle.sc_model.specs.declared.level.Cause.{Cause}
use Rattle.sc_model.specs.declared.level.Cause.TheVariants.{BadEntry, BadKey, FileTooLarge, Io, NotOpen, ReadOnly as ForReading, RemoteFault as RemoteRefused, Reserved as NoRoom}
use Rattle.sc_model.specs.declared.level.LevelKind.{LevelKind}
use Rattle.sc_model.specs.declared.level.LevelKind.TheVariants.{Disk, Remote}
use Rattle.sc_store_alone.specs.Puts.{PutsEntry}
use Rattle.sc_store_disk.specs.Moving.{part_files}
use Rattle.sc_store_warm.proofs.FileMaps.{TooMuch, evicted, evicted_size, found_or_none, not_both, put_other, put_seen, put_self, size-more}

-- a put that was done leaves its bytes at its path, a refused one nothing
abbrev pub LeavesAs : Written → List ℕ → List ℕ → Level → Level → Type 0
LeavesAs Done path bytes v w = (w.main ≡ put_file v.main path bytes) × (w.pre ≡ v.pre)
LeavesAs (Refused c) path bytes v w = (w.main ≡ v.main) × (w.pre ≡ v.pre)

-- At a disk store files are evicted, and then the put is done or not.
pub record DiskLeft (capacity wanted : ℕ) (path bytes : List ℕ) (how : Written) (v w : Level) : Type 0 where
  pub mid : Level
  pub gone : List (Bool × List ℕ)
  pub evicts : Evicts capacity wanted gone v mid
  pub leaves : LeavesAs how path bytes mid w

unless : (x : Option Cause) (capacity wanted count : ℕ) (v w : Level) → Evicts_unless x capacity wanted count v w → (gone : List (Bool × List ℕ)) × Evicts capacity wanted gone v w
unless None capacity wanted count v w h = (h.0, h.1)
unless (Some c) capacity wanted count v w h = ([], h.0)

nothing_left : (capacity wanted : ℕ) (path bytes : List ℕ) (c : Cause) (v w : Level) → (w.main ≡ v.main) × (w.pre ≡ v.pre) → DiskLeft capacity wanted path bytes (Refused c) v w
nothing_left capacity wanted path bytes c v w h = record { mid = v; gone = []; evicts = (refl, refl); leaves = h }

pub disk_left : (capacity : ℕ) (expected : Causes) (r : ℕ) (key bytes : List ℕ) (mark : Bool) (how : Written) (v w : Level) → PutsEntry capacity expected r key bytes mark how v w → DiskLeft capacity (r + length bytes) (make_key_path key) bytes how v w
disk_left capacity expected r key bytes mark Done v w ((none, (mid, (count, evicts), main, pre), opened, marks), written) =
    let all : (gone : List (Bool × List ℕ)) × Evicts capacity (r + length bytes) gone v mid = unless expected.all capacity (r + length bytes) count v mid evicts in
    record { mid = mid; gone = all.0; evicts = all.1; leaves = (main, pre) }
disk_left capacity expected r key bytes mark (Refused Io) v w ((early, rose, (count, evicts), marks), written) =
    let all : (gone : List (Bool × List ℕ)) × Evicts capacity (r + length bytes) gone v w = unless expected.all capacity (r + length bytes) count v w evicts in
    record { mid = w; gone = all.0; evicts = all.1; leaves = (refl, refl) }
disk_left capacity expected r key bytes mark (Refused (RemoteRefused k)) v w h = absurd h.0.0.1
disk_left capacity expected r key bytes mark (Refused FileTooLarge) v w h = nothing_left capacity (r + length bytes) (make_key_path key) bytes FileTooLarge v w h.0.0.1
disk_left capacity expected r key bytes mark (Refused NoRoom) v w h = nothing_left capacity (r + length bytes) (make_key_path key) bytes NoRoom v w h.0.0.1
disk_left capacity expected r key bytes mark (Refused BadKey) v w h = nothing_left capacity (r + length bytes) (make_key_path key) bytes BadKey v w h.0.0.1
disk_left capacity expected r key bytes mark (Refused BadEntry) v w h = nothing_left capacity (r + length bytes) (make_key_path key) bytes BadEntry v w h.0.0.1
disk_left capacity expected r key bytes mark (Refused (ForReading s)) v w h = nothing_left capacity (r + length bytes) (make_key_path key) bytes (ForReading s) v w h.0.0.1
disk_left capacity expected r key bytes mark (Refused (NotOpen n)) v w h = nothing_left capacity (r + length bytes) (make_key_path key) bytes (NotOpen n) v w h.0.0.1

-- a path that is none of a put's
abbrev pub IsApart : Part → Written → List ℕ → List ℕ → Type 0
IsApart Main Done at path = at ≡ path → ⊥
IsApart part how at path = Unit {0}

-- why a file is gone after a put
abbrev pub GoneBy : LevelKind → ℕ → ℕ → Part → Level → Level → Type 0
GoneBy Disk capacity wanted part v w = TooMuch capacity wanted v
GoneBy Remote capacity wanted Main v w = Rose v.losses w.losses
GoneBy Remote capacity wanted Pre v w = ⊥

abbrev pub StaysOrGoneBy : LevelKind → ℕ → ℕ → Part → List ℕ → Level → Level → Type 0
StaysOrGoneBy kind capacity wanted part path v w =
    (find_file (part_files part w) path ≡ find_file (part_files part v) path) ⊎ ((find_file (part_files part w) path ≡ None) × GoneBy kind capacity wanted part v w)

-- What a put does to a level that tells what it holds.
pub record Shifts (kind : LevelKind) (capacity wanted : ℕ) (key bytes : List ℕ) (how : Written) (v w : Level) : Type 0 where
  pub seen : (p c : List ℕ) → find_file w.main p ≡ Some c → ((how ≡ Done) × (main_path kind key ≡ p) × (bytes ≡ c)) ⊎ (find_file v.main p ≡ Some c)
  pub there : how ≡ Done → find_file w.main (main_path kind key) ≡ Some bytes
  pub others : (part : Part) (p : List ℕ) → IsApart part how (main_path kind key) p → StaysOrGoneBy kind capacity wanted part p v w
  pub grows : kind ≡ Disk → part_size w ≤ part_size v + length bytes
  pub refused : kind ≡ Disk → (how ≡ Done → ⊥) → part_size w ≤ part_size v

-- ---- a disk store

leaves_seen : (how : Written) (path bytes : List ℕ) (v w : Level) (p c : List ℕ) → LeavesAs how path bytes v w → find_file w.main p ≡ Some c → ((how ≡ Done) × (path ≡ p) × (bytes ≡ c)) ⊎ (find_file v.main p ≡ Some c)
leaves_seen Done path bytes v w p c h e =
    ⊎_elim (λ (y : (path ≡ p) × (bytes ≡ c)). inl (refl, y.0, y.1)) (λ (y : find_file v.main p ≡ Some c). inr y) (put_seen v.main path bytes p c (ap (λ (m : Files). find_file m p) (sym h.0) ∙ e))
leaves_seen (Refused cause) path bytes v w p c h e = inr (ap (λ (m : Files). find_file m p) (sym h.0) ∙ e)

leaves_other : (part : Part) (how : Written) (path bytes : List ℕ) (v w : Level) (p : List ℕ) → LeavesAs how path bytes v w → IsApart part how path p → find_file (part_files part w) p ≡ find_file (part_files part v) p
leaves_other Main Done path bytes v w p h apart = ap (λ (m : Files). find_file m p) h.0 ∙ put_other v.main path bytes p apart
leaves_other Main (Refused c) path bytes v w p h apart = ap (λ (m : Files). find_file m p) h.0
leaves_other Pre Done path bytes v w p h apart = ap (λ (m : Files). find_file m p) h.1
leaves_other Pre (Refused c) path bytes v w p h apart = ap (λ (m : Files). find_file m p) h.1

leaves_there : (how : Written) (path bytes : List ℕ) (v w : Level) → LeavesAs how path bytes v w → how ≡ Done → find_file w.main path ≡ Some bytes
leaves_there Done path bytes v w h done = ap (λ (m : Files). find_file m path) h.0 ∙ put_self v.main path bytes
leaves_there (Refused c) path bytes v w h done = absurd (cc)

same_parts : (v w : Level) → w.main ≡ v.main → w.pre ≡ v.pre → part_size w ≤ part_size v
same_parts v w main pre = evicted_size 0 0 [] v w (main, pre)

leaves_size : (how : Written) (path bytes : List ℕ) (v w : Level) → LeavesAs how path bytes v w → part_size w ≤ part_size v + length bytes
leaves_size Done path bytes v w h =
    let same : part_size w ≤ part_size (record v { main = put_file v.main path bytes }) = same_parts (record v { main = put_file v.main path bytes }) w h.0 h.1 in
    omega (arith, same, size-more v.main path bytes)
leaves_size (Refused c) path bytes v w h = let same : part_size w ≤ part_size v = same_parts v w h.0 h.1 in omega (arith, same)

refused_size : (how : Written) (path bytes : List ℕ) (v w : Level) → LeavesAs how path bytes v w → (how ≡ Done → ⊥) → part_size w ≤ part_size v
refused_size Done path bytes v w h apart = absurd (apart refl)
refused_size (Refused c) path bytes v w h apart = same_parts v w h.0 h.1

evicted_seen : (capacity wanted : ℕ) (gone : List (Bool × List ℕ)) (v w : Level) (p c : List ℕ) → Evicts capacity wanted gone v w → find_file w.main p ≡ Some c → find_file v.main p ≡ Some c
evicted_seen capacity wanted gone v w p c h e =
    ⊎_elim (λ (y : find_file w.main p ≡ find_file v.main p). sym y ∙ e) (λ (y : (find_file w.main p ≡ None) × TooMuch capacity wanted v). absurd (not_both (find_file w.main p) c e y.0))
    (evicted capacity wanted gone v w Main p h)

disk_others : (capacity wanted : ℕ) (path bytes : List ℕ) (how : Written) (v w : Level) (part : Part) (p : List ℕ) → DiskLeft capacity wanted path bytes how v w → IsApart part how path p → StaysOrGoneBy Disk capacity wanted part p v w
disk_others capacity wanted path bytes how v w part p x apart =
    let last : find_file (part_files part w) p ≡ find_file (part_files part x.mid) p = leaves_other part how path bytes x.mid w p x.leaves apart in
    ⊎_elim (λ (y : find_file (part_files part x.mid) p ≡ find_file (part_files part v) p). inl (last ∙ y)) (λ (y : (find_file (part_files part x.mid) p ≡ None) × TooMuch capacity wanted v). inr (last ∙ y.0, y.1))
    (evicted capacity wanted x.gone v x.mid part p x.evicts)

pub disk_shifts : (capacity wanted : ℕ) (key bytes : List ℕ) (how : Written) (v w : Level) → DiskLeft capacity wanted (make_key_path key) bytes how v w → Shifts Disk capacity wanted key bytes how v w
disk_shifts capacity wanted key bytes how v w x = record {
  seen = λ p c e. ⊎_elim (λ (y : (how ≡ Done) × (make_key_path key ≡ p) × (bytes ≡ c)). inl y) (λ (y : find_file x.mid.main p ≡ Some c). inr (evicted_seen capacity wanted x.gone v x.mid p c x.evicts y))
      (leaves_seen how (make_key_path key) bytes x.mid w p c x.leaves e);
  there = λ done. leaves_there how (make_key_path key) bytes x.mid w x.leaves done;
  others = λ part p apart. disk_others capacity wanted (make_key_path key) bytes how v w part p x apart;
  grows = λ is. omega (arith, evicted_size capacity wanted x.gone v x.mid x.evicts, leaves_size how (make_key_path key) bytes x.mid w x.leaves);
  refused = λ is apart. omega (arith, evicted_size capacity wanted x.gone v x.mid x.evicts, refused_size how (make_key_path key) bytes x.mid w x.leaves apart);
}

-- ---- a remote store

-- What a remote store keeps of some files, with those that it may find lost.
abbrev pub LeavesSome : Files → Level → Level → Type 0
LeavesSome files v w = (w.main ≡ files) ⊎ (IsPart w.main files × Rose v.losses w.losses)

some_seen : (files : Files) (v w : Level) (p c : List ℕ) → LeavesSome files v w → find_file w.main p ≡ Some c → find_file files p ≡ Some c
some_seen files v w p c (inl same) e = ap (λ (m : Files). find_file m p) (sym same) ∙ e
some_seen files v w p c (inr (part, rose)) e = part p c e

some_other : (files : Files) (capacity wanted : ℕ) (v w : Level) (p : List ℕ) → LeavesSome files v w → find_file files p ≡ find_file v.main p → StaysOrGoneBy Remote capacity wanted Main p v w
some_other files capacity wanted v w p (inl same) is = inl (ap (λ (m : Files). find_file m p) same ∙ is)
some_other files capacity wanted v w p (inr (part, rose)) is =
    ⊎_elim (λ (y : find_file w.main p ≡ None). inr (y, rose)) (λ (y : (c : List ℕ) × (find_file w.main p ≡ Some c)). inl (y.1 ∙ sym (part p y.0 y.1) ∙ is)) (found_or_none (find_file w.main p))

-- A put at a remote store: what it leaves, and that the entry stands there.
pub record RemoteLeft (path bytes : List ℕ) (how : Written) (v w : Level) : Type 0 where
  pub files : Files
  pub put : LeavesAs how path bytes v (record v { main = files })
  pub some : LeavesSome files v w
  pub stands : how ≡ Done → find_file w.main path ≡ Some bytes
  pub pre : w.pre ≡ v.pre

done_stands : (path bytes : List ℕ) (v w : Level) → (w.main ≡ put_file v.main path bytes) ⊎ (IsPart w.main (put_file v.main path bytes) × (find_file w.main path ≡ Some bytes) × Rose v.losses w.losses) → find_file w.main path ≡ Some bytes
done_stands path bytes v w (inl same) = ap (λ (m : Files). find_file m path) same ∙ put_self v.main path bytes
done_stands path bytes v w (inr (part, stands, rose)) = stands

done_some : (path bytes : List ℕ) (v w : Level) → (w.main ≡ put_file v.main path bytes) ⊎ (IsPart w.main (put_file v.main path bytes) × (find_file w.main path ≡ Some bytes) × Rose v.losses w.losses) → LeavesSome (put_file v.main path bytes) v w
done_some path bytes v w (inl same) = inl same
done_some path bytes v w (inr (part, stands, rose)) = inr (part, rose)

pub remote_left : (expected : Causes) (key bytes : List ℕ) (mark : Bool) (how : Written) (v w : Level) → Puts_remote Remote expected key bytes mark how v w → RemoteLeft (normalize_key key) bytes how v w
remote_left expected key bytes mark Done v w ((good, none, pre, main), calls, marks, reaches, opened, stale) = record {
  files = put_file v.main (normalize_key key) bytes;
  put = (refl, refl);
  some = done_some (normalize_key key) bytes v w main;
  stands = λ done. done_stands (normalize_key key) bytes v w main;
  pre = pre;
}
remote_left expected key bytes mark (Refused c) v w h = record { files = v.main; put = (refl, refl); some = h.0.1.0; stands = λ done. absurd (cc); pre = h.0.1.1 }

remote_others : (path bytes : List ℕ) (how : Written) (capacity wanted : ℕ) (v w : Level) (part : Part) (p : List ℕ) → RemoteLeft path bytes how v w → IsApart part how path p → StaysOrGoneBy Remote capacity wanted part p v w
remote_others path bytes how capacity wanted v w Main p x apart = some_other x.files capacity wanted v w p x.some (leaves_other Main how path bytes v (record v { main = x.files }) p x.put apart)
remote_others path bytes how capacity wanted v w Pre p x apart = inl (ap (λ (m : Files). find_file m p) x.pre)

pub remote_shifts : (capacity wanted : ℕ) (key bytes : List ℕ) (how : Written) (v w : Level) → RemoteLeft (normalize_key key) bytes how v w → Shifts Remote capacity wanted key bytes how v w
remote_shifts capacity wanted key bytes how v w x = record {
  seen = λ p c e. leaves_seen how (normalize_key key) bytes v (record v { main = x.files }) p c x.put (some_seen x.files v w p c x.some e);
  there = x.stands;
  others = λ part p apart. remote_others (normalize_key key) bytes how capacity wanted v w part p x apart;
  grows = λ is. absurd (cc);
  refused = λ is apart. absurd (cc);
}
