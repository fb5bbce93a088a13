-- What is so of a store alone is so of it with its marks.
use Rattle.std.proofs.Common.{◌≡◌, ℕ, zero, suc, ◌+◌, ◌<◌, ◌≤◌, Bool, true, false, is_some, bytes_eq, option_map, List, [], ◌∷◌, ◌++◌, length, IfOk, OnErr, Option, Some, None, Result, Ok, Err, refl, sym, ap, ◌∙◌, subst, arith}
use Rattle.std.specs.Option.{option_map_or}
use Rattle.sc_disk.specs.Store.{AddEntry}
use Rattle.sc_model.specs.Asking.{same_maps}
use Rattle.sc_model.specs.Evicting.{Evicts, drop_part}
use Rattle.sc_model.specs.Levels.{IsFault, Later, Level, drop_file, find_file, size_of}
use Rattle.sc_model.specs.WriteCauses.{Causes, causes}
use Rattle.sc_model.specs.Writing.{Evicts_unless, Puts_pre_by, Reserves, Reserves_by}
use Rattle.sc_model.specs.declared.event.Written.{Written}
use Rattle.sc_model.specs.declared.event.Written.TheVariants.{Done as WriteDone, Refused as WriteRefused}
use Rattle.sc_model.specs.declared.level.Cause.{Cause}
use Rattle.sc_model.specs.declared.level.Cause.TheVariants.{BadEntry, BadKey, FileTooLarge, Io, NotOpen, ReadOnly as ForReading, RemoteFault as RemoteRefused, Reserved as NoRoom}
use Rattle.sc_model.specs.declared.level.LevelKind.TheVariants.{Disk}
use Rattle.sc_model.specs.declared.level.Policy.{Policy}
use Rattle.sc_disk_pair.specs.Parts.{in_part}
use Rattle.sc_disk_pair.specs.declared.part.Part.TheVariants.{Main}
use Rattle.sc_store_disk.specs.DiskStores.{DiskStore, OpenEntry, entries_with, entry_at, level_with, with_fills, with_marks}
use Rattle.sc_store_disk.specs.Entries.{ClosesEntry, CommitCause, CommitsEntry, CommitsFile, CommitsNothing, FillsBy, IsMeasured, IsOpenAt, SameFiles}
use Rattle.sc_store_disk.specs.Marked.{MarksCommitted, MarksFilled, MarksOpened}
use Rattle.sc_store_disk.specs.Marks.{Forgets, Marks, OtherFills, SameMarks, after_fill, filled_by, fills_of, is_marked, mark_of}
use Rattle.sc_store_disk.specs.Moving.{EvictsFiles, EvictsFor, OpensBy, SameEntries, Stays, Steady}
use Rattle.sc_store_disk.specs.Preprocessor.{PutsPre, StoresKey}
use Rattle.sc_store_disk.specs.declared.filling.Filling.{Filling}
use Rattle.sc_store_disk.specs.declared.filling.Filling.TheVariants.{Filled as StillOpen, Refused as NotFilled}
use Rattle.sc_store_disk.specs.declared.reserving.Reservation.{Reservation}
use Rattle.sc_store_disk.specs.declared.reserving.Reservation.TheVariants.{Open as IsOpened, Refused as IsRefused_of}
use Rattle.sc_store_disk.proofs.LevelMarks.{IsFewer, evicts-fewer, keeps-fewer, same-fewer, sets-mark}

pub later-marked : (m n : Marks) (v w : Level) → Later v w → Later (level_with m v) (level_with n w)
later-marked m n v w l = record { faults = l.faults; losses = l.losses; calls = l.calls; opened = l.opened }

-- the same marks
steady_with : (m : Marks) (s t : DiskStore) → Steady s t → Steady (with_marks m s) (with_marks m t)
steady_with m s t h = record {
  facts = h.facts;
  told = h.told;
  later = later-marked m m s.level t.level h.later;
  main = h.main;
  pre = h.pre;
  marks = ap (λ f. (level_with m (record s.level { main = f })).marks) h.main;
  written = h.written;
  reserved = h.reserved;
  entries = ap (entries_with m 0) h.entries;
}

pub steady-marked : (m n : Marks) (s t : DiskStore) → n ≡ m → Steady s t → Steady (with_marks m s) (with_marks n t)
steady-marked m n s t same h = subst (λ (x : Marks). Steady (with_marks m s) (with_marks x t)) (sym same) (steady_with m s t h)

pub stays-marked : (m n : Marks) (s t : DiskStore) → Stays s t → Stays (with_marks m s) (with_marks n t)
stays-marked m n s t h = record { facts = h.facts; told = h.told; later = later-marked m n s.level t.level h.later }

-- The open entry of a number.
entry_with : (m : Marks) (from : ℕ) (es : List (Option OpenEntry)) (k number : ℕ) → number ≡ from + k → entry_at (entries_with m from es) k ≡ option_map (with_fills (fills_of m number)) (entry_at es k)
entry_with m from [] k number e = refl
entry_with m from (x ∷ xs) zero number e = ap (λ j. option_map (with_fills (fills_of m j)) x) (omega (arith, e))
entry_with m from (x ∷ xs) (suc k) number e = entry_with m (suc from) xs k number (omega (arith, e))

pub entry-marked : (m : Marks) (es : List (Option OpenEntry)) (number : ℕ) → entry_at (entries_with m 0 es) number ≡ option_map (with_fills (fills_of m number)) (entry_at es number)
entry-marked m es number = entry_with m 0 es number number (omega arith)

-- an entry that stays, and what its fills came to
same_with : (m n : Marks) (s t : DiskStore) (number : ℕ) → fills_of n number ≡ fills_of m number → entry_at t.entries number ≡ entry_at s.entries number → entry_at (with_marks n t).entries number ≡ entry_at (with_marks m s).entries number
same_with m n s t number fills same =
    entry-marked n t.entries number ∙ (λ i. option_map (with_fills (fills i)) (same i)) ∙ sym (entry-marked m s.entries number)

pub none-with : (m : Marks) (s : DiskStore) (number : ℕ) → entry_at s.entries number ≡ None → entry_at (with_marks m s).entries number ≡ None
none-with m s number none = entry-marked m s.entries number ∙ ap (option_map (with_fills (fills_of m number))) none

pub some-with : (m : Marks) (s : DiskStore) (number : ℕ) (o : OpenEntry) → entry_at s.entries number ≡ Some o → entry_at (with_marks m s).entries number ≡ Some (with_fills (fills_of m number) o)
some-with m s number o is = entry-marked m s.entries number ∙ ap (option_map (with_fills (fills_of m number))) is

-- what the entry is alone
unmarked : (f : Option Bool) (e : Option OpenEntry) (o : OpenEntry) → option_map (with_fills f) e ≡ Some o → (x : OpenEntry) × (e ≡ Some x) × (o ≡ with_fills f x)
unmarked f None o h = cc
unmarked f (Some x) o h = (x, refl, cc)

pub alone : (m : Marks) (s : DiskStore) (number : ℕ) (o : OpenEntry) → entry_at (with_marks m s).entries number ≡ Some o → (x : OpenEntry) × (entry_at s.entries number ≡ Some x) × (o ≡ with_fills (fills_of m number) x)
alone m s number o h = unmarked (fills_of m number) (entry_at s.entries number) o (sym (entry-marked m s.entries number) ∙ h)

pub same-entries : (m n : Marks) (s t : DiskStore) → n ≡ m → SameEntries s t → SameEntries (with_marks m s) (with_marks n t)
same-entries m n s t same h = record { reserved = h.reserved; entries = λ number. same_with m n s t number (ap (λ x. fills_of x number) same) (h.entries number) }

pub closes-marked : (m n : Marks) (s t : DiskStore) (number : ℕ) → OtherFills number m n → ClosesEntry number s t → ClosesEntry number (with_marks m s) (with_marks n t)
closes-marked m n s t number others h = record {
  closed = none-with n t number h.closed;
  others = λ k apart. same_with m n s t k (others k apart) (h.others k apart);
  reserved = ap (λ z. t.reserved + z) (ap (λ o. option_map_or (λ (x : OpenEntry). x.size) o 0) (entry-marked m s.entries number) ∙ same_size (fills_of m number) (entry_at s.entries number)) ∙ h.reserved;
}
  where
    same_size : (f : Option Bool) (o : Option OpenEntry) → option_map_or (λ (x : OpenEntry). x.size) (option_map (with_fills f) o) 0 ≡ option_map_or (λ (x : OpenEntry). x.size) o 0
    same_size f None = refl
    same_size f (Some x) = refl

-- it is open in a store alone where it is with the marks
pub is-open-marked : (m : Marks) (s : DiskStore) (e : AddEntry) → IsOpenAt e s → IsOpenAt e (with_marks m s)
is-open-marked m s e h = (h.0, (with_fills (fills_of m e.number) h.1.0, some-with m s e.number h.1.0 h.1.1, h.1.2))

pub is-open-alone : (m : Marks) (s : DiskStore) (e : AddEntry) → IsOpenAt e (with_marks m s) → IsOpenAt e s
is-open-alone m s e h = let x = alone m s e.number h.1.0 h.1.1 in (h.0, (x.0, x.1, sym (ap (λ (o : OpenEntry). o.path) x.2) ∙ h.1.2))

-- Evictions at levels that hold the same files.
pub evicts_like : (capacity more : ℕ) (ps : List (Bool × List ℕ)) (v v2 w w2 : Level) → v2.main ≡ v.main → v2.pre ≡ v.pre → w2.main ≡ w.main → w2.pre ≡ w.pre → Evicts capacity more ps v w → Evicts capacity more ps v2 w2
evicts_like capacity more [] v v2 w w2 m q m2 q2 e = (m2 ∙ e.0 ∙ sym m, q2 ∙ e.1 ∙ sym q)
evicts_like capacity more ((true, path) ∷ ps) v v2 w w2 m q m2 q2 e = (
  subst (λ (z : ℕ). capacity < z + more) (λ i. size_of (sym m i) + size_of (sym q i)) e.0,
  ap (λ f. is_some (find_file f path)) m ∙ e.1,
  evicts_like capacity more ps (drop_part true path v) (drop_part true path v2) w w2 (ap (λ f. drop_file f path) m) q m2 q2 e.2,
)
evicts_like capacity more ((false, path) ∷ ps) v v2 w w2 m q m2 q2 e = (
  subst (λ (z : ℕ). capacity < z + more) (λ i. size_of (sym m i) + size_of (sym q i)) e.0,
  ap (λ f. is_some (find_file f path)) q ∙ e.1,
  evicts_like capacity more ps (drop_part false path v) (drop_part false path v2) w w2 m (ap (λ f. drop_file f path) q) m2 q2 e.2,
)

unless_like : (o : Option Cause) (capacity more gone : ℕ) (v v2 w w2 : Level) → v2.main ≡ v.main → v2.pre ≡ v.pre → w2.main ≡ w.main → w2.pre ≡ w.pre → Evicts_unless o capacity more gone v w → Evicts_unless o capacity more gone v2 w2
unless_like None capacity more gone v v2 w w2 m q m2 q2 h = (h.0, evicts_like capacity more h.0 v v2 w w2 m q m2 q2 h.1, h.2)
unless_like (Some c) capacity more gone v v2 w w2 m q m2 q2 h = ((m2 ∙ h.0.0 ∙ sym m, q2 ∙ h.0.1 ∙ sym q), h.1)

unless_fewer : (o : Option Cause) (capacity more gone : ℕ) (v w : Level) → Evicts_unless o capacity more gone v w → IsFewer v w
unless_fewer None capacity more gone v w h = evicts-fewer capacity more h.0 v w h.1
unless_fewer (Some c) capacity more gone v w h = same-fewer v w h.0.0

module _ (m n : Marks) where
  -- a reservation, and no file came
  reserves_by : (gone capacity : ℕ) (expected : Causes) (r size : ℕ) (how : Written) (v w : Level) → Reserves_by gone capacity expected r size how v w → Reserves_by gone capacity expected r size how (level_with m v) (level_with n w) × IsFewer v w
  reserves_by gone capacity expected r size WriteDone v w h = ((h.0, unless_like expected.all capacity (r + size) gone v (level_with m v) w (level_with n w) refl refl refl refl h.1, h.2), unless_fewer expected.all capacity (r + size) gone v w h.1)
  reserves_by gone capacity expected r size (WriteRefused Io) v w h = ((h.0, h.1, unless_like expected.all capacity (r + size) gone v (level_with m v) w (level_with n w) refl refl refl refl h.2), unless_fewer expected.all capacity (r + size) gone v w h.2)
  reserves_by gone capacity expected r size (WriteRefused FileTooLarge) v w h = (h, same-fewer v w h.0.1.0)
  reserves_by gone capacity expected r size (WriteRefused NoRoom) v w h = (h, same-fewer v w h.0.1.0)
  reserves_by gone capacity expected r size (WriteRefused BadKey) v w h = (h, same-fewer v w h.0.1.0)
  reserves_by gone capacity expected r size (WriteRefused BadEntry) v w h = (h, same-fewer v w h.0.1.0)
  reserves_by gone capacity expected r size (WriteRefused (ForReading s)) v w h = (h, same-fewer v w h.0.1.0)
  reserves_by gone capacity expected r size (WriteRefused (NotOpen x)) v w h = (h, same-fewer v w h.0.1.0)
  reserves_by gone capacity expected r size (WriteRefused (RemoteRefused d)) v w h = absurd h.0.1

  pub reserves-marked : SameMarks m n → (capacity : ℕ) (expected : Causes) (r size : ℕ) (how : Written) (v w : Level) → Reserves capacity expected r size how v w → Reserves capacity expected r size how (level_with m v) (level_with n w)
  reserves-marked same capacity expected r size how v w h =
      let x = reserves_by h.0 capacity expected r size how v w h.1 in
      (h.0, x.0, tt, keeps-fewer m n v w (λ p. same (in_part Main p)) x.1, h.4)

  -- a put of a preprocessor entry
  puts_by : (gone capacity : ℕ) (expected : Causes) (r : ℕ) (k b : List ℕ) (how : Written) (v w : Level) → Puts_pre_by gone capacity expected r k b how v w → Puts_pre_by gone capacity expected r k b how (level_with m v) (level_with n w) × IsFewer v w
  puts_by gone capacity expected r k b WriteDone v w h =
      let u = h.1.0 in (
        (h.0, (u, unless_like expected.all capacity (r + length b) gone v (level_with m v) u u refl refl refl refl h.1.1, h.1.2, h.1.3), h.2),
        (λ p there. unless_fewer expected.all capacity (r + length b) gone v u h.1.1 p (same-fewer u w h.1.2 p there)),
      )
  puts_by gone capacity expected r k b (WriteRefused Io) v w h = ((h.0, h.1, unless_like expected.all capacity (r + length b) gone v (level_with m v) w (level_with n w) refl refl refl refl h.2), unless_fewer expected.all capacity (r + length b) gone v w h.2)
  puts_by gone capacity expected r k b (WriteRefused FileTooLarge) v w h = (h, same-fewer v w h.0.1.0)
  puts_by gone capacity expected r k b (WriteRefused NoRoom) v w h = (h, same-fewer v w h.0.1.0)
  puts_by gone capacity expected r k b (WriteRefused BadKey) v w h = (h, same-fewer v w h.0.1.0)
  puts_by gone capacity expected r k b (WriteRefused BadEntry) v w h = (h, same-fewer v w h.0.1.0)
  puts_by gone capacity expected r k b (WriteRefused (ForReading s)) v w h = (h, same-fewer v w h.0.1.0)
  puts_by gone capacity expected r k b (WriteRefused (NotOpen x)) v w h = (h, same-fewer v w h.0.1.0)
  puts_by gone capacity expected r k b (WriteRefused (RemoteRefused d)) v w h = absurd h.0.1

  fault_with : (c : Cause) (v w : Level) → IsFault Disk v w c → IsFault Disk (level_with m v) (level_with n w) c
  fault_with Io v w h = h
  fault_with FileTooLarge v w h = h
  fault_with NoRoom v w h = h
  fault_with BadKey v w h = h
  fault_with BadEntry v w h = h
  fault_with (ForReading s) v w h = h
  fault_with (RemoteRefused d) v w h = h
  fault_with (NotOpen x) v w h = h

module _ (m n : Marks) (s t : DiskStore) where
  pub evicts-marked : n ≡ m → (size : ℕ) → EvictsFiles size s t → EvictsFor size (with_marks m s) (with_marks n t)
  evicts-marked same size h told = let x = h told in (
    (x.0, evicts_like s.facts.capacity (s.reserved + size) x.0 s.level (level_with m s.level) t.level (level_with n t.level) refl refl refl refl x.1),
    keeps-fewer m n s.level t.level (λ p. ap (λ y. is_marked y (in_part Main p)) same) (evicts-fewer s.facts.capacity (s.reserved + size) x.0 s.level t.level x.1),
  )

  -- an entry was opened, or not
  pub opened-same : (how : Reservation) → MarksOpened how m n → SameMarks m n
  opened-same (IsOpened e) g = g.files
  opened-same (IsRefused_of c) g = λ q. ap (λ x. is_marked x q) g

  pub opens-marked : (path : List ℕ) (size : ℕ) (how : Reservation) → MarksOpened how m n → OpensBy path size how s t → OpensBy path size how (with_marks m s) (with_marks n t)
  opens-marked path size (IsOpened e) g h = record {
    key = h.key;
    divided = h.divided;
    free = none-with m s e.number h.free;
    opened = some-with n t e.number (record { path = path; size = size; bytes = []; fills = None }) h.opened ∙ ap (λ f. Some (record { path = path; size = size; bytes = []; fills = f })) g.none;
    others = λ k apart. same_with m n s t k (g.others k apart) (h.others k apart);
    reserved = h.reserved;
  }
  opens-marked path size (IsRefused_of c) g h = same-entries m n s t g h

  -- an entry was filled, or closed
  filled_as : (from_run : Bool) (x o : OpenEntry) (number : ℕ) (b : List ℕ) → o ≡ with_fills (fills_of m number) x → fills_of n number ≡ Some (after_fill (fills_of m number) from_run)
      → Some (with_fills (fills_of n number) (record { path = x.path; size = x.size; bytes = b; fills = x.fills })) ≡ Some (record { path = o.path; size = o.size; bytes = b; fills = filled_by from_run o.fills })
  filled_as from_run x o number b is filled =
      ap (λ f. Some (record { path = x.path; size = x.size; bytes = b; fills = f })) filled
      ∙ ap (λ (y : OpenEntry). Some (record { path = y.path; size = y.size; bytes = b; fills = filled_by from_run y.fills })) (sym is)

  pub fills-marked : (e : AddEntry) (more : List ℕ) (from_run : Bool) (how : Filling) → MarksFilled e.number from_run how m n → FillsBy e more (λ fills. fills) how s t → FillsBy e more (filled_by from_run) how (with_marks m s) (with_marks n t)
  fills-marked e more from_run (StillOpen x) g h = (
    h.0,
    record {
      level = (h.1.level.0, tt, keeps-fewer m n s.level t.level (λ p. g.files (in_part Main p)) (same-fewer s.level t.level h.1.level.0.0), h.1.level.3);
      reserved = h.1.reserved;
      entry = λ o at.
          let x = alone m s e.number o at in
          let y = h.1.entry x.0 x.1 in (
            y.0,
            some-with n t e.number (record { path = x.0.path; size = x.0.size; bytes = y.0; fills = x.0.fills }) y.1 ∙ filled_as from_run x.0 o e.number y.0 x.2 g.filled,
            λ told. y.2 told ∙ ap (λ (z : OpenEntry). z.bytes ++ more) (sym x.2),
          );
      others = λ k apart. same_with m n s t k (g.others k apart) (h.1.others k apart);
    },
  )
  fills-marked e more from_run (NotFilled c) g h = (
    ((fault_with m n c s.level t.level h.0.0.0, h.0.0.1), tt, keeps-fewer m n s.level t.level (λ p. g.files (in_part Main p)) (same-fewer s.level t.level h.0.0.1.0), h.0.3),
    closes-marked m n s t e.number g.others h.1,
  )

  pub same-files : SameMarks m n → same_maps s.level t.level → SameFiles (level_with m s.level) (level_with n t.level)
  same-files same maps = record { maps = maps; marks = keeps-fewer m n s.level t.level (λ p. same (in_part Main p)) (same-fewer s.level t.level maps.0) }

  -- an entry was committed, or not
  has_bytes : (o : Option (List ℕ)) → is_some o ≡ true → (b : List ℕ) × (o ≡ Some b)
  has_bytes None h = cc
  has_bytes (Some b) h = (b, refl)

  committed : (number : ℕ) (path p : List ℕ) (x : OpenEntry) (how : Written) → path ≡ in_part Main p → s.told ≡ true → t.told ≡ s.told → MarksCommitted number path how m n t → CommitsFile p x.bytes (mark_of x.fills) how s.level t.level
      → CommitsFile p x.bytes (mark_of (fills_of m number)) how (level_with m s.level) (level_with n t.level)
  committed number path p x WriteDone key told same g h = record {
    file = (
      h.file.0,
      h.file.1,
      sets-mark m n s.level t.level p x.bytes (mark_of (fills_of m number)) h.file.0 (ap (is_marked n) (sym key) ∙ g.marked)
          (λ q apart there. let b = has_bytes (find_file t.level.main q) there in g.kept (same ∙ told) q b.0 (ap (λ k. bytes_eq k (in_part Main q)) key ∙ apart) b.1),
    );
    calls = h.calls;
    store = h.store;
  }
  committed number path p x (WriteRefused c) key told same g h = record {
    file = (fault_with m n c s.level t.level h.file.0, h.file.1, keeps-fewer m n s.level t.level (λ q. g.files (in_part Main q)) (same-fewer s.level t.level h.file.1.0));
    calls = h.calls;
    store = h.store;
  }

  pub commits-marked : (number : ℕ) (path : List ℕ) (how : Written) → ((o : OpenEntry) → entry_at s.entries number ≡ Some o → o.path ≡ path) → t.told ≡ s.told → MarksCommitted number path how m n t → CommitsEntry number how s t
      → CommitsEntry number how (with_marks m s) (with_marks n t)
  commits-marked number path how at_path same g h told o p at small is =
      let x = alone m s number o at in
      subst (λ (y : OpenEntry). CommitsFile p y.bytes (mark_of y.fills) how (level_with m s.level) (level_with n t.level)) (sym x.2)
      (committed number path p x.0 how (sym (at_path x.0 x.1) ∙ sym (ap (λ (y : OpenEntry). y.path) x.2) ∙ is) told same g
      (h told x.0 p x.1 (subst (λ (y : OpenEntry). length y.bytes ≤ y.size) x.2 small) (sym (ap (λ (y : OpenEntry). y.path) x.2) ∙ is)))

  pub nothing-marked : (number : ℕ) → SameMarks m n → CommitsNothing number s t → CommitsNothing number (with_marks m s) (with_marks n t)
  nothing-marked number same h told o at small = let x = alone m s number o at in same-files same ((h told x.0 x.1 (subst (λ (y : OpenEntry). length y.bytes ≤ y.size) x.2 small)).maps)

  measured : (number size : ℕ) → IsMeasured number size s → IsMeasured number size (with_marks m s)
  measured number size h told o at = let x = alone m s number o at in h told x.0 x.1 ∙ ap (λ (y : OpenEntry). length y.bytes) (sym x.2)

  pub cause-marked : (number : ℕ) (how : Written) → CommitCause number how s t → CommitCause number how (with_marks m s) (with_marks n t)
  cause-marked number WriteDone h = tt
  cause-marked number (WriteRefused FileTooLarge) h = (h.0, measured number h.0 h.1, h.2)
  cause-marked number (WriteRefused NoRoom) h = (h.0, measured number h.0 h.1, h.2, h.3)
  cause-marked number (WriteRefused Io) h = h
  cause-marked number (WriteRefused BadKey) h = absurd h
  cause-marked number (WriteRefused BadEntry) h = absurd h
  cause-marked number (WriteRefused (ForReading x)) h = absurd h
  cause-marked number (WriteRefused (RemoteRefused x)) h = absurd h
  cause-marked number (WriteRefused (NotOpen x)) h = absurd h

  -- a preprocessor entry was put, or not
  pub puts-marked : n ≡ m → t.level.written ≡ s.level.written → (p : Policy) (k b : List ℕ) (how : Written) → StoresKey p k b how s t → PutsPre p k b how (with_marks m s) (with_marks n t)
  puts-marked same written p k b how h told =
      let x = h told in
      let y = puts_by m n x.0 s.facts.capacity (causes p s.facts s.reserved k (length b)) s.reserved k b how s.level t.level x.1 in
      (x.0, y.0, tt, keeps-fewer m n s.level t.level (λ q. ap (λ z. is_marked z (in_part Main q)) same) y.1, written)

-- the path of an entry that is open
pub open-path : (s : DiskStore) (e : AddEntry) → IsOpenAt e s → (o : OpenEntry) → entry_at s.entries e.number ≡ Some o → o.path ≡ e.key
open-path s e h o at = ap (λ (x : OpenEntry). x.path) (one_entry o h.1.0 (sym at ∙ h.1.1)) ∙ h.1.2
  where
    one_entry : (x y : OpenEntry) → Some x ≡ Some y → x ≡ y
    one_entry x y k = cc

-- what became of the marks, told of the store with its marks
pub committed-told : (m n k : Marks) (t : DiskStore) (number : ℕ) (path : List ℕ) (how : Written) → MarksCommitted number path how m n t → MarksCommitted number path how m n (with_marks k t)
committed-told m n k t number path WriteDone g = record { marked = g.marked; kept = g.kept; fewer = g.fewer; none = g.none; others = g.others }
committed-told m n k t number path (WriteRefused c) g = g

committed_others : (m n : Marks) (t : DiskStore) (number : ℕ) (path : List ℕ) (how : Written) → MarksCommitted number path how m n t → OtherFills number m n
committed_others m n t number path WriteDone g = g.others
committed_others m n t number path (WriteRefused c) g = g.others

pub committed-closes : {E : Type 0} (m n : Marks) (s t : DiskStore) (number : ℕ) (path : List ℕ) (r : Result Written E) → IfOk r (λ how. MarksCommitted number path how m n t) → OnErr r (Forgets number m n) → ClosesEntry number s t
    → ClosesEntry number (with_marks m s) (with_marks n t)
committed-closes m n s t number path (Ok how) h k c = closes-marked m n s t number (committed_others m n t number path how h) c
committed-closes m n s t number path (Err e) h k c = closes-marked m n s t number k.others c
