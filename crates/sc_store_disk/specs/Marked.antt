-- What the calls of a disk store do to its marks.
use Rattle.std.specs.Prelude.{◌≡◌, ℕ, Bool, true, false, bytes_eq, List, Option, Some, None}
use Rattle.sc_disk.specs.declared.disk.Disk as device
use Rattle.sc_model.specs.Levels.{find_file}
use Rattle.sc_model.specs.declared.event.Answer.{Answer}
use Rattle.sc_model.specs.declared.event.Answer.TheVariants.{Hit}
use Rattle.sc_model.specs.declared.event.Written.{Written}
use Rattle.sc_model.specs.declared.event.Written.TheVariants.{Done as WriteDone, Refused as WriteRefused}
use Rattle.sc_disk_pair.specs.Parts.{in_part}
use Rattle.sc_disk_pair.specs.declared.pair_cache.PairCache.{PairCache}
use Rattle.sc_disk_pair.specs.declared.part.Part.TheVariants.{Main}
use Rattle.sc_store_disk.specs.DiskStores.{DiskStore, entry_path}
use Rattle.sc_store_disk.specs.Marks.{Fills, Forgets, Marks, OtherFills, Sweeps, fills_of, is_marked, mark_of}
use Rattle.sc_store_disk.specs.declared.entry_cache.EntryCache.{EntryCache}
use Rattle.sc_store_disk.specs.declared.filling.Filling.{Filling}
use Rattle.sc_store_disk.specs.declared.filling.Filling.TheVariants.{Filled as StillOpen, Refused as NotFilled}
use Rattle.sc_store_disk.specs.declared.reserving.Reservation.{Reservation}
use Rattle.sc_store_disk.specs.declared.reserving.Reservation.TheVariants.{Open as IsOpened, Refused as IsRefused}

abbrev pub marks_of : {D : Type 0} {g : device.Ghosts D} → EntryCache D g → Marks
marks_of c = c.marks

-- the same of a store that is opened; of one that isn't nothing goes
abbrev pub SweptBy : {D : Type 0} → Option (PairCache D) → List ℕ → Marks → Marks → Type 0
SweptBy None keep old new = new ≡ old
SweptBy (Some c) keep old new = Sweeps c.store.index keep old new

-- a hit with this mark
abbrev pub with_mark : Bool → Answer → Answer
with_mark mark (Hit bytes was) = Hit bytes mark
with_mark mark answer = answer

-- A hit tells the mark of its file.
abbrev pub TellsMark : Marks → List ℕ → Answer → Type 0
TellsMark marks key (Hit bytes mark) = mark ≡ is_marked marks (entry_path key)
TellsMark marks key answer = Unit {0}

abbrev pub MarksOpened : Reservation → Marks → Marks → Type 0
MarksOpened (IsOpened e) old new = Forgets e.number old new
MarksOpened (IsRefused c) old new = new ≡ old

-- a refused fill closes the entry
abbrev pub MarksFilled : ℕ → Bool → Filling → Marks → Marks → Type 0
MarksFilled number from_run (StillOpen e) old new = Fills number from_run old new
MarksFilled number from_run (NotFilled c) old new = Forgets number old new

-- A commit that is done gives its path the mark of the entry. All other files that the store holds keep theirs.
pub record MarksDone (number : ℕ) (path : List ℕ) (old new : Marks) (v : DiskStore) : Type 0 where
  pub marked : is_marked new path ≡ mark_of (fills_of old number)
  pub kept : v.told ≡ true → (key bytes : List ℕ) → bytes_eq path (in_part Main key) ≡ false → find_file v.level.main key ≡ Some bytes → is_marked new (in_part Main key) ≡ is_marked old (in_part Main key)
  pub fewer : (q : List ℕ) → bytes_eq path q ≡ false → is_marked old q ≡ false → is_marked new q ≡ false
  pub none : fills_of new number ≡ None
  pub others : OtherFills number old new

abbrev pub MarksCommitted : ℕ → List ℕ → Written → Marks → Marks → DiskStore → Type 0
MarksCommitted number path WriteDone old new v = MarksDone number path old new v
MarksCommitted number path (WriteRefused c) old new v = Forgets number old new
