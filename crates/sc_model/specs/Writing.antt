-- How a write moves a level.
use Rattle.std.specs.Prelude.{◌≡◌, ℕ, ◌+◌, ◌<◌, Bool, true, false, List, length, Option, Some, None, ◌⊎◌, IsTrue}
use Rattle.sc_model.specs.Devices.{Failed, Made, Passed}
use Rattle.sc_model.specs.Job.{entry_mark}
use Rattle.sc_model.specs.Script.{Setup}
use Rattle.sc_model.specs.declared.event.Mode.{Mode}
use Rattle.sc_model.specs.declared.event.Mode.TheVariants.{Pre, Whole}
use Rattle.sc_model.specs.declared.event.What.{What}
use Rattle.sc_model.specs.declared.event.What.TheVariants.{Asked, Committed, Filled, Reserved, Wrote}
use Rattle.sc_model.specs.declared.event.Written.{Written}
use Rattle.sc_model.specs.declared.event.Written.TheVariants.{Done as WriteDone, Refused as WriteRefused}
use Rattle.sc_model.specs.declared.level.Cause.{Cause}
use Rattle.sc_model.specs.declared.level.Cause.TheVariants.{FileTooLarge, Io, ReadOnly as ForReading, RemoteFault as RemoteRefused, Reserved as NoRoom}
use Rattle.sc_model.specs.declared.level.RemoteFault.TheVariants.{Other as OtherFault}
use Rattle.sc_model.specs.declared.level.LevelFacts.{LevelFacts}
use Rattle.sc_model.specs.declared.level.LevelKind.{LevelKind}
use Rattle.sc_model.specs.declared.level.LevelKind.TheVariants.{Disk, Remote}
use Rattle.sc_model.specs.declared.level.Policy.{Policy}
use Rattle.sc_model.specs.declared.level.Store.TheVariants.{Wrapper as WrapperStore}
use Rattle.sc_entry.specs.Keys.{IsStoreKey, make_key_path, normalize_key}
use Rattle.sc_entry.specs.Causes.{Rose}
use Rattle.sc_model.specs.Asking.{same_maps, opening_calls, Passes, RefusesOpening, Refuses_at, CallsBy, DiskCalls, Asks}
use Rattle.sc_model.specs.Evicting.{Evicts, main_count}
use Rattle.sc_model.specs.Levels.{put_file, Level, and_one, held, KeepsMarks, SetsMark, IsPart, Keeps_all, Later, IsFault}
use Rattle.sc_model.specs.WriteCauses.{Causes, causes}

-- a refusal for mode or key opens nothing; one for size stands at an opened store
abbrev pub Opens_refused : LevelKind → Cause → Level → Level → Type 0
Opens_refused Remote c v w = w.opened ≡ v.opened
Opens_refused Disk FileTooLarge v w = IsTrue (w.opened)
Opens_refused Disk NoRoom v w = IsTrue (w.opened)
Opens_refused Disk c v w = w.opened ≡ v.opened

-- a device's fault is told only where the write is refused neither for mode nor for key
abbrev pub IsRefused : LevelKind → Causes → Cause → Level → Level → Type 0
IsRefused kind expected Io v w = (expected.early ≡ None) × IsFault kind v w Io
IsRefused kind expected (RemoteRefused k) v w = (expected.early ≡ None) × IsFault kind v w (RemoteRefused k) × Keeps_all kind v w × (w.opened ≡ v.opened)
IsRefused kind expected c v w = (expected.all ≡ Some c) × Keeps_all kind v w × Opens_refused kind c v w

-- evictions come only where the size is no cause of a refusal; so many main files went
abbrev pub Evicts_unless : Option Cause → ℕ → ℕ → ℕ → Level → Level → Type 0
Evicts_unless None capacity more gone v w = (ps : List (Bool × List ℕ)) × Evicts capacity more ps v w × (gone ≡ main_count ps)
Evicts_unless (Some c) capacity more gone v w = same_maps v w × (gone ≡ 0)

-- The calls of a level's main disk where a write was refused that needs it: one that opens it, one that evicts a main file, or the
-- last one; none for mode or key, and those that open it for a size.
abbrev pub RefusesWrite_calls : ℕ → Cause → Level → Level → Made → Type 0
RefusesWrite_calls gone Io v w made = RefusesOpening v w made ⊎ Refuses_at gone 0 v w made
RefusesWrite_calls gone FileTooLarge v w made = Passes (opening_calls v) v w made
RefusesWrite_calls gone NoRoom v w made = Passes (opening_calls v) v w made
RefusesWrite_calls gone c v w made = Passes 0 v w made

-- at a reservation, one for each main file that is evicted, and one that makes the entry's file
abbrev pub Reserves_calls : ℕ → Written → Level → Level → Made → Type 0
Reserves_calls gone WriteDone v w made = Passes (opening_calls v + gone + 1) v w made
Reserves_calls gone (WriteRefused c) v w made = RefusesWrite_calls gone c v w made

-- a reservation at a disk level: it may evict, and not where it is refused for mode, key or size
abbrev pub Reserves_by : ℕ → ℕ → Causes → ℕ → ℕ → Written → Level → Level → Type 0
Reserves_by gone capacity expected r n WriteDone v w = (expected.all ≡ None) × Evicts_unless expected.all capacity (r + n) gone v w × IsTrue (w.opened)
Reserves_by gone capacity expected r n (WriteRefused Io) v w = (expected.early ≡ None) × Rose v.faults w.faults × Evicts_unless expected.all capacity (r + n) gone v w
Reserves_by gone capacity expected r n (WriteRefused c) v w = IsRefused Disk expected c v w × (gone ≡ 0)

abbrev pub Reserves : ℕ → Causes → ℕ → ℕ → Written → Level → Level → Type 0
Reserves capacity expected r n how v w = (gone : ℕ) × Reserves_by gone capacity expected r n how v w × DiskCalls (Reserves_calls gone how v w) v w × KeepsMarks v w × (w.written ≡ v.written)

-- what stays where an entry is filled or committed: the store is open
abbrev pub SameStore : Level → Level → Type 0
SameStore v w = (w.opened ≡ v.opened) × (w.stale ≡ v.stale) × (w.written ≡ v.written)

-- at a fill one call; where it is refused one more removes the entry's file
abbrev pub Fills_calls : Written → Made → Type 0
Fills_calls WriteDone made = made ≡ Passed 1
Fills_calls (WriteRefused c) made = made ≡ Failed 0 1

abbrev pub Fills_by : Written → Level → Level → Type 0
Fills_by WriteDone v w = same_maps v w
Fills_by (WriteRefused c) v w = IsFault Disk v w c × same_maps v w

abbrev pub Fills : Written → Level → Level → Type 0
Fills how v w = Fills_by how v w × DiskCalls (Fills_calls how) v w × KeepsMarks v w × SameStore v w

-- at a commit three calls; where one is refused one more removes the entry's file
abbrev pub Commits_calls : Written → Made → Type 0
Commits_calls WriteDone made = made ≡ Passed 3
Commits_calls (WriteRefused c) made = (n : ℕ) × (n < 3) × (made ≡ Failed n 1)

-- a commit gives its path the entry's mark
abbrev pub Commits_by : LevelKind → List ℕ → List ℕ → Bool → Written → Level → Level → Type 0
Commits_by Disk k b mark WriteDone v w = IsStoreKey k × (w.main ≡ put_file v.main (make_key_path k) b) × (w.pre ≡ v.pre) × SetsMark (make_key_path k) mark v w
Commits_by Disk k b mark (WriteRefused c) v w = IsFault Disk v w c × same_maps v w × KeepsMarks v w
Commits_by Remote k b mark how v w = ⊥

abbrev pub Commits : LevelKind → List ℕ → List ℕ → Bool → Written → Level → Level → Type 0
Commits kind k b mark how v w = Commits_by kind k b mark how v w × DiskCalls (Commits_calls how) v w × SameStore v w

-- the call of a remote store at a write that neither mode nor key refuses
abbrev pub Puts_remote_calls : Written → Made → Type 0
Puts_remote_calls WriteDone made = made ≡ Passed 1
Puts_remote_calls (WriteRefused (RemoteRefused kind)) made = (kind ≡ OtherFault) × (made ≡ Failed 0 0)
Puts_remote_calls (WriteRefused c) made = made ≡ Passed 0

-- what reached what is behind a remote: a write that is done, and one that the remote refused or not
abbrev pub Reaches : Written → List ℕ → List ℕ → Option (List (List ℕ × List ℕ)) → Option (List (List ℕ × List ℕ)) → Type 0
Reaches WriteDone path b before now = now ≡ and_one before (path, b)
Reaches (WriteRefused (RemoteRefused kind)) path b before now = (now ≡ before) ⊎ (now ≡ and_one before (path, b))
Reaches (WriteRefused c) path b before now = now ≡ before

-- A done write gives its path its mark; one that the remote refused takes it, for what stands there may be either.
abbrev pub Puts_mark : Written → List ℕ → Bool → Level → Level → Type 0
Puts_mark WriteDone path mark v w = SetsMark path mark v w
Puts_mark (WriteRefused (RemoteRefused kind)) path mark v w = SetsMark path false v w
Puts_mark (WriteRefused c) path mark v w = KeepsMarks v w

-- a remote's write: the key holds the bytes after it, and others may be found lost
abbrev pub Puts_remote_by : Causes → List ℕ → List ℕ → Written → Level → Level → Type 0
Puts_remote_by expected k b WriteDone v w =
    IsStoreKey k × (expected.all ≡ None) × (w.pre ≡ v.pre)
    × ((w.main ≡ put_file v.main (normalize_key k) b) ⊎ (IsPart w.main (put_file v.main (normalize_key k) b) × (held Remote w k ≡ Some b) × Rose v.losses w.losses))
Puts_remote_by expected k b (WriteRefused c) v w = IsRefused Remote expected c v w × Keeps_all Remote v w

abbrev pub Puts_remote : LevelKind → Causes → List ℕ → List ℕ → Bool → Written → Level → Level → Type 0
Puts_remote Remote expected k b mark how v w =
    Puts_remote_by expected k b how v w × CallsBy (Puts_remote_calls how) v w × Puts_mark how (normalize_key k) mark v w × Reaches how (normalize_key k) b v.written w.written
    × (w.opened ≡ v.opened) × (w.stale ≡ v.stale)
Puts_remote Disk expected k b mark how v w = ⊥

-- a preprocessor entry at a disk level; of the main disk's calls those that open it and those that evict
abbrev pub Puts_pre_calls : ℕ → Written → Level → Level → Made → Type 0
Puts_pre_calls gone WriteDone v w made = Passes (opening_calls v + gone) v w made
Puts_pre_calls gone (WriteRefused c) v w made = RefusesWrite_calls gone c v w made

abbrev pub Puts_pre_by : ℕ → ℕ → Causes → ℕ → List ℕ → List ℕ → Written → Level → Level → Type 0
Puts_pre_by gone capacity expected r k b WriteDone v w =
    (expected.all ≡ None) × ((u : Level) × Evicts_unless expected.all capacity (r + length b) gone v u × (w.main ≡ u.main) × (w.pre ≡ put_file u.pre (normalize_key k) b)) × IsTrue (w.opened)
Puts_pre_by gone capacity expected r k b (WriteRefused Io) v w = (expected.early ≡ None) × Rose v.faults w.faults × Evicts_unless expected.all capacity (r + length b) gone v w
Puts_pre_by gone capacity expected r k b (WriteRefused c) v w = IsRefused Disk expected c v w × (gone ≡ 0)

abbrev pub Puts_pre_disk : ℕ → Causes → ℕ → List ℕ → List ℕ → Written → Level → Level → Type 0
Puts_pre_disk capacity expected r k b how v w = (gone : ℕ) × Puts_pre_by gone capacity expected r k b how v w × DiskCalls (Puts_pre_calls gone how v w) v w × KeepsMarks v w × (w.written ≡ v.written)

-- at a remote level it is always done, and nothing is kept; a read-only wrapper refuses it
abbrev pub Puts_pre_remote : Bool → Written → Level → Level → Type 0
Puts_pre_remote false WriteDone v w = Keeps_all Remote v w × CallsBy (λ made. made ≡ Passed 0) v w × KeepsMarks v w × SameStore v w
Puts_pre_remote true (WriteRefused (ForReading WrapperStore)) v w = w ≡ v
Puts_pre_remote wrapped how v w = ⊥

abbrev pub Puts_pre : LevelFacts → LevelKind → Causes → ℕ → List ℕ → List ℕ → Written → Level → Level → Type 0
Puts_pre f Disk expected r k b how v w = Puts_pre_disk f.capacity expected r k b how v w
Puts_pre f Remote expected r k b how v w = Puts_pre_remote f.wrapped how v w

abbrev pub Wrote_at : Policy → LevelFacts → ℕ → List ℕ → List ℕ → Mode → Bool → Written → Level → Level → Type 0
Wrote_at policy f r k b Pre mark how v w = Puts_pre f f.kind (causes policy f r k (length b)) r k b how v w
Wrote_at policy f r k b Whole mark how v w = Puts_remote f.kind (causes policy f r k (length b)) k b mark how v w
Wrote_at policy f r k b _ mark how v w = ⊥

-- what moves one level by an event there: r are its open reservations before, and by this mark the owner's open entry is marked
abbrev pub MovesLevel : Setup → LevelFacts → ℕ → Bool → What → Level → Level → Type 0
MovesLevel s f r entry_mark (Asked l k mode a hs) v w = Asks s.codec.objects f r k mode a v w
MovesLevel s f r entry_mark (Reserved l k n how) v w = Later v w × Reserves f.capacity (causes s.policy f r k n) r n how v w
MovesLevel s f r entry_mark (Filled l k b mark how) v w = Later v w × Fills how v w
MovesLevel s f r entry_mark (Committed l k b how) v w = Later v w × Commits f.kind k b entry_mark how v w
MovesLevel s f r entry_mark (Wrote l k b mode mark how) v w = Later v w × Wrote_at s.policy f r k b mode mark how v w
MovesLevel s f r entry_mark _ v w = w ≡ v
