-- How a level answers a lookup.
use Rattle.std.specs.Prelude.{◌≡◌, ℕ, suc, ◌+◌, ◌-◌, ◌^◌, min, ◌≤◌, Bool, true, false, cond, is_some, if◌then◌else◌, List, ◌∷◌, ◌++◌, Option, Some, None, ◌⊎◌, IsTrue}
use Rattle.sc_model.specs.Devices.{Failed, Made, MakesMade, Passed}
use Rattle.sc_model.specs.declared.event.Answer.{Answer}
use Rattle.sc_model.specs.declared.event.Answer.TheVariants.{Found as FoundAt, Hit, Miss, Refused, Size as SizeIs}
use Rattle.sc_model.specs.declared.event.Mode.{Mode}
use Rattle.sc_model.specs.declared.event.Mode.TheVariants.{Path, Pre, Raw, Size as Sizes, Whole}
use Rattle.sc_entry.specs.declared.object.Object.{Object}
use Rattle.sc_model.specs.declared.level.Cause.TheVariants.{BadEntry, BadKey, Io, RemoteFault as RemoteRefused}
use Rattle.sc_model.specs.declared.level.RemoteFault.TheVariants.{Other as OtherFault}
use Rattle.sc_model.specs.declared.level.LevelFacts.{LevelFacts}
use Rattle.sc_model.specs.declared.level.LevelKind.{LevelKind}
use Rattle.sc_model.specs.declared.level.LevelKind.TheVariants.{Disk, Remote}
use Rattle.sc_entry.specs.Keys.{IsStoreKey, is_store_key, make_key_path}
use Rattle.sc_entry.specs.Causes.{IfTold, Rose}
use Rattle.sc_model.specs.Levels.{size_of, Level, main_path, held, held_pre, is_marked, KeepsMarks, Keeps_all, Later, IsFault}

-- an entry that spells one, or not
abbrev pub Spells : Option (List Object) → Type 0
Spells (Some os) = Unit {0}
Spells None = ⊥

-- a lookup's answer, by the level's map after it
abbrev pub Answers_whole : (List ℕ → Option (List Object)) → LevelKind → List ℕ → Answer → Level → Level → Type 0
Answers_whole objects kind k (Hit b mark) v w = IsStoreKey k × (held kind w k ≡ Some b) × Spells (objects b)
Answers_whole objects kind k Miss v w = IsStoreKey k × (held kind w k ≡ None)
Answers_whole objects kind k (Refused BadKey) v w = IsStoreKey k → ⊥
Answers_whole objects kind k (Refused BadEntry) v w = IsStoreKey k × ((b : List ℕ) × (held kind w k ≡ Some b) × (objects b ≡ None))
Answers_whole objects kind k (Refused c) v w = IsStoreKey k × IsFault kind v w c
Answers_whole objects kind k _ v w = ⊥

abbrev pub Answers_raw : LevelKind → List ℕ → Answer → Level → Level → Type 0
Answers_raw kind k (Hit b mark) v w = IsStoreKey k × (held kind w k ≡ Some b)
Answers_raw kind k Miss v w = IsStoreKey k × (held kind w k ≡ None)
Answers_raw kind k (Refused BadKey) v w = IsStoreKey k → ⊥
Answers_raw kind k (Refused c) v w = IsStoreKey k × IsFault kind v w c
Answers_raw kind k _ v w = ⊥

-- A miss that no map decides: the key is bad, and nothing is opened for it; or the opened store holds nothing there; or its disk
-- refused, and by then the store was opened or not.
abbrev pub Misses : Bool → List ℕ → Option (List ℕ) → Level → Level → Type 0
Misses by_then k found v w = ((IsStoreKey k → ⊥) × (w.opened ≡ v.opened)) ⊎ (IsStoreKey k × ((IsTrue (w.opened) × (found ≡ None)) ⊎ ((w.opened ≡ by_then) × Rose v.faults w.faults)))

-- A path is found, or the key is bad or absent, or its disk refused to be opened: no file is read.
abbrev pub Answers_path : LevelFacts → List ℕ → Answer → Level → Level → Type 0
Answers_path f k (FoundAt p) v w = IsStoreKey k × ((b : List ℕ) × (held Disk w k ≡ Some b)) × (p ≡ f.root ++ 47 ∷ make_key_path k)
Answers_path f k Miss v w = Misses false k (held Disk w k) v w
Answers_path f k _ v w = ⊥

-- a preprocessor entry: a remote keeps none; a refused read is a miss, a refused opening alone is told
abbrev pub Answers_pre : LevelKind → List ℕ → Answer → Level → Level → Type 0
Answers_pre Disk k (Hit b mark) v w = IsStoreKey k × (held_pre w k ≡ Some b)
Answers_pre Disk k Miss v w = Misses true k (held_pre w k) v w
Answers_pre Disk k (Refused Io) v w = IsStoreKey k × Rose v.faults w.faults × (w.opened ≡ false)
Answers_pre Remote k Miss v w = Unit {0}
Answers_pre kind k _ v w = ⊥

-- an opened disk level's size: both maps and the open reservations
abbrev pub level_size : LevelKind → Level → ℕ → Option ℕ
level_size Disk v r = if v.opened then Some (min (size_of v.main + size_of v.pre + r) (2 ^ 64 - 1)) else None
level_size Remote v r = None

abbrev pub Answers_size : LevelKind → ℕ → Answer → Level → Type 0
Answers_size kind r (SizeIs n c) w = n ≡ level_size kind w r
Answers_size kind r _ w = ⊥

abbrev pub Answers : (List ℕ → Option (List Object)) → LevelFacts → ℕ → List ℕ → Mode → Answer → Level → Level → Type 0
Answers objects f r k Whole a v w = Answers_whole objects f.kind k a v w
Answers objects f r k Raw a v w = Answers_raw f.kind k a v w
Answers objects f r k Path a v w = Answers_path f k a v w
Answers objects f r k Pre a v w = Answers_pre f.kind k a v w
Answers objects f r k Sizes a v w = Answers_size f.kind r a w

-- an answer that needed the disk store opened it, a bad key does not; a remote store is never opened
abbrev pub Opens_by : LevelKind → Mode → Answer → Level → Level → Type 0
Opens_by Remote mode a v w = w.opened ≡ v.opened
Opens_by Disk Sizes a v w = w ≡ v
Opens_by Disk Path Miss v w = Unit {0}
Opens_by Disk Pre Miss v w = Unit {0}
Opens_by Disk mode (Refused BadKey) v w = w.opened ≡ v.opened
Opens_by Disk mode (Refused Io) v w = Unit {0}
Opens_by Disk mode a v w = IsTrue (w.opened)

-- a hit tells the mark of its path; a path that is found and a preprocessor entry have none
abbrev pub Tells_mark : LevelKind → List ℕ → Mode → Answer → Level → Type 0
Tells_mark kind k Whole (Hit b mark) v = mark ≡ is_marked v (main_path kind k)
Tells_mark kind k Raw (Hit b mark) v = mark ≡ is_marked v (main_path kind k)
Tells_mark kind k mode (Hit b mark) v = mark ≡ false
Tells_mark kind k mode a v = Unit {0}

abbrev pub same_maps : Level → Level → Type 0
same_maps v w = (w.main ≡ v.main) × (w.pre ≡ v.pre)

-- How many calls open a level's store: its listing, and one for each main file that goes.
abbrev pub opening_calls : Level → ℕ
opening_calls v = cond v.opened 0 (suc v.stale)

-- so many calls were made, and none refused; an opened store has no more to remove
abbrev pub Passes : ℕ → Level → Level → Made → Type 0
Passes n v w made = (made ≡ Passed n) × (w.stale ≡ cond w.opened 0 v.stale)

-- Of the calls that open a store one was refused: its listing, or a removal; the files that went by then need not go again.
abbrev pub RefusesOpening : Level → Level → Made → Type 0
RefusesOpening v w made = (v.opened ≡ false) × (w.opened ≡ false) × same_maps v w × ((n : ℕ) × (n ≤ v.stale) × (made ≡ Failed n 0) × (w.stale ≡ v.stale - (n - 1)))

-- the opened store's call behind so many was refused, and so many more clean up
abbrev pub Refuses_at : ℕ → ℕ → Level → Level → Made → Type 0
Refuses_at n behind v w made = IsTrue (w.opened) × (w.stale ≡ 0) × (made ≡ Failed (opening_calls v + n) behind)

-- one of the two calls that read an indexed file was refused
abbrev pub RefusesRead : List ℕ → Level → Level → Made → Type 0
RefusesRead k v w made = (is_some (held Disk v k) ≡ true) × (Refuses_at 0 0 v w made ⊎ Refuses_at 1 0 v w made)

-- the calls of a disk level's main disk at a lookup: where its key is good those that open it, and two that read an indexed file
abbrev pub Reads_calls : List ℕ → Answer → Level → Level → Made → Type 0
Reads_calls k (Refused Io) v w made = RefusesOpening v w made ⊎ RefusesRead k v w made
Reads_calls k (Refused BadKey) v w made = Passes 0 v w made
Reads_calls k Miss v w made = Passes (opening_calls v) v w made
Reads_calls k a v w made = Passes (opening_calls v + 2) v w made

abbrev pub Opens_calls : List ℕ → Level → Level → Made → Type 0
Opens_calls k v w made = Passes (cond (is_store_key k) (opening_calls v) 0) v w made

abbrev pub Asks_disk_calls : Mode → List ℕ → Answer → Level → Level → Made → Type 0
Asks_disk_calls Whole k a v w made = Reads_calls k a v w made
Asks_disk_calls Raw k a v w made = Reads_calls k a v w made
Asks_disk_calls Path k Miss v w made = RefusesOpening v w made ⊎ Opens_calls k v w made
Asks_disk_calls Path k a v w made = Opens_calls k v w made
Asks_disk_calls Pre k (Refused Io) v w made = RefusesOpening v w made
Asks_disk_calls Pre k a v w made = Opens_calls k v w made
Asks_disk_calls Sizes k a v w made = Passes 0 v w made

-- The call of a remote store at a lookup of a store key. Its faults have no kind of their own, where it tells its calls.
abbrev pub Reads_remote_calls : Answer → Made → Type 0
Reads_remote_calls (Refused BadKey) made = made ≡ Passed 0
Reads_remote_calls (Refused (RemoteRefused kind)) made = (kind ≡ OtherFault) × (made ≡ Failed 0 0)
Reads_remote_calls a made = made ≡ Passed 1

abbrev pub Asks_remote_calls : Mode → Answer → Made → Type 0
Asks_remote_calls Whole a made = Reads_remote_calls a made
Asks_remote_calls Raw a made = Reads_remote_calls a made
Asks_remote_calls mode a made = made ≡ Passed 0

abbrev pub Asks_calls : LevelKind → Mode → List ℕ → Answer → Level → Level → Made → Type 0
Asks_calls Disk mode k a v w made = Asks_disk_calls mode k a v w made
Asks_calls Remote mode k a v w made = Asks_remote_calls mode a made

-- Where a level's device tells its calls, these were made of them.
abbrev pub CallsBy : (Made → Type 0) → Level → Level → Type 0
CallsBy P v w = IfTold v.calls (λ c. (made : Made) × P made × MakesMade made v.calls w.calls v.faults w.faults)

-- A disk level's calls are not held to their rules yet, since its store doesn't say how many it made: of them `Later` alone speaks.
abbrev pub DiskCalls : (Made → Type 0) → Level → Level → Type 0
DiskCalls P v w = Unit {0}

abbrev pub CallsOf : LevelKind → (Made → Type 0) → Level → Level → Type 0
CallsOf Disk P v w = DiskCalls P v w
CallsOf Remote P v w = CallsBy P v w

-- a level is asked
pub record Asks (objects : List ℕ → Option (List Object)) (f : LevelFacts) (r : ℕ) (k : List ℕ) (mode : Mode) (a : Answer) (v w : Level) : Type 0 where
  pub later : Later v w
  pub keeps : Keeps_all f.kind v w
  pub answers : Answers objects f r k mode a v w
  pub opens : Opens_by f.kind mode a v w
  pub marks : KeepsMarks v w
  pub tells_mark : Tells_mark f.kind k mode a v
  pub calls : CallsOf f.kind (Asks_calls f.kind mode k a v w) v w
  pub written : w.written ≡ v.written
