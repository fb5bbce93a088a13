-- What a level holds, and what stays of it.
use Rattle.std.specs.Prelude.{◌≡◌, ℕ, ◌+◌, ◌≤◌, Bool, true, false, is_some, ◌&&◌, List, [], ◌∷◌, ◌++◌, length, Option, Some, None, ◌⊎◌, bytes_eq, IsTrue}
use Rattle.std.specs.List.{list_any}
use Rattle.sc_model.specs.Devices.{Calls, Loses, MakesOn}
use Rattle.sc_model.specs.declared.level.Cause.{Cause}
use Rattle.sc_model.specs.declared.level.Cause.TheVariants.{Io, RemoteFault as RemoteRefused}
use Rattle.sc_model.specs.declared.level.LevelKind.{LevelKind}
use Rattle.sc_model.specs.declared.level.LevelKind.TheVariants.{Disk, Remote}
use Rattle.std.specs.Cmp.Lexicographic.{slice_cmp}
use Rattle.std.specs.FinMap.{FinMap, empty as empty_map, entries as entries_map, get as get_map, insert as insert_map, remove as remove_map}
use Rattle.std.specs.Ordering.{nat_cmp}
use Rattle.sc_entry.specs.Keys.{make_key_path, normalize_key}
use Rattle.sc_entry.specs.Causes.{Rose}

-- bytes under paths
abbrev pub Files : Type 0
Files = FinMap (slice_cmp nat_cmp) (List ℕ)

abbrev pub no_files : Files
no_files = empty_map

abbrev pub find_file : Files → List ℕ → Option (List ℕ)
find_file files path = get_map files path

abbrev pub put_file : Files → List ℕ → List ℕ → Files
put_file files path bytes = insert_map files path bytes

abbrev pub drop_file : Files → List ℕ → Files
drop_file files path = remove_map files path

abbrev pub sum_lengths : List (List ℕ × List ℕ) → ℕ
sum_lengths [] = 0
sum_lengths (e ∷ es) = length (e.1) + sum_lengths es

abbrev pub size_of : Files → ℕ
size_of files = sum_lengths (entries_map files)

-- A level: its device's counts and calls; whether a disk store was opened, and how many main files its opening is to remove; both
-- maps, of which a remote has the first alone; the main paths whose bytes a local run made, as far as the store was told; and, where
-- that is told, what reached what is behind a remote, in order.
pub record Level : Type 0 where
  pub faults : ℕ
  pub losses : ℕ
  pub calls : Option Calls
  pub opened : Bool
  pub stale : ℕ
  pub main : Files
  pub pre : Files
  pub marks : List (List ℕ)
  pub written : Option (List (List ℕ × List ℕ))

abbrev pub no_level_held : Level
no_level_held = record { faults = 0; losses = 0; calls = None; opened = false; stale = 0; main = no_files; pre = no_files; marks = []; written = None }

-- one more of what is told; what isn't told stays so
abbrev pub and_one : {A : Type 0} → Option (List A) → A → Option (List A)
and_one None x = None
and_one (Some xs) x = Some (xs ++ x ∷ [])

abbrev pub main_path : LevelKind → List ℕ → List ℕ
main_path Disk k = make_key_path k
main_path Remote k = normalize_key k

-- what a level holds under a key
abbrev pub held : LevelKind → Level → List ℕ → Option (List ℕ)
held kind v k = find_file v.main (main_path kind k)

abbrev pub held_pre : Level → List ℕ → Option (List ℕ)
held_pre v k = find_file v.pre (normalize_key k)

-- the bytes at a main path are marked
abbrev pub is_marked : Level → List ℕ → Bool
is_marked v path = list_any (bytes_eq path) v.marks

abbrev pub is_there : Level → List ℕ → Bool
is_there v path = is_some (find_file v.main path)

-- No path gets a mark, and where a file goes its mark goes.
abbrev pub KeepsMarks : Level → Level → Type 0
KeepsMarks v w = (path : List ℕ) → is_marked w path ≡ (is_marked v path && is_there w path)

-- A path gets this mark, and no other does.
pub record SetsMark (path : List ℕ) (mark : Bool) (v w : Level) : Type 0 where
  pub set : is_marked w path ≡ mark
  pub others : (q : List ℕ) → bytes_eq path q ≡ false → is_marked w q ≡ (is_marked v q && is_there w q)

-- every file of the second is one of the first
abbrev pub IsPart : Files → Files → Type 0
IsPart new old = (p b : List ℕ) → find_file new p ≡ Some b → find_file old p ≡ Some b

-- a remote may find keys lost only where its count of losses rose; a disk loses none
abbrev pub Keeps_all : LevelKind → Level → Level → Type 0
Keeps_all Disk v w = (w.main ≡ v.main) × (w.pre ≡ v.pre)
Keeps_all Remote v w = ((w.main ≡ v.main) ⊎ (IsPart w.main v.main × Rose v.losses w.losses)) × (w.pre ≡ v.pre)

-- no count falls, one that tells its device's calls rises only at a call that is to fail, and what is opened stays so
abbrev pub is_later : Bool → Bool → Bool
is_later true b = b
is_later false b = true

pub record Later (v w : Level) : Type 0 where
  pub faults : v.faults ≤ w.faults
  pub losses : Loses v.calls v.losses w.losses
  pub calls : MakesOn v.calls w.calls v.faults w.faults
  pub opened : IsTrue (is_later v.opened w.opened)

-- why a device refuses
abbrev pub IsFault : LevelKind → Level → Level → Cause → Type 0
IsFault Disk v w Io = Rose v.faults w.faults
IsFault Remote v w (RemoteRefused k) = Rose v.faults w.faults
IsFault kind v w _ = ⊥
