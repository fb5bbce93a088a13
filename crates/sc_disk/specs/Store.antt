-- What a contract sees of a store of files: its index in the order of use, its open entries, its capacity and its disk.
use Rattle.std.specs.Prelude.{◌≡◌, ℕ, ◌+◌, ◌-◌, ◌<◌, ◌≤◌, Bool, true, false, ◌&&◌, is_some, bytes_eq, List, [], ◌∷◌, ◌++◌, length, take, drop, Option, Some, None, slice_index_or}
use Rattle.std.specs.List.{sum_by}
use Rattle.std.specs.Map.{keys_of, lookup, remove_entry}
use Rattle.std.specs.Option.{option_map, option_map_or}
use Rattle.slab.specs.Slab.{Slab, Updates, get}
use mathlib.Core.Bool.{beq}
use Rattle.sc_entry.specs.Causes.{IfTold}
use Rattle.sc_lru.specs.LruCache.{total}
use Rattle.sc_disk.specs.Disks.{DiskFiles, DiskState, Does, IsHeld, disk_file_at, files_now}
use Rattle.sc_disk.specs.Names.{is_temporary_path, temporary}
use Rattle.sc_disk.specs.declared.change.Change.{Change}
use Rattle.sc_disk.specs.declared.change.Change.TheVariants.{Made, Gone}
use Rattle.sc_disk.specs.declared.pending.Pending.{Pending}

pub record Store : Type 0 where
  -- each key with its file's size, the least recently used first
  pub index : List (List ℕ × ℕ)
  -- how many more keys are indexed with no allocation
  pub spare : ℕ
  -- the open entries by number
  pub pending : Slab Pending
  pub capacity : ℕ
  pub disk : DiskState

abbrev pub store : List (List ℕ × ℕ) → ℕ → Slab Pending → ℕ → DiskState → Store
store index spare pending capacity disk = record { index = index; spare = spare; pending = pending; capacity = capacity; disk = disk }

-- a file measures its size
abbrev pub size_of : List ℕ → ℕ → ℕ
size_of _ size = size

-- the sum of the declared sizes
abbrev pub declared : List (Option Pending) → ℕ
declared slots = sum_by (λ slot. option_map_or (λ e. e.size) slot 0) slots

-- what the open entries have declared
abbrev pub reserved : Store → ℕ
reserved s = declared s.pending.slots

-- what the indexed files take
abbrev pub indexed : Store → ℕ
indexed s = total size_of s.index

-- what the open entry of this number has declared
abbrev pub declared_at : Store → ℕ → ℕ
declared_at s number = option_map_or (λ e. e.size) (get s.pending number) 0

-- what all other open entries have declared
abbrev pub others : Store → ℕ → ℕ
others s number = reserved s - declared_at s number

-- an entry as its holder has it
pub record AddEntry : Type 0 where
  pub number : ℕ
  pub key : List ℕ
  -- whether its temporary stands in its key's first part
  pub divided : Bool

abbrev pub add_entry : ℕ → List ℕ → Bool → AddEntry
add_entry number key divided = record { number = number; key = key; divided = divided }

-- the path of its temporary
abbrev pub temporary_of : AddEntry → List ℕ
temporary_of e = temporary e.divided e.key e.number

-- the store has an open entry of this number and key, whose temporary stands where it has them
abbrev pub IsOpen : Store → AddEntry → Type 0
IsOpen s e = (p : Pending) × (get s.pending e.number ≡ Some p) × (p.key ≡ e.key) × (e.divided ≡ s.disk.divided)

abbrev pub is_open_slot : Option Pending → List ℕ → Bool
is_open_slot None key = false
is_open_slot (Some p) key = bytes_eq p.key key

-- the same as a test
abbrev pub is_open : Store → AddEntry → Bool
is_open s e = is_open_slot (get s.pending e.number) e.key && beq e.divided s.disk.divided

-- removals of these paths, the first of them first; the newest change stands first
abbrev pub gone : List (List ℕ) → List Change
gone [] = []
gone (k ∷ ks) = gone ks ++ Gone k ∷ []

-- the keys of the first n pairs
abbrev pub firsts : ℕ → List (List ℕ × ℕ) → List (List ℕ)
firsts n index = keys_of (take n index)

-- the files that are no temporaries are the indexed ones, of these sizes
abbrev pub Agrees : List (List ℕ × ℕ) → DiskFiles → Type 0
Agrees index f = (q : List ℕ) → is_temporary_path q ≡ false → option_map (λ file. length file.bytes) (disk_file_at f q) ≡ lookup (bytes_eq q) index

-- no key is a temporary's path
abbrev pub AreKeys : List (List ℕ × ℕ) → Type 0
AreKeys index = (q : List ℕ) → is_temporary_path q ≡ true → lookup (bytes_eq q) index ≡ None

-- no open entry's key is a temporary's path
abbrev pub HaveKeys : List (Option Pending) → Type 0
HaveKeys slots = (n : ℕ) (e : Pending) → slice_index_or slots n None ≡ Some e → is_temporary_path e.key ≡ false

-- each open entry has its temporary
abbrev pub HaveFiles : Bool → List (Option Pending) → DiskFiles → Type 0
HaveFiles divided slots f = (n : ℕ) (e : Pending) → slice_index_or slots n None ≡ Some e → is_some (disk_file_at f (temporary divided e.key n)) ≡ true

-- each temporary is an open entry's
abbrev pub NoStray : Bool → List (Option Pending) → DiskFiles → Type 0
NoStray divided slots f = (q : List ℕ) → is_temporary_path q ≡ true → is_some (disk_file_at f q) ≡ true → (n : ℕ) × (e : Pending) × (slice_index_or slots n None ≡ Some e) × (q ≡ temporary divided e.key n)

-- The files are the indexed ones and the temporaries of the open entries.
pub record HasFiles (divided : Bool) (index : List (List ℕ × ℕ)) (slots : List (Option Pending)) (f : DiskFiles) : Type 0 where
  pub agrees : Agrees index f
  pub temporaries : HaveFiles divided slots f

-- no temporary stands about whose entry isn't open
abbrev pub IsTidy : Store → Type 0
IsTidy s = IfTold s.disk.told (λ r. NoStray s.disk.divided s.pending.slots (files_now r))

-- what a store keeps
pub record Keeps (index : List (List ℕ × ℕ)) (bound : ℕ) (slots : List (Option Pending)) (held capacity : ℕ) (disk : DiskState) : Type 0 where
  pub reserved : held ≡ declared slots
  pub limit : bound ≡ capacity
  pub fits : total size_of index + held ≤ capacity
  pub keys : AreKeys index
  pub opened : HaveKeys slots
  pub files : IfTold disk.told (λ r. HasFiles disk.divided index slots (files_now r))

-- each of the first n went only while what was left took more than the limit
abbrev pub Needed : ℕ → ℕ → List (List ℕ × ℕ) → Type 0
Needed limit n index = (m : ℕ) → m < n → limit < total size_of (drop m index)

-- The first n went, each only while what was left took more than the limit, and what is left doesn't: it is the longest
-- end of the list that fits.
abbrev pub Fits : ℕ → ℕ → List (List ℕ × ℕ) → Type 0
Fits limit n index = Needed limit n index × (total size_of (drop n index) ≤ limit)

-- the first n files went, and then their pairs
pub record Evicts (n : ℕ) (old new : Store) : Type 0 where
  pub index : new.index ≡ drop n old.index
  pub spare : old.spare ≤ new.spare
  pub pending : new.pending ≡ old.pending
  pub capacity : new.capacity ≡ old.capacity
  pub disk : Does (gone (firsts n old.index)) old.disk new.disk

-- the disk made these changes, and all else is as it was
pub record Alters (xs : List Change) (old new : Store) : Type 0 where
  pub index : new.index ≡ old.index
  pub spare : old.spare ≤ new.spare
  pub pending : new.pending ≡ old.pending
  pub capacity : new.capacity ≡ old.capacity
  pub disk : Does xs old.disk new.disk

-- every open entry stays, and no other is opened
abbrev pub SameEntries : Store → Store → Type 0
SameEntries old new = (n : ℕ) → get new.pending n ≡ get old.pending n

-- the entry was opened, under a number that was free
pub record Opened (e : AddEntry) (size : ℕ) (old new : Store) : Type 0 where
  pub free : get old.pending e.number ≡ None
  pub entry : Updates old.pending new.pending e.number (Some (record { key = e.key; size = size }))
  pub reserved : reserved new ≡ reserved old + size

-- the entry was closed, and its reservation released
pub record Closed (number : ℕ) (old new : Store) : Type 0 where
  pub entry : Updates old.pending new.pending number None
  pub reserved : reserved new + declared_at old number ≡ reserved old

-- the index after a file was put in
abbrev pub filed : List ℕ → ℕ → List (List ℕ × ℕ) → List (List ℕ × ℕ)
filed k r index = remove_entry (bytes_eq k) index ++ (k, r) ∷ []

-- what a private step does when it opens an entry
pub record Opens (e : AddEntry) (k : List ℕ) (size now : ℕ) (old new : Store) : Type 0 where
  pub key : e.key ≡ k
  pub divided : e.divided ≡ old.disk.divided
  pub opened : Opened e size old new
  pub index : new.index ≡ old.index
  pub capacity : new.capacity ≡ old.capacity
  pub disk : Does (Made (temporary_of e) now ∷ []) old.disk new.disk

-- what a private step does when it closes one
pub record Closes (e : AddEntry) (p : Pending) (old new : Store) : Type 0 where
  pub was : get old.pending e.number ≡ Some p
  pub key : p.key ≡ e.key
  pub divided : e.divided ≡ old.disk.divided
  pub good : is_temporary_path p.key ≡ false
  pub closed : Closed e.number old new
  pub index : new.index ≡ old.index
  pub spare : old.spare ≤ new.spare
  pub capacity : new.capacity ≡ old.capacity
  pub disk : new.disk ≡ old.disk
  pub held : IsHeld (temporary_of e) new.disk
  pub fits : indexed new + (reserved new + p.size) ≤ new.capacity
