-- What an opening makes of a disk's files.
use Rattle.std.specs.Prelude.{◌≡◌, ◌⊎◌, ℕ, ◌-◌, ◌≤◌, Bool, true, not, ◌&&◌, nat_le, List, ◌++◌, length, drop, map as each}
use Rattle.std.specs.List.{AllByRecursion, filter}
use Rattle.std.specs.List.Sorted.{IsPermutation, IsSorted}
use Rattle.std.specs.Ordering.{nat_cmp, ordering_then}
use Rattle.std.specs.Cmp.Lexicographic.{slice_cmp}
use Rattle.std.specs.declared.cmp.Ordering.{Ordering}
use Rattle.sc_entry.specs.Causes.{IfTold}
use Rattle.sc_lru.specs.LruCache.{suffix_within}
use Rattle.sc_disk.specs.Disks.{DiskFiles, DiskState, Does, files_now, has_place, listing}
use Rattle.sc_disk.specs.Names.{is_temporary_path}
use Rattle.sc_disk.specs.Store.{Fits, Needed, filed, firsts, gone, size_of}
use Rattle.sc_disk.specs.declared.disk.Listed.{Listed}

-- no temporary, and not over the capacity by itself
abbrev pub is_kept : ℕ → Listed → Bool
is_kept capacity e = not (is_temporary_path e.path) && nat_le e.size capacity

abbrev pub kept_of : ℕ → List Listed → List Listed
kept_of capacity all = filter (is_kept capacity) all

abbrev pub dropped_of : ℕ → List Listed → List Listed
dropped_of capacity all = filter (λ e. not (is_kept capacity e)) all

abbrev pub paths_of : List Listed → List (List ℕ)
paths_of files = each (λ e. e.path) files

-- by moment, then by path; paths differ, so that sizes never decide
abbrev pub use_cmp : Listed → Listed → Ordering
use_cmp a b = ordering_then (nat_cmp a.moment b.moment) (ordering_then (slice_cmp nat_cmp a.path b.path) (nat_cmp a.size b.size))

abbrev pub pair_of : Listed → List ℕ × ℕ
pair_of e = (e.path, e.size)

-- each path with its size
abbrev pub pairs_of : List Listed → List (List ℕ × ℕ)
pairs_of files = each pair_of files

-- the disk has a place for each key
abbrev pub HavePlaces : List (List ℕ × ℕ) → DiskState → Type 0
HavePlaces index d = AllByRecursion (λ e. has_place d e.0 ≡ true) index

-- the files that an opening keeps, in the order of their use
pub record IsUseOrder (capacity : ℕ) (files : DiskFiles) (order : List Listed) : Type 0 where
  pub same : IsPermutation (kept_of capacity (listing files)) order
  pub sorted : IsSorted use_cmp order

-- The index of a store that is opened on these files: those that are kept, in the order of their use, without the first
-- ones where all take more than the capacity.
unfoldable pub IsReopened : ℕ → DiskFiles → List (List ℕ × ℕ) → Type 0
IsReopened capacity files index = (order : List Listed) × IsUseOrder capacity files order × (index ≡ suffix_within size_of capacity (pairs_of order))

-- The files that an opening has removed, the first of them first: those that it doesn't keep, by their paths, and then the
-- first n in the order of use, each only while those that were left took more than the capacity.
pub record Indexes (capacity : ℕ) (es : List (List ℕ × ℕ)) (paths : List (List ℕ)) (files : DiskFiles) : Type 0 where
  pub order : List Listed
  pub n : ℕ
  pub ordered : IsUseOrder capacity files order
  pub evicted : Fits capacity n (pairs_of order)
  pub index : es ≡ drop n (pairs_of order)
  pub removed : paths ≡ paths_of (dropped_of capacity (listing files)) ++ firsts n (pairs_of order)

-- the first ones of those, where an opening was refused
abbrev pub Begins : ℕ → List (List ℕ) → DiskFiles → Type 0
Begins capacity removed files =
    ((rest : List (List ℕ)) × (removed ++ rest ≡ paths_of (dropped_of capacity (listing files))))
    ⊎ ((order : List Listed) × (n : ℕ) × IsUseOrder capacity files order × Needed capacity n (pairs_of order) × (removed ≡ paths_of (dropped_of capacity (listing files)) ++ firsts n (pairs_of order)))

-- A disk's files were indexed, and the others removed.
unfoldable pub Reopens : ℕ → List (List ℕ × ℕ) → DiskState → DiskState → Type 0
Reopens capacity index old new = (removed : List (List ℕ)) × Does (gone removed) old new × IfTold old.told (λ r. Indexes capacity index removed (files_now r))

-- An opening was refused on the way.
unfoldable pub RefusesOpening : ℕ → DiskState → DiskState → Type 0
RefusesOpening capacity old new = (removed : List (List ℕ)) × Does (gone removed) old new × IfTold old.told (λ r. Begins capacity removed (files_now r))

-- what private steps of an opening do: the first n files go, and their pairs
pub record Drops (n : ℕ) (es fs : List (List ℕ × ℕ)) (old new : DiskState) : Type 0 where
  pub entries : fs ≡ drop n es
  pub disk : Does (gone (firsts n es)) old new

-- a file is indexed behind the others, once the first n went
pub record Admits (e : Listed) (capacity n : ℕ) (es fs : List (List ℕ × ℕ)) (old new : DiskState) : Type 0 where
  pub evicted : Fits (capacity - e.size) n es
  pub entries : fs ≡ filed e.path e.size (drop n es)
  pub disk : Does (gone (firsts n es)) old new

-- files of distinct paths are indexed in this order, once the first n went
pub record Follows (capacity n : ℕ) (files : List Listed) (es : List (List ℕ × ℕ)) (paths : List (List ℕ)) : Type 0 where
  pub within : n ≤ length files
  pub needed : Needed capacity n (pairs_of files)
  pub index : es ≡ drop n (pairs_of files)
  pub removed : paths ≡ firsts n (pairs_of files)
