-- Which files a store of two folders holds that isn't opened yet: those that an opening keeps.
use Rattle.std.specs.Prelude.{◌≡◌, ℕ, cond, List, [], ◌∷◌, length}
use Rattle.std.specs.List.Sorted.{IsPermutation, IsSorted}
use Rattle.std.specs.Ordering.{is_lt}
use Rattle.sc_lru.specs.LruCache.{suffix_within, total}
use Rattle.sc_disk.specs.Disks.{DiskFiles, listing}
use Rattle.sc_disk.specs.Opening.{kept_of, pairs_of, use_cmp}
use Rattle.sc_disk.specs.Store.{size_of}
use Rattle.sc_disk.specs.declared.disk.Listed.{Listed}
use Rattle.sc_store_disk.specs.Shown.{Index}
use Rattle.sc_store_disk.specs.declared.holding.HeldSize.{HeldSize}

abbrev pub put_by_use : Listed → List Listed → List Listed
put_by_use e [] = e ∷ []
put_by_use e (x ∷ xs) = cond (is_lt (use_cmp x e)) (x ∷ put_by_use e xs) (e ∷ x ∷ xs)

-- files by their moments, then by their paths
abbrev pub in_use_order : List Listed → List Listed
in_use_order [] = []
in_use_order (e ∷ es) = put_by_use e (in_use_order es)

-- Of these files those that are no temporaries and fit by themselves, by their moments, then by their paths; of those the
-- longest end whose sizes fit together.
unfoldable pub reopened : ℕ → DiskFiles → Index
reopened capacity f = suffix_within size_of capacity (pairs_of (in_use_order (kept_of capacity (listing f))))

-- The bytes and the number of those that an opening keeps of the files of a listing: of the kept ones in the order of use,
-- the longest end that fits.
pub record IsReopenedSize (capacity : ℕ) (all : List Listed) (size : HeldSize) : Type 0 where
  pub order : List Listed
  pub same : IsPermutation (kept_of capacity all) order
  pub sorted : IsSorted use_cmp order
  pub bytes : size.bytes ≡ total size_of (suffix_within size_of capacity (pairs_of order))
  pub files : size.files ≡ length (suffix_within size_of capacity (pairs_of order))
