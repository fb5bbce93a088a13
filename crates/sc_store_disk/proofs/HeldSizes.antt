-- What a store holds, whether it is opened or not.
use Rattle.std.proofs.Common.{◌≡◌, inl, inr, ℕ, ◌+◌, true, is_some, bytes_eq, option_map, List, length, Option, Some, None, refl, sym, ap, ◌∙◌, subst, arith}
use Rattle.std.specs.List.{AllByRecursion, IsDistinct}
use Rattle.std.specs.List.Sorted.{IsPermutation, IsSorted}
use Rattle.std.specs.Map.{keys_of}
use Rattle.sc_entry.specs.Causes.{IfTold}
use Rattle.sc_entry.specs.declared.cache_mode.CacheMode.{CacheMode}
use Rattle.sc_lru.specs.LruCache.{suffix_within, total}
use Rattle.sc_disk.specs.Disks.{DiskFiles, DiskRecord, IsListing, disk_file_at, files_now, listing}
use Rattle.sc_disk.specs.Opening.{IsReopened, kept_of, pairs_of, use_cmp}
use Rattle.sc_disk.specs.Sound.{IsSound}
use Rattle.sc_disk.specs.Store.{Store, indexed, reserved, size_of as measure}
use Rattle.sc_disk.specs.declared.disk.Listed.{Listed}
use Rattle.sc_disk.specs.declared.disk_file.DiskFile.{DiskFile}
use Rattle.sc_model.specs.Evicting.{part_size}
use Rattle.sc_model.specs.Levels.{size_of}
use Rattle.sc_disk_pair.proofs.Joined.{Kind, kind_of}
use Rattle.sc_disk_pair.proofs.Placed.{placed-told}
use Rattle.sc_disk_pair.specs.Parts.{ArePlaced}
use Rattle.sc_disk_pair.specs.Twos.{IsJoint, TwoState, joined_state}
use Rattle.sc_disk_pair.specs.declared.pair_cache.PairCache.{PairCache}
use Rattle.sc_disk_pair.specs.declared.part.Part.TheVariants.{Main, Pre}
use Rattle.sc_store_disk.specs.DiskStores.{DiskStore, count_of, level_of, opened_store, state_of, store_of, told_files, unopened_store}
use Rattle.sc_store_disk.specs.Reopened.{IsReopenedSize, reopened}
use Rattle.sc_store_disk.specs.Shown.{Index, files_of}
use Rattle.sc_store_disk.specs.declared.holding.HeldSize.{HeldSize}
use Rattle.sc_store_disk.proofs.Counting.{counts, store-counted}
use Rattle.sc_store_disk.proofs.Lending.{store-sized}
use Rattle.sc_store_disk.proofs.Ordering.{reopened-only}
use Rattle.sc_store_disk.proofs.Sizes.{IsWhole, each-pair, sizes}
use Rattle.sc_store_disk.proofs.Within.{Stands, distinct_reopened, reopened_stand}

not_standing : (o : Option DiskFile) (b : List ℕ) → option_map (λ (file : DiskFile). file.bytes) o ≡ Some b → o ≡ None → ⊥
not_standing o b h e = cc

whole_kind : (f : DiskFiles) (q : List ℕ) (n : ℕ) → ArePlaced f → Stands f (q, n) → Kind q → IsWhole f (q, n)
whole_kind f q n placed s (inl (part, r, e)) = record { part = part; path = r; bytes = s.bytes; placed = e; stands = s.stands; size = s.size }
whole_kind f q n placed s (inr (apart, none)) = absurd (not_standing (disk_file_at f q) s.bytes s.stands (placed q none))

-- The files that an opening would keep are whole, and so all of them are told.
reopened_whole : (capacity : ℕ) (f : DiskFiles) → ArePlaced f → AllByRecursion (IsWhole f) (reopened capacity f)
reopened_whole capacity f placed = each-pair (IsWhole f) (reopened capacity f) (distinct_reopened capacity f) (λ q n h. whole_kind f q n placed (reopened_stand capacity f q n h) (kind_of q))

-- a listing's kept files, put in the order of use, are the only ones that an opening indexes
order_only : (capacity : ℕ) (f : DiskFiles) (all order : List Listed) → all ≡ listing f → IsPermutation (kept_of capacity all) order → IsSorted use_cmp order → suffix_within measure capacity (pairs_of order) ≡ reopened capacity f
unfolding IsReopened
order_only capacity f all order is same sorted =
    reopened-only capacity f (suffix_within measure capacity (pairs_of order)) (order, record { same = subst (λ (l : List Listed). IsPermutation (kept_of capacity l) order) is same; sorted = sorted }, refl)

told_bytes : (capacity : ℕ) (o : Option DiskRecord) (all : List Listed) (n : HeldSize) → IfTold o (λ r. ArePlaced (files_now r)) → IfTold o (λ r. all ≡ listing (files_now r)) → IsReopenedSize capacity all n → is_some o ≡ true
    → n.bytes ≡ size_of (files_of Main (reopened capacity (told_files o)) (told_files o)) + size_of (files_of Pre (reopened capacity (told_files o)) (told_files o))
told_bytes capacity None all n placed listed h t = cc
told_bytes capacity (Some r) all n placed listed h t =
    let f = files_now r in
    h.bytes ∙ ap (total measure) (order_only capacity f all h.order listed h.same h.sorted) ∙ sym (sizes (reopened capacity f) f (distinct_reopened capacity f) (reopened_whole capacity f placed))

told_count : (capacity : ℕ) (o : Option DiskRecord) (all : List Listed) (n : HeldSize) → IfTold o (λ r. ArePlaced (files_now r)) → IfTold o (λ r. all ≡ listing (files_now r)) → IsReopenedSize capacity all n → is_some o ≡ true
    → n.files ≡ count_of (files_of Main (reopened capacity (told_files o)) (told_files o)) + count_of (files_of Pre (reopened capacity (told_files o)) (told_files o))
told_count capacity None all n placed listed h t = cc
told_count capacity (Some r) all n placed listed h t =
    let f = files_now r in
    h.files ∙ ap (λ (es : Index). length es) (order_only capacity f all h.order listed h.same h.sorted) ∙ sym (counts (reopened capacity f) f (distinct_reopened capacity f) (reopened_whole capacity f placed))

-- the bytes and the number of the files of a store that tells them
pub record IsHeld (s : DiskStore) (n : HeldSize) : Type 0 where
  pub bytes : s.told ≡ true → n.bytes ≡ part_size s.level + s.reserved
  pub files : s.told ≡ true → n.files ≡ count_of s.level.main + count_of s.level.pre

store_held : (mode : CacheMode) (capacity : ℕ) (s : Store) (n : HeldSize) → IsSound s → IsDistinct bytes_eq (keys_of s.index) → IfTold s.disk.told (λ r. ArePlaced (files_now r)) → n.bytes ≡ indexed s + reserved s → n.files ≡ length s.index → IsHeld (opened_store mode capacity s) n
store_held mode capacity s n sound distinct placed bytes files = record {
  bytes = λ told. let sum : size_of (level_of true s.index s.disk).main + size_of (level_of true s.index s.disk).pre ≡ indexed s = store-sized s sound distinct placed told in omega (arith, bytes, sum);
  files = λ told. files ∙ sym (store-counted s sound distinct placed told);
}

pub opened-held : {D : Type 0} (mode : CacheMode) (capacity : ℕ) (o : Option (PairCache D)) (t : Option TwoState) (c : PairCache D) (n : HeldSize) → o ≡ Some c → IsSound c.store → IsDistinct bytes_eq (keys_of c.store.index)
    → IfTold c.store.disk.told (λ r. ArePlaced (files_now r)) → n.bytes ≡ indexed c.store + reserved c.store → n.files ≡ length c.store.index → IsHeld (store_of mode capacity o t) n
opened-held {D} mode capacity o t c n is sound distinct placed bytes files =
    subst (λ (x : Option (PairCache D)). IsHeld (store_of mode capacity x t) n) (sym is) (store_held mode capacity c.store n sound distinct placed bytes files)

disks_held : (mode : CacheMode) (capacity : ℕ) (d : TwoState) (all : List Listed) (n : HeldSize) → IfTold d.told (IsJoint d.main.told d.pre.told) → IsListing all (joined_state d) → IsReopenedSize capacity all n → IsHeld (unopened_store mode capacity (joined_state d)) n
disks_held mode capacity d all n joint listed h =
    let placed = placed-told d.told d.main.told d.pre.told joint in
    record {
      bytes = λ told. let sum : n.bytes ≡ part_size (unopened_store mode capacity (joined_state d)).level = told_bytes capacity d.told all n placed listed h told in omega (arith, sum);
      files = λ told. told_count capacity d.told all n placed listed h told;
    }

pub unopened-held : {D : Type 0} (mode : CacheMode) (capacity limit : ℕ) (o : Option (PairCache D)) (t : Option TwoState) (d : TwoState) (all : List Listed) (n : HeldSize) → o ≡ None → t ≡ Some d → limit ≡ capacity
    → IfTold d.told (IsJoint d.main.told d.pre.told) → IsListing all (joined_state d) → IsReopenedSize limit all n → IsHeld (store_of mode capacity o t) n
unopened-held {D} mode capacity limit o t d all n none some same joint listed h =
    subst (λ (x : Option (PairCache D)). IsHeld (store_of mode capacity x t) n) (sym none)
    (subst (λ (y : Option TwoState). IsHeld (unopened_store mode capacity (state_of y)) n) (sym some) (disks_held mode capacity d all n joint listed (subst (λ (k : ℕ). IsReopenedSize k all n) same h)))
