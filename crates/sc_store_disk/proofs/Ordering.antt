-- The files that an opening keeps have one order of use.
use Rattle.std.proofs.Common.{◌≡◌, ℕ, zero, suc, ◌+◌, Bool, true, false, cond, List, [], ◌∷◌, get_or, refl, sym, ap, ◌∙◌, subst, arith}
use Rattle.std.proofs.lemmas.List.Sorted.{IsPermutation-cons, IsPermutation-middle, IsPermutation-refl, IsPermutation-sym, IsPermutation-trans, ranks_by}
use Rattle.std.specs.Cmp.{IsStrictWeakOrder, IsTotalOrder, nat_cmp_total, on_total, then_total}
use Rattle.std.specs.Cmp.Lexicographic.{nat_list_cmp_total}
use Rattle.std.specs.List.Sorted.{IsPermutation, IsSortedBy}
use Rattle.std.specs.Ordering.{is_lt}
use Rattle.sc_lru.specs.LruCache.{suffix_within}
use Rattle.sc_disk.specs.Disks.{DiskFiles, listing}
use Rattle.sc_disk.specs.Opening.{IsReopened, IsUseOrder, kept_of, pairs_of, use_cmp}
use Rattle.sc_disk.specs.Store.{size_of}
use Rattle.sc_disk.specs.declared.disk.Listed.{Listed}
use Rattle.sc_disk.proofs.Remaining.{rises-order}
use Rattle.sc_disk.proofs.Rising.{OneWay, in-perm, perm-in, same-rising, sorted-first, sorted-rest}
use Rattle.sc_store_disk.specs.Reopened.{in_use_order, put_by_use, reopened}
use Rattle.sc_store_disk.specs.Shown.{Index}

abbrev by_use : Listed → Listed → Bool
by_use a b = is_lt (use_cmp a b)

use_total : IsTotalOrder use_cmp
use_total = then_total (on_total (λ (e : Listed). e.moment) nat_cmp_total) (then_total (on_total (λ (e : Listed). e.path) nat_list_cmp_total) (on_total (λ (e : Listed). e.size) nat_cmp_total))

use_order : IsStrictWeakOrder by_use
use_order = ranks_by use_total (λ (e : Listed). e)

use_way : OneWay by_use
use_way = use_order.one_way

-- one element before others that are in order
sorted-before : (x y : Listed) (ys : List Listed) → by_use y x ≡ false → IsSortedBy by_use (y ∷ ys) → IsSortedBy by_use (x ∷ y ∷ ys)
sorted-before x y ys first rest zero d low bound = first
sorted-before x y ys first rest (suc k) d low bound =
    let n : suc k + 1 ≡ suc (k + 1) = omega arith in
    subst (λ (i : ℕ). by_use (get_or (x ∷ y ∷ ys) i d) (get_or (y ∷ ys) k d) ≡ false) (sym n) (rest k d (omega arith) (omega (arith, bound)))

sorted-alone : (x : Listed) → IsSortedBy by_use (x ∷ [])
sorted-alone x k d low bound = absurd (omega (arith, bound))

put_behind : (x e : Listed) (xs : List Listed) → by_use x e ≡ true → IsSortedBy by_use (x ∷ xs) → IsSortedBy by_use (put_by_use e xs) → IsSortedBy by_use (x ∷ put_by_use e xs)
put_behind x e [] below all rest = sorted-before x e [] (use_way x e below) rest
put_behind x e (y ∷ ys) below all rest = (elim (by_use y e) as (λ t. IsSortedBy by_use (cond t (y ∷ put_by_use e ys) (e ∷ y ∷ ys)) → IsSortedBy by_use (x ∷ cond t (y ∷ put_by_use e ys) (e ∷ y ∷ ys))) [
  | true ↦ λ s. sorted-before x y (put_by_use e ys) (sorted-first by_use use_order x (y ∷ ys) all).0 s
  | false ↦ λ s. sorted-before x e (y ∷ ys) (use_way x e below) s
]) rest

sorted-put : (e : Listed) (xs : List Listed) → IsSortedBy by_use xs → IsSortedBy by_use (put_by_use e xs)
sorted-put e [] s = sorted-alone e
sorted-put e (x ∷ xs) s = (elim (by_use x e) as (λ t. by_use x e ≡ t → IsSortedBy by_use (cond t (x ∷ put_by_use e xs) (e ∷ x ∷ xs))) [
  | true ↦ λ t. put_behind x e xs t s (sorted-put e xs (sorted-rest by_use x xs s))
  | false ↦ λ t. sorted-before e x xs t s
]) refl

sorted-none : IsSortedBy by_use []
sorted-none k d low bound = absurd (omega (arith, bound))

sorted-order : (es : List Listed) → IsSortedBy by_use (in_use_order es)
sorted-order [] = sorted-none
sorted-order (e ∷ es) = sorted-put e (in_use_order es) (sorted-order es)

same-put : (e : Listed) (xs : List Listed) → IsPermutation (e ∷ xs) (put_by_use e xs)
same-put e [] = IsPermutation-refl (e ∷ [])
same-put e (x ∷ xs) = (elim (by_use x e) as (λ t. IsPermutation (e ∷ x ∷ xs) (cond t (x ∷ put_by_use e xs) (e ∷ x ∷ xs))) [
  | true ↦ IsPermutation-trans (e ∷ x ∷ xs) (x ∷ e ∷ xs) (x ∷ put_by_use e xs) (IsPermutation-sym (x ∷ e ∷ xs) (e ∷ x ∷ xs) (IsPermutation-middle (x ∷ []) e xs)) (IsPermutation-cons x (e ∷ xs) (put_by_use e xs) (same-put e xs))
  | false ↦ IsPermutation-refl (e ∷ x ∷ xs)
])

pub same-order : (es : List Listed) → IsPermutation es (in_use_order es)
same-order [] = IsPermutation-refl []
same-order (e ∷ es) = IsPermutation-trans (e ∷ es) (e ∷ in_use_order es) (put_by_use e (in_use_order es)) (IsPermutation-cons e es (in_use_order es) (same-order es)) (same-put e (in_use_order es))

use-order : (capacity : ℕ) (f : DiskFiles) → IsUseOrder capacity f (in_use_order (kept_of capacity (listing f)))
use-order capacity f = record { same = same-order (kept_of capacity (listing f)); sorted = sorted-order (kept_of capacity (listing f)) }

one_order : (capacity : ℕ) (f : DiskFiles) (a b : List Listed) → IsUseOrder capacity f a → IsUseOrder capacity f b → a ≡ b
one_order capacity f a b s t = same-rising by_use use_way a b (rises-order capacity f a s) (rises-order capacity f b t)
    (λ z i. in-perm (kept_of capacity (listing f)) b t.same z (perm-in (kept_of capacity (listing f)) a s.same z i))
    (λ z i. in-perm (kept_of capacity (listing f)) a s.same z (perm-in (kept_of capacity (listing f)) b t.same z i))

-- it is what an opening indexes, and nothing else is
pub reopened-is : (capacity : ℕ) (f : DiskFiles) → IsReopened capacity f (reopened capacity f)
unfolding IsReopened reopened
reopened-is capacity f = (in_use_order (kept_of capacity (listing f)), use-order capacity f, refl)

pub reopened-only : (capacity : ℕ) (f : DiskFiles) (index : Index) → IsReopened capacity f index → index ≡ reopened capacity f
unfolding IsReopened reopened
reopened-only capacity f index r = r.2 ∙ ap (λ order. suffix_within size_of capacity (pairs_of order)) (one_order capacity f r.0 (in_use_order (kept_of capacity (listing f))) r.1 (use-order capacity f))
