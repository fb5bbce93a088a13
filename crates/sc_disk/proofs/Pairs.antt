-- What changes of an index make of a key's size, and of the sum of the sizes.
use Rattle.std.proofs.Common.{◌≡◌, ℕ, zero, suc, ◌+◌, ◌-◌, ◌<◌, ◌≤◌, Bool, true, false, cond, bytes_eq, List, [], ◌∷◌, ◌++◌, length, drop, slice_get, Option, Some, None, refl, sym, ap, ◌∙◌, arith}
use Rattle.std.proofs.lemmas.Map.Keys.{IsDistinct-head, IsDistinct-tail}
use Rattle.std.specs.List.{IsDistinct, AllByRecursion}
use Rattle.std.specs.Map.{keys_of, lookup, lookup_entry, remove_entry}
use Rattle.std.specs.Option.{option_map_or}
use Rattle.sc_lru.proofs.Measures.{suffix_within-fits, total-cons, total-push}
use Rattle.sc_lru.specs.LruCache.{total, inserted}
use Rattle.sc_lru.specs.Order.{touched}
use Rattle.sc_disk.specs.Store.{filed, size_of}
use Rattle.sc_disk.proofs.Files.{same_path}

abbrev pub Index : Type 0
Index = List (List ℕ × ℕ)

abbrev pub pair : List ℕ → ℕ → List ℕ × ℕ
pair k r = (k, r)

-- no later pair has the first pair's key
apart_from : (k : List ℕ) (es : Index) → AllByRecursion (λ y. bytes_eq k y ≡ false) (keys_of es) → lookup (bytes_eq k) es ≡ None
apart_from k [] d = refl
apart_from k (x ∷ es) d = ap (λ b. cond b (Some x.1) (lookup (bytes_eq k) es)) d.0 ∙ apart_from k es d.1

pub absent_later : (e : List ℕ × ℕ) (es : Index) → IsDistinct bytes_eq (keys_of (e ∷ es)) → lookup (bytes_eq e.0) es ≡ None
absent_later e es d = apart_from e.0 es (IsDistinct-head bytes_eq e.0 (keys_of es) d)

later : (b : Bool) (v : ℕ) (o : Option ℕ) → cond b (Some v) o ≡ None → o ≡ None
later true v o h = cc
later false v o h = h

pub lookup-later : (q : List ℕ) (e : List ℕ × ℕ) (es : Index) → lookup (bytes_eq q) (e ∷ es) ≡ None → lookup (bytes_eq q) es ≡ None
lookup-later q e es h = later (bytes_eq q e.0) e.1 (lookup (bytes_eq q) es) h

pub lookup-push : (q k : List ℕ) (r : ℕ) (es : Index) → bytes_eq q k ≡ false → lookup (bytes_eq q) (es ++ pair k r ∷ []) ≡ lookup (bytes_eq q) es
lookup-push q k r [] h = ap (λ b. cond b (Some r) None) h
lookup-push q k r (e ∷ es) h = ap (cond (bytes_eq q e.0) (Some e.1)) (lookup-push q k r es h)

pub lookup-last : (q k : List ℕ) (r : ℕ) (es : Index) → bytes_eq q k ≡ true → lookup (bytes_eq q) es ≡ None → lookup (bytes_eq q) (es ++ pair k r ∷ []) ≡ Some r
lookup-last q k r [] t h = ap (λ b. cond b (Some r) None) t
lookup-last q k r (e ∷ es) t h = (elim (bytes_eq q e.0) as (λ y. cond y (Some e.1) (lookup (bytes_eq q) es) ≡ None → cond y (Some e.1) (lookup (bytes_eq q) (es ++ pair k r ∷ [])) ≡ Some r) [
  | true ↦ λ n. cc
  | false ↦ λ n. lookup-last q k r es t n
]) h

pub lookup-removed_other : (q k : List ℕ) (es : Index) → bytes_eq q k ≡ false → lookup (bytes_eq q) (remove_entry (bytes_eq k) es) ≡ lookup (bytes_eq q) es
lookup-removed_other q k [] h = refl
lookup-removed_other q k (e ∷ es) h = (elim (bytes_eq k e.0) as (λ y. bytes_eq k e.0 ≡ y → lookup (bytes_eq q) (cond (bytes_eq k e.0) es (e ∷ remove_entry (bytes_eq k) es)) ≡ cond (bytes_eq q e.0) (Some e.1) (lookup (bytes_eq q) es)) [
  | true ↦ λ u. let same = same_path k e.0 u in let no : bytes_eq q e.0 ≡ false = ap (bytes_eq q) (sym same) ∙ h in
      ap (λ b. lookup (bytes_eq q) (cond b es (e ∷ remove_entry (bytes_eq k) es))) u ∙ sym (ap (λ b. cond b (Some e.1) (lookup (bytes_eq q) es)) no)
  | false ↦ λ u. ap (λ b. lookup (bytes_eq q) (cond b es (e ∷ remove_entry (bytes_eq k) es))) u ∙ ap (cond (bytes_eq q e.0) (Some e.1)) (lookup-removed_other q k es h)
]) refl

pub lookup-removed : (q k : List ℕ) (es : Index) → bytes_eq q k ≡ true → IsDistinct bytes_eq (keys_of es) → lookup (bytes_eq q) (remove_entry (bytes_eq k) es) ≡ None
lookup-removed q k [] t d = refl
lookup-removed q k (e ∷ es) t d = let qk = same_path q k t in (elim (bytes_eq k e.0) as (λ y. bytes_eq k e.0 ≡ y → lookup (bytes_eq q) (cond (bytes_eq k e.0) es (e ∷ remove_entry (bytes_eq k) es)) ≡ None) [
  | true ↦ λ u. ap (λ b. lookup (bytes_eq q) (cond b es (e ∷ remove_entry (bytes_eq k) es))) u ∙ ap (λ n. lookup (bytes_eq n) es) (qk ∙ same_path k e.0 u) ∙ absent_later e es d
  | false ↦ λ u. let no : bytes_eq q e.0 ≡ false = ap (λ n. bytes_eq n e.0) qk ∙ u in
      ap (λ b. lookup (bytes_eq q) (cond b es (e ∷ remove_entry (bytes_eq k) es))) u ∙ ap (λ b. cond b (Some e.1) (lookup (bytes_eq q) (remove_entry (bytes_eq k) es))) no
      ∙ lookup-removed q k es t (IsDistinct-tail bytes_eq e.0 (keys_of es) d)
]) refl

pub removed-none : (k : List ℕ) (es : Index) → lookup (bytes_eq k) es ≡ None → remove_entry (bytes_eq k) es ≡ es
removed-none k [] h = refl
removed-none k (e ∷ es) h = (elim (bytes_eq k e.0) as (λ y. cond y (Some e.1) (lookup (bytes_eq k) es) ≡ None → cond y es (e ∷ remove_entry (bytes_eq k) es) ≡ e ∷ es) [
  | true ↦ λ n. cc
  | false ↦ λ n. ap (λ l. e ∷ l) (removed-none k es n)
]) h

-- a pair found is one of the list
entry_of : (k : List ℕ) (es : Index) (e : List ℕ × ℕ) → lookup_entry (bytes_eq k) es ≡ Some e → (bytes_eq k e.0 ≡ true) × (lookup (bytes_eq k) es ≡ Some e.1)
entry_of k [] e h = absurd (none e h)
  where
    none : (e : List ℕ × ℕ) → ◌≡◌ {A = Option (List ℕ × ℕ)} None (Some e) → ⊥
    none e h = cc
entry_of k (x ∷ es) e h = (elim (bytes_eq k x.0) as (λ y. bytes_eq k x.0 ≡ y → (bytes_eq k e.0 ≡ true) × (cond (bytes_eq k x.0) (Some x.1) (lookup (bytes_eq k) es) ≡ Some e.1)) [
  | true ↦ λ t. let is : x ≡ e = by_some x e (sym (ap (λ b. cond b (Some x) (lookup_entry (bytes_eq k) es)) t) ∙ h) in
      (ap (λ (p : List ℕ × ℕ). bytes_eq k p.0) (sym is) ∙ t, ap (λ b. cond b (Some x.1) (lookup (bytes_eq k) es)) t ∙ ap (λ (p : List ℕ × ℕ). Some p.1) is)
  | false ↦ λ t. let on = entry_of k es e (sym (ap (λ b. cond b (Some x) (lookup_entry (bytes_eq k) es)) t) ∙ h) in
      (on.0, ap (λ b. cond b (Some x.1) (lookup (bytes_eq k) es)) t ∙ on.1)
]) refl
  where
    by_some : (x e : List ℕ × ℕ) → Some x ≡ Some e → x ≡ e
    by_some x e h = cc

touched_as : (q k : List ℕ) (es : Index) (o : Option (List ℕ × ℕ)) → IsDistinct bytes_eq (keys_of es) → lookup_entry (bytes_eq k) es ≡ o
    → lookup (bytes_eq q) (option_map_or (λ e. remove_entry (bytes_eq k) es ++ e ∷ []) o es) ≡ lookup (bytes_eq q) es
touched_as q k es None d is = refl
touched_as q k es (Some e) d is = let p = entry_of k es e is in let same : k ≡ e.0 = same_path k e.0 p.0 in
    (elim (bytes_eq q k) as (λ y. bytes_eq q k ≡ y → lookup (bytes_eq q) (remove_entry (bytes_eq k) es ++ pair e.0 e.1 ∷ []) ≡ lookup (bytes_eq q) es) [
      | true ↦ λ t. lookup-last q e.0 e.1 (remove_entry (bytes_eq k) es) (ap (bytes_eq q) (sym same) ∙ t) (lookup-removed q k es t d) ∙ sym (ap (λ n. lookup (bytes_eq n) es) (same_path q k t) ∙ p.1)
      | false ↦ λ t. lookup-push q e.0 e.1 (remove_entry (bytes_eq k) es) (ap (bytes_eq q) (sym same) ∙ t) ∙ lookup-removed_other q k es t
    ]) refl

-- a use leaves each key's size
pub lookup-touched : (q k : List ℕ) (es : Index) → IsDistinct bytes_eq (keys_of es) → lookup (bytes_eq q) (touched (bytes_eq k) es) ≡ lookup (bytes_eq q) es
lookup-touched q k es d = touched_as q k es (lookup_entry (bytes_eq k) es) d refl

pub total-removed : (k : List ℕ) (es : Index) → total size_of (remove_entry (bytes_eq k) es) ≤ total size_of es
total-removed k [] = omega arith
total-removed k (e ∷ es) = (elim (bytes_eq k e.0) as (λ y. total size_of (cond y es (e ∷ remove_entry (bytes_eq k) es)) ≤ total size_of (e ∷ es)) [
  | true ↦ omega (arith, total-cons size_of e es)
  | false ↦ omega (arith, total-cons size_of e es, total-cons size_of e (remove_entry (bytes_eq k) es), total-removed k es)
])

pub total-filed : (k : List ℕ) (r : ℕ) (es : Index) → total size_of (filed k r es) ≤ total size_of es + r
total-filed k r es = let p = total-push size_of (remove_entry (bytes_eq k) es) (pair k r) in omega (arith, p, total-removed k es)

-- an insert that fits evicts nothing
pub inserted-filed : (k : List ℕ) (r n : ℕ) (es : Index) → total size_of es + r ≤ n → inserted size_of (bytes_eq k) n es k r ≡ filed k r es
inserted-filed k r n es h = suffix_within-fits size_of n (filed k r es) (omega (arith, total-filed k r es, h))

entry_none : (k : List ℕ) (es : Index) → lookup (bytes_eq k) es ≡ None → lookup_entry (bytes_eq k) es ≡ None
entry_none k [] h = refl
entry_none k (e ∷ es) h = (elim (bytes_eq k e.0) as (λ y. cond y (Some e.1) (lookup (bytes_eq k) es) ≡ None → cond y (Some e) (lookup_entry (bytes_eq k) es) ≡ None) [
  | true ↦ λ n. cc
  | false ↦ λ n. entry_none k es n
]) h

-- a use of a key that isn't there leaves the order
pub touched-none : (k : List ℕ) (es : Index) → lookup (bytes_eq k) es ≡ None → touched (bytes_eq k) es ≡ es
touched-none k es h = ap (λ o. option_map_or (λ e. remove_entry (bytes_eq k) es ++ e ∷ []) o es) (entry_none k es h)
