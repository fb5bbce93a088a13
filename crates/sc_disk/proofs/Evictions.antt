-- Evictions one after another.
use Rattle.std.proofs.Common.{◌≡◌, ◌⊎◌, inl, inr, ℕ, zero, suc, ◌+◌, ◌-◌, ◌<◌, ◌≤◌, List, [], ◌∷◌, ◌++◌, length, take, drop, slice_get, Option, Some, None, refl, sym, ap, ◌∙◌, subst, arith, append_assoc}
use native.Mathlib.Decide.{dec_lt}
use Rattle.sc_lru.specs.LruCache.{total}
use Rattle.sc_disk.specs.Disks.{DiskState, Does}
use Rattle.sc_disk.specs.Opening.{Drops}
use Rattle.sc_disk.specs.Store.{Store, gone, firsts, Evicts, Needed, size_of}
use Rattle.sc_disk.specs.declared.change.Change.{Change}
use Rattle.sc_disk.specs.declared.change.Change.TheVariants.{Gone}
use Rattle.sc_disk.proofs.Doing.{does-after, does-as, does-none}
use Rattle.sc_disk.proofs.Pairs.{Index}

append-nil : {X : Type 0} (xs : List X) → xs ++ [] ≡ xs
append-nil [] = refl
append-nil (x ∷ xs) = ap (λ l. x ∷ l) (append-nil xs)

pub gone-append : (ks ls : List (List ℕ)) → gone (ks ++ ls) ≡ gone ls ++ gone ks
gone-append [] ls = sym (append-nil (gone ls))
gone-append (k ∷ ks) ls = ap (λ l. l ++ Gone k ∷ []) (gone-append ks ls) ∙ append_assoc (gone ls) (gone ks) (Gone k ∷ [])

pub firsts-one : (es : Index) (e : List ℕ × ℕ) → Some e ≡ slice_get es 0 → firsts 1 es ≡ e.0 ∷ []
firsts-one [] e is = cc
firsts-one (x ∷ es) e is = ap (λ (p : List ℕ × ℕ). p.0 ∷ []) (sym (by_some e x is))
  where
    by_some : (e x : List ℕ × ℕ) → Some e ≡ Some x → e ≡ x
    by_some e x h = cc

pub firsts-more : (n : ℕ) (es : Index) → firsts (suc n) es ≡ firsts n es ++ firsts 1 (drop n es)
firsts-more zero [] = refl
firsts-more (suc n) [] = refl
firsts-more zero (e ∷ es) = refl
firsts-more (suc n) (e ∷ es) = ap (λ l. e.0 ∷ l) (firsts-more n es)

pub drop-more : (n : ℕ) (es : Index) → drop 1 (drop n es) ≡ drop (suc n) es
drop-more zero [] = refl
drop-more (suc n) [] = refl
drop-more zero (e ∷ es) = refl
drop-more (suc n) (e ∷ es) = drop-more n es

pub Evicts-none : (s : Store) → Evicts 0 s s
Evicts-none s = record { index = refl; spare = omega arith; pending = refl; capacity = refl; disk = does-none s.disk }

pub Evicts-more : (n : ℕ) (a b c : Store) → Evicts n a b → Evicts 1 b c → Evicts (suc n) a c
Evicts-more n a b c p q = record {
  index = q.index ∙ ap (drop 1) p.index ∙ drop-more n a.index;
  spare = omega (arith, p.spare, q.spare);
  pending = q.pending ∙ p.pending;
  capacity = q.capacity ∙ p.capacity;
  disk = let go : gone (firsts 1 b.index) ++ gone (firsts n a.index) ≡ gone (firsts (suc n) a.index) = ap (λ l. gone (firsts 1 l) ++ gone (firsts n a.index)) p.index ∙ sym (gone-append (firsts n a.index) (firsts 1 (drop n a.index))) ∙ ap gone (sym (firsts-more n a.index)) in
      subst (λ xs. Does xs a.disk c.disk) go (does-after a.disk b.disk c.disk (gone (firsts n a.index)) (gone (firsts 1 b.index)) p.disk q.disk);
}

pub Needed-none : (limit : ℕ) (es : Index) → Needed limit 0 es
Needed-none limit es = λ m h. absurd (omega arith)

pub Needed-more : (limit n : ℕ) (es fs : Index) → fs ≡ drop n es → limit < total size_of fs → Needed limit n es → Needed limit (suc n) es
Needed-more limit n es fs is over h = λ m l. elim (dec_lt m n) [
  | Prim.yes less ↦ h m less
  | Prim.no not_less ↦ let same : m ≡ n = omega arith in subst (λ i. limit < total size_of (drop i es)) (sym same) (omega (arith, over, ap (total size_of) is))
]

pub Drops-none : (es : Index) (d : DiskState) → Drops 0 es es d d
Drops-none es d = record { entries = refl; disk = does-none d }

pub Drops-more : (n : ℕ) (es fs gs : Index) (a b c : DiskState) → Drops n es fs a b → Drops 1 fs gs b c → Drops (suc n) es gs a c
Drops-more n es fs gs a b c p q = record {
  entries = q.entries ∙ ap (drop 1) p.entries ∙ drop-more n es;
  disk = let go : gone (firsts 1 fs) ++ gone (firsts n es) ≡ gone (firsts (suc n) es) = ap (λ l. gone (firsts 1 l) ++ gone (firsts n es)) p.entries ∙ sym (gone-append (firsts n es) (firsts 1 (drop n es))) ∙ ap gone (sym (firsts-more n es)) in
      subst (λ xs. Does xs a c) go (does-after a b c (gone (firsts n es)) (gone (firsts 1 fs)) p.disk q.disk);
}
