-- What a second opening indexes, where a first one had removed some of the files.
use Rattle.std.proofs.Common.{◌≡◌, ◌⊎◌, inl, inr, ℕ, zero, suc, ◌≤◌, List, [], ◌∷◌, ◌++◌, refl, sym, ap, ◌∙◌, subst, arith, append_assoc}
use Rattle.sc_disk.specs.Disks.{DiskFiles, listing, replay}
use Rattle.sc_disk.specs.Opening.{Begins, IsReopened, IsUseOrder, dropped_of, pairs_of, paths_of}
use Rattle.sc_disk.specs.Store.{Needed, firsts, gone}
use Rattle.sc_disk.specs.declared.disk.Listed.{Listed}
use Rattle.sc_disk.proofs.Pairs.{Index}
use Rattle.sc_disk.proofs.Remaining.{reopened-left, reopened-same}
use Rattle.sc_disk.proofs.Rising.{In}

abbrev Path : Type 0
Path = List ℕ

head_of : (x y : Path) (us vs : List Path) → x ∷ us ≡ y ∷ vs → x ≡ y
head_of x y us vs h = cc

tail_of : (x y : Path) (us vs : List Path) → x ∷ us ≡ y ∷ vs → us ≡ vs
tail_of x y us vs h = cc

not_empty : (x : Path) (us : List Path) → x ∷ us ≡ [] → ⊥
not_empty x us h = cc

-- a front of two lists together
split : (ls rs us vs : List Path) → ls ++ rs ≡ us ++ vs → ((ws : List Path) × (ls ++ ws ≡ us)) ⊎ ((ws : List Path) × (ls ≡ us ++ ws) × (ws ++ rs ≡ vs))
split [] rs us vs h = inl (us, refl)
split (l ∷ ls) rs [] vs h = inr (l ∷ ls, refl, h)
split (l ∷ ls) rs (u ∷ us) vs h = let first : l ≡ u = head_of l u (ls ++ rs) (us ++ vs) h in elim (split ls rs us vs (tail_of l u (ls ++ rs) (us ++ vs) h)) [
  | inl p ↦ inl (p.0, (λ i. first i ∷ p.1 i))
  | inr p ↦ inr (p.0, (λ i. first i ∷ p.1 i), p.2)
]

front-in : (ls ws : List Path) (k : Path) → In k ls → In k (ls ++ ws)
front-in [] ws k i = absurd i
front-in (l ∷ ls) ws k (inl e) = inl e
front-in (l ∷ ls) ws k (inr i) = inr (front-in ls ws k i)

back-in : (ls ws : List Path) (k : Path) → In k ws → In k (ls ++ ws)
back-in [] ws k i = i
back-in (l ∷ ls) ws k i = inr (back-in ls ws k i)

either-in : (ls ws : List Path) (k : Path) → In k (ls ++ ws) → In k ls ⊎ In k ws
either-in [] ws k i = inr i
either-in (l ∷ ls) ws k (inl e) = inl (inl e)
either-in (l ∷ ls) ws k (inr i) = elim (either-in ls ws k i) [ inl j ↦ inl (inr j) | inr j ↦ inr j ]

firsts-none : (es : Index) → [] ≡ firsts 0 es
firsts-none [] = refl
firsts-none (e ∷ es) = refl

-- a front of the first keys
firsts-front : (us rs : List Path) (n : ℕ) (es : Index) → us ++ rs ≡ firsts n es → (m : ℕ) × (m ≤ n) × (us ≡ firsts m es)
firsts-front [] rs n es h = (0, omega arith, firsts-none es)
firsts-front (u ∷ us) rs zero [] h = absurd (not_empty u (us ++ rs) h)
firsts-front (u ∷ us) rs zero (e ∷ es) h = absurd (not_empty u (us ++ rs) h)
firsts-front (u ∷ us) rs (suc n) [] h = absurd (not_empty u (us ++ rs) h)
firsts-front (u ∷ us) rs (suc n) (e ∷ es) h = let first : u ≡ e.0 = head_of u e.0 (us ++ rs) (firsts n es) h in let on = firsts-front us rs n es (tail_of u e.0 (us ++ rs) (firsts n es) h) in
    (suc on.0, omega (arith, on.1), (λ i. first i ∷ on.2 i))

abbrev dropped : ℕ → DiskFiles → List Path
dropped capacity f = paths_of (dropped_of capacity (listing f))

-- what the second opening indexes, where the first had removed a front of those that it doesn't keep
again-early : (capacity : ℕ) (f : DiskFiles) (ls ws : List Path) (index : Index) → ls ++ ws ≡ dropped capacity f → IsReopened capacity (replay f (gone ls)) index → IsReopened capacity f index
again-early capacity f ls ws index front r = reopened-same capacity f ls index (λ k i. subst (In k) front (front-in ls ws k i)) r

-- and where it may have evicted some
pub again-late : (capacity n : ℕ) (f : DiskFiles) (order : List Listed) (ls rs removed : List Path) (index : Index) → IsUseOrder capacity f order → Needed capacity n (pairs_of order) → removed ≡ dropped capacity f ++ firsts n (pairs_of order) → ls ++ rs ≡ removed
    → IsReopened capacity (replay f (gone ls)) index → IsReopened capacity f index
again-late capacity n f order ls rs removed index o needed is front r = elim (split ls rs (dropped capacity f) (firsts n (pairs_of order)) (front ∙ is)) [
  | inl p ↦ again-early capacity f ls p.0 index p.1 r
  | inr p ↦ let m = firsts-front p.0 rs n (pairs_of order) p.2 in
      let all : ls ≡ dropped capacity f ++ firsts m.0 (pairs_of order) = p.1 ∙ ap (λ l. dropped capacity f ++ l) m.2 in
      reopened-left capacity f order m.0 ls index o (λ j l. needed j (omega (arith, l, m.1)))
      (λ k i. either-in (dropped capacity f) (firsts m.0 (pairs_of order)) k (subst (In k) all i))
      (λ k i. subst (In k) (sym all) (back-in (dropped capacity f) (firsts m.0 (pairs_of order)) k i)) r
]

pub again-refused : (capacity : ℕ) (f : DiskFiles) (removed ls rs : List Path) (index : Index) → Begins capacity removed f → ls ++ rs ≡ removed → IsReopened capacity (replay f (gone ls)) index → IsReopened capacity f index
again-refused capacity f removed ls rs index (inl p) front r = again-early capacity f ls (rs ++ p.0) index (sym (append_assoc ls rs p.0) ∙ ap (λ l. l ++ p.0) front ∙ p.1) r
again-refused capacity f removed ls rs index (inr p) front r = again-late capacity p.1 f p.0 ls rs removed index p.2 p.3 p.4 front r
