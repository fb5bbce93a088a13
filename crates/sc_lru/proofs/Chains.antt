-- What changes of the nodes make of the chain.
use Rattle.std.proofs.Common.{◌≡◌, ℕ, zero, suc, ◌-◌, ◌<◌, ◌≤◌, true, false, nat_eq, if◌then◌else◌, List, [], ◌∷◌, ◌++◌, length, reverse, refl, sym, ap, ◌∙◌, subst, inl, inr, arith, append_assoc, append-nil, Some}
use Rattle.std.proofs.lemmas.Bool.{eq-eqb}
use Rattle.std.proofs.lemmas.Bool.Decides.{eqb_tells}
use Rattle.std.proofs.lemmas.List.{reverse-append}
use Rattle.std.specs.Option.{option_map_or}
use Rattle.std.specs.Map.{keys_of, values_of}
use Rattle.std.specs.List.{slice_get, swap_remove}
use Rattle.std.proofs.Math.ListN.{set, take, get_or, length-set}
use Rattle.std.proofs.lemmas.List.{length-take}
use Rattle.indexmap.specs.IndexMap.{set_value_at}
use Rattle.sc_lru.specs.declared.node.Node.{Node}
use Rattle.sc_lru.specs.Linked.{item, node, Walk, Avoids, AllApart, AllBelow, end_redirected, after_at, before_at, change, with_after, with_before, pair_at, IsChain, after_redirected, before_redirected, skipped, first_skipped, last_skipped, mended}
use Rattle.sc_lru.proofs.Walks.{reverse-cut, reverse-twice, below-left, below-at, below-reverse, below-skip, below-join, below-right, below-less, apart-before, apart-behind, apart-skip, apart-put, apart-reverse, avoids-append, avoids-reverse, walk-agrees, agrees_all, agrees_but, agrees-below, walk_push, EndsAt, next_ends, Redirects, redirect_bound, skip_walk, rename_walk}

branch_same : {A : Type 0} (a b : ℕ) (x y : A) → a ≡ b → (if nat_eq a b then x else y) ≡ x
branch_same a b x y e = ap (λ t. if t then x else y) (eq-eqb a b e)

branch_other : {A : Type 0} (a b : ℕ) (x y : A) → (a ≡ b → ⊥) → (if nat_eq a b then x else y) ≡ y
branch_other a b x y d = elim (eqb_tells a b) [ inl t ↦ absurd (d t.1) | inr f ↦ ap (λ t. if t then x else y) f.0 ]

-- g stays g, where h reads the same
redirects_as : (f g g' : ℕ → ℕ) (a p q to : ℕ) → ((j : ℕ) → g' j ≡ g j) → Redirects f g a p q to → Redirects f g' a p q to
redirects_as f g g' a p q to s r = (λ e j. s j ∙ r.0 e j, λ d. let t = r.1 d in (s q ∙ t.0, λ j n. s j ∙ t.1 j n))

redirects_from : (f f' g : ℕ → ℕ) (a p q to : ℕ) → ((j : ℕ) → f j ≡ f' j) → Redirects f g a p q to → Redirects f' g a p q to
redirects_from f f' g a p q to s r = (λ e j. r.0 e j ∙ s j, λ d. let t = r.1 d in (t.0, λ j n. t.1 j n ∙ s j))

module _ {K V : Type 0} where
  -- ---- one node changed
  pub length-change : (es : List (K × Node V)) (i : ℕ) (f : Node V → Node V) → length (change es i f) ≡ length es
  length-change [] i f = refl
  length-change (e ∷ es) zero f = refl
  length-change (e ∷ es) (suc i) f = let on = length-change es i f in omega arith

  pub keys-change : (es : List (K × Node V)) (i : ℕ) (f : Node V → Node V) → keys_of (change es i f) ≡ keys_of es
  keys-change [] i f = refl
  keys-change (e ∷ es) zero f = refl
  keys-change (e ∷ es) (suc i) f = ap (λ l. e.0 ∷ l) (keys-change es i f)

  pub pair-change : (es : List (K × Node V)) (i : ℕ) (f : Node V → Node V) → ((n : Node V) → (f n).value ≡ n.value) → (j : ℕ) → pair_at (change es i f) j ≡ pair_at es j
  pair-change [] i f h j = refl
  pair-change (e ∷ es) zero f h zero = ap (λ v. Some (e.0, v)) (h e.1)
  pair-change (e ∷ es) zero f h (suc j) = refl
  pair-change (e ∷ es) (suc i) f h zero = refl
  pair-change (e ∷ es) (suc i) f h (suc j) = pair-change es i f h j

  pub after-set : (es : List (K × Node V)) (i w : ℕ) → i < length es → after_at (with_after es i w) i ≡ w
  after-set [] i w h = absurd (omega arith)
  after-set (e ∷ es) zero w h = refl
  after-set (e ∷ es) (suc i) w h = after-set es i w (omega arith)

  pub after-other : (es : List (K × Node V)) (i w j : ℕ) → (j ≡ i → ⊥) → after_at (with_after es i w) j ≡ after_at es j
  after-other [] i w j d = refl
  after-other (e ∷ es) zero w zero d = absurd (d refl)
  after-other (e ∷ es) zero w (suc j) d = refl
  after-other (e ∷ es) (suc i) w zero d = refl
  after-other (e ∷ es) (suc i) w (suc j) d = after-other es i w j (λ e. d (ap suc e))

  pub after-steady : (es : List (K × Node V)) (i w j : ℕ) → after_at (with_before es i w) j ≡ after_at es j
  after-steady [] i w j = refl
  after-steady (e ∷ es) zero w zero = refl
  after-steady (e ∷ es) zero w (suc j) = refl
  after-steady (e ∷ es) (suc i) w zero = refl
  after-steady (e ∷ es) (suc i) w (suc j) = after-steady es i w j

  pub before-set : (es : List (K × Node V)) (i w : ℕ) → i < length es → before_at (with_before es i w) i ≡ w
  before-set [] i w h = absurd (omega arith)
  before-set (e ∷ es) zero w h = refl
  before-set (e ∷ es) (suc i) w h = before-set es i w (omega arith)

  pub before-other : (es : List (K × Node V)) (i w j : ℕ) → (j ≡ i → ⊥) → before_at (with_before es i w) j ≡ before_at es j
  before-other [] i w j d = refl
  before-other (e ∷ es) zero w zero d = absurd (d refl)
  before-other (e ∷ es) zero w (suc j) d = refl
  before-other (e ∷ es) (suc i) w zero d = refl
  before-other (e ∷ es) (suc i) w (suc j) d = before-other es i w j (λ e. d (ap suc e))

  pub before-steady : (es : List (K × Node V)) (i w j : ℕ) → before_at (with_after es i w) j ≡ before_at es j
  before-steady [] i w j = refl
  before-steady (e ∷ es) zero w zero = refl
  before-steady (e ∷ es) zero w (suc j) = refl
  before-steady (e ∷ es) (suc i) w zero = refl
  before-steady (e ∷ es) (suc i) w (suc j) = before-steady es i w j

  pub after-change : (es : List (K × Node V)) (i : ℕ) (f : Node V → Node V) → ((n : Node V) → (f n).after ≡ n.after) → (j : ℕ) → after_at (change es i f) j ≡ after_at es j
  after-change [] i f h j = refl
  after-change (e ∷ es) zero f h zero = h e.1
  after-change (e ∷ es) zero f h (suc j) = refl
  after-change (e ∷ es) (suc i) f h zero = refl
  after-change (e ∷ es) (suc i) f h (suc j) = after-change es i f h j

  pub before-change : (es : List (K × Node V)) (i : ℕ) (f : Node V → Node V) → ((n : Node V) → (f n).before ≡ n.before) → (j : ℕ) → before_at (change es i f) j ≡ before_at es j
  before-change [] i f h j = refl
  before-change (e ∷ es) zero f h zero = h e.1
  before-change (e ∷ es) zero f h (suc j) = refl
  before-change (e ∷ es) (suc i) f h zero = refl
  before-change (e ∷ es) (suc i) f h (suc j) = before-change es i f h j

  pub item-change : (es : List (K × Node V)) (i : ℕ) (f : Node V → Node V) (e : K × Node V) → item es i ≡ Some e → item (change es i f) i ≡ Some (e.0, f e.1)
  item-change [] i f e h = cc
  item-change (d ∷ es) zero f e h = let same : d ≡ e = by_some d e h in ap (λ q. Some (q.0, f q.1)) same
    where
      by_some : (d e : K × Node V) → Some d ≡ Some e → d ≡ e
      by_some d e h = cc
  item-change (d ∷ es) (suc i) f e h = item-change es i f e h

  pub pair-other : (es : List (K × Node V)) (i : ℕ) (f : Node V → Node V) (j : ℕ) → (j ≡ i → ⊥) → pair_at (change es i f) j ≡ pair_at es j
  pair-other [] i f j d = refl
  pair-other (e ∷ es) zero f zero d = absurd (d refl)
  pair-other (e ∷ es) zero f (suc j) d = refl
  pair-other (e ∷ es) (suc i) f zero d = refl
  pair-other (e ∷ es) (suc i) f (suc j) d = pair-other es i f j (λ q. d (ap suc q))

  -- the chain stays, where no link changes
  pub chain-change : (es : List (K × Node V)) (i : ℕ) (f : Node V → Node V) → ((n : Node V) → (f n).after ≡ n.after) → ((n : Node V) → (f n).before ≡ n.before) → (first last : ℕ) (ps : List ℕ) → IsChain es first last ps → IsChain (change es i f) first last ps
  chain-change es i f a b first last ps c = record {
    below = subst (λ n. AllBelow n ps) (sym (length-change es i f)) c.below;
    apart = c.apart;
    forward = walk-agrees (after_at es) (after_at (change es i f)) first ps c.forward (agrees_all (after_at es) (after_at (change es i f)) ps (after-change es i f a));
    backward = walk-agrees (before_at es) (before_at (change es i f)) last (reverse ps) c.backward (agrees_all (before_at es) (before_at (change es i f)) (reverse ps) (before-change es i f b));
  }

  -- ---- a redirection
  module _ (es : List (K × Node V)) (end at q to : ℕ) where
    abbrev after_es : List (K × Node V)
    after_es = after_redirected es end at q to

    abbrev before_es : List (K × Node V)
    before_es = before_redirected es end at q to

    redirects_after : ((at ≡ end → ⊥) → q < length es) → Redirects (after_at es) (after_at after_es) end at q to
    redirects_after within = (
      λ e j. ap (λ l. after_at l j) (branch_same at end es (with_after es q to) e),
      λ d. let to_es = branch_other at end es (with_after es q to) d in
          (ap (λ l. after_at l q) to_es ∙ after-set es q to (within d), λ j n. ap (λ l. after_at l j) to_es ∙ after-other es q to j n),
    )

    redirects_before : ((at ≡ end → ⊥) → q < length es) → Redirects (before_at es) (before_at before_es) end at q to
    redirects_before within = (
      λ e j. ap (λ l. before_at l j) (branch_same at end es (with_before es q to) e),
      λ d. let to_es = branch_other at end es (with_before es q to) d in
          (ap (λ l. before_at l q) to_es ∙ before-set es q to (within d), λ j n. ap (λ l. before_at l j) to_es ∙ before-other es q to j n),
    )

    pub before_after_es : (j : ℕ) → before_at after_es j ≡ before_at es j
    before_after_es j = elim (nat_eq at end) as (λ y. before_at (if y then es else with_after es q to) j ≡ before_at es j) [ true ↦ refl | false ↦ before-steady es q to j ]

    pub after_before_es : (j : ℕ) → after_at before_es j ≡ after_at es j
    after_before_es j = elim (nat_eq at end) as (λ y. after_at (if y then es else with_before es q to) j ≡ after_at es j) [ true ↦ refl | false ↦ after-steady es q to j ]

    pub length_after_es : length after_es ≡ length es
    length_after_es = elim (nat_eq at end) as (λ y. length (if y then es else with_after es q to) ≡ length es) [ true ↦ refl | false ↦ length-change es q _ ]

    pub length_before_es : length before_es ≡ length es
    length_before_es = elim (nat_eq at end) as (λ y. length (if y then es else with_before es q to) ≡ length es) [ true ↦ refl | false ↦ length-change es q _ ]

    pub keys_after_es : keys_of after_es ≡ keys_of es
    keys_after_es = elim (nat_eq at end) as (λ y. keys_of (if y then es else with_after es q to) ≡ keys_of es) [ true ↦ refl | false ↦ keys-change es q _ ]

    pub keys_before_es : keys_of before_es ≡ keys_of es
    keys_before_es = elim (nat_eq at end) as (λ y. keys_of (if y then es else with_before es q to) ≡ keys_of es) [ true ↦ refl | false ↦ keys-change es q _ ]

    pub pair_after_es : (j : ℕ) → pair_at after_es j ≡ pair_at es j
    pair_after_es j = elim (nat_eq at end) as (λ y. pair_at (if y then es else with_after es q to) j ≡ pair_at es j) [ true ↦ refl | false ↦ pair-change es q _ (λ n. refl) j ]

    pub pair_before_es : (j : ℕ) → pair_at before_es j ≡ pair_at es j
    pair_before_es j = elim (nat_eq at end) as (λ y. pair_at (if y then es else with_before es q to) j ≡ pair_at es j) [ true ↦ refl | false ↦ pair-change es q _ (λ n. refl) j ]

  -- ---- a position skipped
  module _ (es : List (K × Node V)) (first last : ℕ) (xs : List ℕ) (p : ℕ) (ys : List ℕ) (c : IsChain es first last (xs ++ p ∷ ys)) where
    pub behind : Walk (before_at es) last (reverse ys ++ p ∷ reverse xs)
    behind = subst (Walk (before_at es) last) (reverse-cut xs p ys) c.backward

    pub before_ends : EndsAt (before_at es p) xs
    before_ends = subst (EndsAt (before_at es p)) (reverse-twice xs) (next_ends (before_at es) last (reverse ys) p (reverse xs) behind)

    pub after_ends : EndsAt (after_at es p) (reverse ys)
    after_ends = next_ends (after_at es) first xs p ys c.forward

    pub below_behind : AllBelow (length es) (reverse ys ++ p ∷ reverse xs)
    below_behind = subst (AllBelow (length es)) (reverse-cut xs p ys) (below-reverse (length es) (xs ++ p ∷ ys) c.below)

    pub apart_behind : AllApart (reverse ys ++ p ∷ reverse xs)
    apart_behind = subst AllApart (reverse-cut xs p ys) (apart-reverse (xs ++ p ∷ ys) c.apart)

    pub before_bound : (p ≡ first → ⊥) → before_at es p < length es
    before_bound = redirect_bound (after_at es) first p (before_at es p) (length es) xs ys c.forward before_ends (below-left (length es) xs (p ∷ ys) c.below)

    pub after_bound : (p ≡ last → ⊥) → after_at es p < length es
    after_bound = redirect_bound (before_at es) last p (after_at es p) (length es) (reverse ys) (reverse xs) behind after_ends (below-left (length es) (reverse ys) (p ∷ reverse xs) below_behind)

    pub skip_chain : IsChain (skipped es first last p) (first_skipped es first p) (last_skipped es last p) (xs ++ ys)
    skip_chain =
        let b = before_at es p in let a = after_at es p in
        let es1 = after_redirected es first p b a in let es2 = before_redirected es1 last p a b in
        let long1 = length_after_es es first p b a in let long2 : length es2 ≡ length es = length_before_es es1 last p a b ∙ long1 in
        let r1 = redirects_as (after_at es) (after_at es1) (after_at es2) first p b a (after_before_es es1 last p a b) (redirects_after es first p b a before_bound) in
        let r2 = redirects_from (before_at es1) (before_at es) (before_at es2) last p a b (before_after_es es first p b a) (redirects_before es1 last p a b (λ d. subst (λ n. a < n) (sym long1) (after_bound d))) in
        let back = skip_walk (before_at es) (before_at es2) last p a (reverse ys) (reverse xs) behind apart_behind after_ends r2 in
        record {
          below = subst (λ n. AllBelow n (xs ++ ys)) (sym long2) (below-skip (length es) xs p ys c.below);
          apart = apart-skip xs p ys c.apart;
          forward = skip_walk (after_at es) (after_at es2) first p b xs ys c.forward c.apart before_ends r1;
          backward = subst (Walk (before_at es2) (end_redirected last p b)) (sym (reverse-append xs ys)) back;
        }

  pub length-skipped : (es : List (K × Node V)) (first last p : ℕ) → length (skipped es first last p) ≡ length es
  length-skipped es first last p = length_before_es (after_redirected es first p (before_at es p) (after_at es p)) last p (after_at es p) (before_at es p) ∙ length_after_es es first p (before_at es p) (after_at es p)

  pub keys-skipped : (es : List (K × Node V)) (first last p : ℕ) → keys_of (skipped es first last p) ≡ keys_of es
  keys-skipped es first last p = keys_before_es (after_redirected es first p (before_at es p) (after_at es p)) last p (after_at es p) (before_at es p) ∙ keys_after_es es first p (before_at es p) (after_at es p)

  pub pair-skipped : (es : List (K × Node V)) (first last p j : ℕ) → pair_at (skipped es first last p) j ≡ pair_at es j
  pair-skipped es first last p j = pair_before_es (after_redirected es first p (before_at es p) (after_at es p)) last p (after_at es p) (before_at es p) j ∙ pair_after_es es first p (before_at es p) (after_at es p) j

  -- ---- the last node moved
  pub record IsMoved (es fs : List (K × Node V)) (m p : ℕ) : Type 0 where
    pub long : length fs ≡ m
    pub at : (p ≡ m → ⊥) → item fs p ≡ item es m
    pub stay : (j : ℕ) → j < m → (j ≡ p → ⊥) → item fs j ≡ item es j

  module _ (es fs : List (K × Node V)) (first last : ℕ) (us : List ℕ) (m : ℕ) (vs : List ℕ) (p : ℕ) (c : IsChain es first last (us ++ m ∷ vs)) (moved : IsMoved es fs m p) (long : length es ≡ suc m) (p_m : p < m) (away : Avoids p (us ++ vs)) where
    other_m : p ≡ m → ⊥
    other_m e = omega arith

    after_moved : after_at fs p ≡ after_at es m
    after_moved = ap (λ o. option_map_or (λ e. e.1.after) o 0) (moved.at other_m)

    before_moved : before_at fs p ≡ before_at es m
    before_moved = ap (λ o. option_map_or (λ e. e.1.before) o 0) (moved.at other_m)

    below_m : AllBelow m (us ++ vs)
    below_m = below-less (length es) m (us ++ vs) (omega arith) (below-skip (length es) us m vs c.below) (avoids-append m us vs (apart-before us m vs c.apart) (apart-behind us m vs c.apart))

    back_m : Walk (before_at es) last (reverse vs ++ m ∷ reverse us)
    back_m = behind es first last us m vs c

    pub mend_before_bound : (m ≡ first → ⊥) → before_at fs p < length fs
    mend_before_bound d =
        let low : before_at es m < m = redirect_bound (after_at es) first m (before_at es m) m us vs c.forward (before_ends es first last us m vs c) (below-left m us vs below_m) d in
        omega (arith, low, before_moved, moved.long)

    pub mend_after_bound : (m ≡ last → ⊥) → after_at fs p < length fs
    mend_after_bound d =
        let low : after_at es m < m = redirect_bound (before_at es) last m (after_at es m) m (reverse vs) (reverse us) back_m (after_ends es first last us m vs c) (below-reverse m vs (below-right m us vs below_m)) d in
        omega (arith, low, after_moved, moved.long)

    reversed : reverse vs ++ reverse us ≡ reverse (us ++ vs)
    reversed = sym (reverse-append us vs)

    pub mend_chain : IsChain (mended fs first last m p) (end_redirected first m p) (end_redirected last m p) (us ++ p ∷ vs)
    mend_chain =
        let b = before_at fs p in let a = after_at fs p in
        let fs1 = after_redirected fs first m b p in let fs2 = before_redirected fs1 last m a p in
        let long1 = length_after_es fs first m b p in let long2 : length fs2 ≡ m = length_before_es fs1 last m a p ∙ long1 ∙ moved.long in
        let r1 = redirects_as (after_at fs) (after_at fs1) (after_at fs2) first m b p (after_before_es fs1 last m a p) (redirects_after fs first m b p mend_before_bound) in
        let r2 = redirects_from (before_at fs1) (before_at fs) (before_at fs2) last m a p (before_after_es fs first m b p) (redirects_before fs1 last m a p (λ d. subst (λ n. a < n) (sym long1) (mend_after_bound d))) in
        let at_b : EndsAt b us = subst (λ q. EndsAt q us) (sym before_moved) (before_ends es first last us m vs c) in
        let at_a : EndsAt a (reverse vs) = subst (λ q. EndsAt q (reverse vs)) (sym after_moved) (after_ends es first last us m vs c) in
        let back = rename_walk (before_at es) (before_at fs) (before_at fs2) last m p a m (reverse vs) (reverse us) back_m (apart_behind es first last us m vs c) at_a
        (subst (Avoids p) (sym reversed) (avoids-reverse p (us ++ vs) away)) (subst (AllBelow m) (sym reversed) (below-reverse m (us ++ vs) below_m)) before_moved (λ j l d. ap (λ o. option_map_or (λ e. e.1.before) o 0) (moved.stay j l d)) r2 in
        record {
          below = subst (λ n. AllBelow n (us ++ p ∷ vs)) (sym long2) (below-join m us (p ∷ vs) (below-left m us vs below_m) (p_m, below-right m us vs below_m));
          apart = apart-put us p vs (apart-skip us m vs c.apart) away;
          forward = rename_walk (after_at es) (after_at fs) (after_at fs2) first m p b m us vs c.forward c.apart at_b away below_m after_moved (λ j l d. ap (λ o. option_map_or (λ e. e.1.after) o 0) (moved.stay j l d)) r1;
          backward = subst (Walk (before_at fs2) (end_redirected last m p)) (sym (reverse-cut us p vs)) back;
        }

  -- the chain stays, where the nodes on it do
  pub same_chain : (es fs : List (K × Node V)) (first last : ℕ) (ps : List ℕ) (m : ℕ) → IsChain es first last ps → AllBelow m ps → m ≤ length fs → ((j : ℕ) → j < m → item fs j ≡ item es j) → IsChain fs first last ps
  same_chain es fs first last ps m c below long stay = record {
    below = widen m (length fs) ps long below;
    apart = c.apart;
    forward = walk-agrees (after_at es) (after_at fs) first ps c.forward (agrees-below (after_at es) (after_at fs) m ps (λ j l. ap (λ o. option_map_or (λ e. e.1.after) o 0) (stay j l)) below);
    backward = walk-agrees (before_at es) (before_at fs) last (reverse ps) c.backward (agrees-below (before_at es) (before_at fs) m (reverse ps) (λ j l. ap (λ o. option_map_or (λ e. e.1.before) o 0) (stay j l)) (below-reverse m ps below));
  }
    where
      widen : (m n : ℕ) (ps : List ℕ) → m ≤ n → AllBelow m ps → AllBelow n ps
      widen m n [] l h = tt
      widen m n (x ∷ ps) l h = (let k : x < m = h.0 in omega arith, widen m n ps l h.1)

  -- the chain of one position
  pub one_chain : (es : List (K × Node V)) (p : ℕ) → p < length es → IsChain es p p (p ∷ [])
  one_chain es p h = record { below = (h, tt); apart = (tt, tt); forward = (refl, tt); backward = (refl, tt) }

  -- a position linked behind the last
  pub link_chain : (es : List (K × Node V)) (first last : ℕ) (zs : List ℕ) (b p : ℕ) → IsChain es first last (zs ++ b ∷ []) → p < length es → Avoids p (zs ++ b ∷ [])
      → IsChain (with_before (with_after es last p) p last) first p ((zs ++ b ∷ []) ++ p ∷ [])
  link_chain es first last zs b p c within away =
      let qs = zs ++ b ∷ [] in
      let back = subst (Walk (before_at es) last) (reverse-cut zs b []) c.backward in
      let end : last ≡ b = back.0 in
      let es1 = with_after es last p in let es2 = with_before es1 p last in
      let long1 = length-change es last (λ n. node n.before p n.value) in let long2 : length es2 ≡ length es = length-change es1 p (λ n. node last n.after n.value) ∙ long1 in
      let b_in : b < length es = below-at (length es) zs b [] c.below in
      let last_in : last < length es = subst (λ i. i < length es) (sym end) b_in in
      let but : (j : ℕ) → (j ≡ b → ⊥) → after_at es2 j ≡ after_at es j = λ j d. after-steady es1 p last j ∙ after-other es last p j (λ e. d (e ∙ end)) in
      let at_b : after_at es2 b ≡ p = after-steady es1 p last b ∙ ap (after_at es1) (sym end) ∙ after-set es last p last_in in
      let but' : (j : ℕ) → (j ≡ p → ⊥) → before_at es2 j ≡ before_at es j = λ j d. before-other es1 p last j d ∙ before-steady es last p j in
      let at_p : before_at es2 p ≡ last = before-set es1 p last (subst (λ n. p < n) (sym long1) within) in
      let back' : Walk (before_at es2) (before_at es2 p) (reverse qs) =
      walk-agrees (before_at es) (before_at es2) (before_at es2 p) (reverse qs) (subst (λ a. Walk (before_at es) a (reverse qs)) (sym at_p) c.backward) (agrees_but (before_at es) (before_at es2) p (reverse qs) but' (avoids-reverse p qs away)) in
      record {
        below = subst (λ n. AllBelow n (qs ++ p ∷ [])) (sym long2) (below-join (length es) qs (p ∷ []) c.below (within, tt));
        apart = apart-put qs p [] (subst AllApart (sym (append-nil qs)) c.apart) (subst (Avoids p) (sym (append-nil qs)) away);
        forward = subst (Walk (after_at es2) first) (sym (append_assoc zs (b ∷ []) (p ∷ []))) (walk_push (after_at es) (after_at es2) first zs b p c.forward at_b (agrees_but (after_at es) (after_at es2) b zs but (apart-before zs b [] c.apart)));
        backward = subst (Walk (before_at es2) p) (sym (reverse-cut qs p [])) (refl, back');
      }

-- a write of one field, as `map[i]` lends it
pub written : {K V : Type 0} (es : List (K × Node V)) (i : ℕ) (n : Node V) (f : Node V → Node V) → slice_get (values_of es) i ≡ Some n → set_value_at es i (f n) ≡ change es i f
written [] i n f h = refl
written (e ∷ es) zero n f h = let same : e.1 ≡ n = cc in ap (λ m. (e.0, f m) ∷ es) (sym same)
written (e ∷ es) (suc i) n f h = ap (λ l. e ∷ l) (written es i n f h)

module _ {X : Type 0} where
  item-take : (n : ℕ) (xs : List X) (j : ℕ) → j < n → item (take n xs) j ≡ item xs j
  item-take zero xs j h = absurd (omega arith)
  item-take (suc n) [] j h = refl
  item-take (suc n) (x ∷ xs) zero h = refl
  item-take (suc n) (x ∷ xs) (suc j) h = item-take n xs j (omega arith)

  item-set : (xs : List X) (i : ℕ) (v : X) → i < length xs → item (set xs i v) i ≡ Some v
  item-set [] i v h = absurd (omega arith)
  item-set (x ∷ xs) zero v h = refl
  item-set (x ∷ xs) (suc i) v h = item-set xs i v (omega arith)

  item-set_other : (xs : List X) (i : ℕ) (v : X) (j : ℕ) → (j ≡ i → ⊥) → item (set xs i v) j ≡ item xs j
  item-set_other [] i v j d = refl
  item-set_other (x ∷ xs) zero v zero d = absurd (d refl)
  item-set_other (x ∷ xs) zero v (suc j) d = refl
  item-set_other (x ∷ xs) (suc i) v zero d = refl
  item-set_other (x ∷ xs) (suc i) v (suc j) d = item-set_other xs i v j (λ e. d (ap suc e))

  item-get_or : (xs : List X) (i : ℕ) (d : X) → i < length xs → item xs i ≡ Some (get_or xs i d)
  item-get_or [] i d h = absurd (omega arith)
  item-get_or (x ∷ xs) zero d h = refl
  item-get_or (x ∷ xs) (suc i) d h = item-get_or xs i d (omega arith)

  pub item-slice_get : (xs : List X) (i : ℕ) → slice_get xs i ≡ item xs i
  item-slice_get [] i = refl
  item-slice_get (x ∷ xs) zero = refl
  item-slice_get (x ∷ xs) (suc i) = item-slice_get xs i

pub moved_from_swap_remove : {K V : Type 0} (es fs : List (K × Node V)) (p m : ℕ) (e : K × Node V) → fs ≡ swap_remove es p e → length es ≡ suc m → p < suc m → IsMoved es fs m p
moved_from_swap_remove es fs p m e h long within =
    let less : length es - 1 ≡ m = omega arith in
    let gs = set es p (get_or es (length es - 1) e) in
    let long_gs : length gs ≡ length es = length-set es p (get_or es (length es - 1) e) in
    record {
      long = ap length h ∙ omega (arith, long_gs, less, length-take (length es - 1) gs);
      at = λ d. ap (λ l. item l p) h ∙ item-take (length es - 1) gs p (omega arith) ∙ item-set es p (get_or es (length es - 1) e) (omega arith) ∙ sym (item-get_or es (length es - 1) e (omega arith)) ∙ ap (item es) less;
      stay = λ j l d. ap (λ l. item l j) h ∙ item-take (length es - 1) gs j (omega arith) ∙ item-set_other es p (get_or es (length es - 1) e) j d;
    }
