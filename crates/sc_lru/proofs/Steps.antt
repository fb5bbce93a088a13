-- What moving a position to the end and taking one out make of the chain and its pairs.
use Rattle.std.proofs.Common.{◌≡◌, ℕ, suc, ◌-◌, ◌<◌, List, [], ◌∷◌, ◌++◌, length, reverse, refl, sym, ap, ◌∙◌, subst, inl, inr, arith, append-nil, option_map, length-append}
use Rattle.std.proofs.lemmas.Bool.Decides.{eqb_tells}
use Rattle.std.specs.List.{swap_remove}
use Rattle.std.specs.Map.{keys_of}
use Rattle.indexmap.proofs.SetLemmas.{map-swap_remove}
use Rattle.sc_lru.specs.declared.node.Node.{Node}
use Rattle.sc_lru.specs.Linked.{item, node, Walk, Avoids, AllBelow, In, end_redirected, after_at, before_at, with_after, with_before, pair_at, pairs_at, IsChain, IsWhole, IsSame, MovesLast, TakesOut, skipped, first_skipped, last_skipped, mended, after_redirected}
use Rattle.sc_lru.proofs.Walks.{reverse-cut, reverse-twice, below-at, below-skip, below-less, apart-before, apart-behind, avoids-append, avoids-reverse, avoids-left, avoids-right, in-at, in-skip, in-put, in_cut, walk_start, ends}
use Rattle.sc_lru.proofs.Chains.{length-change, keys-change, pair-change, length-skipped, keys-skipped, pair-skipped, behind, skip_chain, link_chain, mend_chain, mend_before_bound, mend_after_bound, same_chain, IsMoved, moved_from_swap_remove, length_after_es, length_before_es, keys_after_es, keys_before_es, pair_after_es, pair_before_es}
use Rattle.sc_lru.proofs.Pairs.{pairs-append, pairs-same, pairs-below, onto}

avoids-drop : (i : ℕ) (xs : List ℕ) (p : ℕ) (ys : List ℕ) → Avoids i (xs ++ p ∷ ys) → Avoids i (xs ++ ys)
avoids-drop i [] p ys h = h.1
avoids-drop i (x ∷ xs) p ys h = (h.0, avoids-drop i xs p ys h.1)

module _ {K V : Type 0} where
  -- the last position is where the chain ends
  last_is_end : (es : List (K × Node V)) (first last : ℕ) (xs : List ℕ) (p : ℕ) (ys : List ℕ) → IsChain es first last (xs ++ p ∷ ys) → p ≡ last → ys ≡ []
  last_is_end es first last xs p ys c e =
      let w = behind es first last xs p ys c in
      elim (walk_start (before_at es) last p (reverse ys) (reverse xs) w (avoids-reverse p ys (apart-behind xs p ys c.apart))) [
        | inl d ↦ absurd (d (sym e))
        | inr r ↦ sym (reverse-twice ys) ∙ ap reverse r
      ]

  -- where the last is another, something is left
  skipped_end : (es : List (K × Node V)) (first last : ℕ) (xs : List ℕ) (p : ℕ) (ys : List ℕ) → IsChain es first last (xs ++ p ∷ ys) → (p ≡ last → ⊥) → (zs : List ℕ) × (b : ℕ) × (xs ++ ys ≡ zs ++ b ∷ [])
  skipped_end es first last xs p ys c d = elim (ends (xs ++ ys)) [
    | inl e ↦ absurd (none xs ys c e)
    | inr r ↦ r
  ]
    where
      none : (xs ys : List ℕ) → IsChain es first last (xs ++ p ∷ ys) → xs ++ ys ≡ [] → ⊥
      none [] [] c e = d (sym (c.backward.0))
      none [] (y ∷ ys) c e = cc
      none (x ∷ xs) ys c e = cc

  pub already_last : (es : List (K × Node V)) (first last at : ℕ) → at ≡ last → MovesLast es first last at es first
  already_last es first last at e xs ys c =
      let nil = last_is_end es first last xs at ys c e in
      let c1 = subst (λ l. IsChain es first last (xs ++ at ∷ l)) nil c in
      let same : xs ++ at ∷ [] ≡ (xs ++ ys) ++ at ∷ [] = ap (λ l. l ++ at ∷ []) (sym (append-nil xs) ∙ ap (λ l. xs ++ l) (sym nil)) in
      subst (IsChain es first at) same (subst (λ l. IsChain es first l (xs ++ at ∷ [])) (sym e) c1)

  module _ (es gs : List (K × Node V)) (first last at f1 l1 : ℕ) (to_gs : gs ≡ skipped es first last at) (to_f : f1 ≡ first_skipped es first at) (to_l : l1 ≡ last_skipped es last at) where
    pub long_gs : length gs ≡ length es
    long_gs = ap length to_gs ∙ length-skipped es first last at

    chain_gs : (xs ys : List ℕ) → IsChain es first last (xs ++ at ∷ ys) → IsChain gs f1 l1 (xs ++ ys)
    chain_gs xs ys c = subst (λ l. IsChain gs f1 l (xs ++ ys)) (sym to_l) (subst (λ f. IsChain gs f (last_skipped es last at) (xs ++ ys)) (sym to_f)
        (subst (λ l. IsChain l (first_skipped es first at) (last_skipped es last at) (xs ++ ys)) (sym to_gs) (skip_chain es first last xs at ys c)))

    pub last_bound : (xs ys : List ℕ) → IsChain es first last (xs ++ at ∷ ys) → (at ≡ last → ⊥) → l1 < length gs
    last_bound xs ys c d =
        let e = skipped_end es first last xs at ys c d in let zs = e.0 in let b = e.1 in
        let c1 = subst (IsChain gs f1 l1) e.2 (chain_gs xs ys c) in
        let back = subst (Walk (before_at gs) l1) (reverse-cut zs b []) c1.backward in
        subst (λ i. i < length gs) (sym back.0) (below-at (length gs) zs b [] c1.below)

    pub moves_last : (hs : List (K × Node V)) → hs ≡ with_before (with_after gs l1 at) at l1 → (at ≡ last → ⊥) → MovesLast es first last at hs f1
    moves_last hs to_hs d xs ys c =
        let e = skipped_end es first last xs at ys c d in let zs = e.0 in let b = e.1 in
        let c1 = subst (IsChain gs f1 l1) e.2 (chain_gs xs ys c) in
        let away = avoids-append at xs ys (apart-before xs at ys c.apart) (apart-behind xs at ys c.apart) in
        let linked = link_chain gs f1 l1 zs b at c1 (subst (λ n. at < n) (sym long_gs) (below-at (length es) xs at ys c.below)) (subst (Avoids at) e.2 away) in
        subst (λ l. IsChain l f1 at ((xs ++ ys) ++ at ∷ [])) (sym to_hs) (subst (λ l. IsChain (with_before (with_after gs l1 at) at l1) f1 at (l ++ at ∷ [])) (sym e.2) linked)

    pub moves_same : (hs : List (K × Node V)) → hs ≡ with_before (with_after gs l1 at) at l1 → IsSame es hs
    moves_same hs to_hs = record {
      long = ap length to_hs ∙ length-change (with_after gs l1 at) at (λ n. node l1 n.after n.value) ∙ length-change gs l1 (λ n. node n.before at n.value) ∙ long_gs;
      keys = ap keys_of to_hs ∙ keys-change (with_after gs l1 at) at (λ n. node l1 n.after n.value) ∙ keys-change gs l1 (λ n. node n.before at n.value) ∙ ap keys_of to_gs ∙ keys-skipped es first last at;
      pairs = λ j. ap (λ l. pair_at l j) to_hs ∙ pair-change (with_after gs l1 at) at (λ n. node l1 n.after n.value) (λ n. refl) j ∙ pair-change gs l1 (λ n. node n.before at n.value) (λ n. refl) j
          ∙ ap (λ l. pair_at l j) to_gs ∙ pair-skipped es first last at j;
    }

    module _ (hs : List (K × Node V)) (e : K × Node V) (to_hs : hs ≡ swap_remove gs at e) (within : at < length es) where
      abbrev m : ℕ
      m = length es - 1

      long_m : length gs ≡ suc m
      long_m = omega (arith, long_gs, within)

      pub moved : IsMoved gs hs m at
      moved = moved_from_swap_remove gs hs at m e to_hs long_m (omega arith)

      pairs_gs : (ps : List ℕ) → pairs_at gs ps ≡ pairs_at es ps
      pairs_gs ps = pairs-same es gs ps (λ j. ap (λ l. pair_at l j) to_gs ∙ pair-skipped es first last at j)

      -- the last node was taken
      pub takes_end : (was : ℕ) → was ≡ length hs → at ≡ was → TakesOut es first last at hs f1 l1
      takes_end was is_m same xs ys c w =
          let mv = moved in let at_m : at ≡ m = omega (arith, mv.long, is_m, same) in
          let c1 = chain_gs xs ys c in
          let away = avoids-append at xs ys (apart-before xs at ys c.apart) (apart-behind xs at ys c.apart) in
          let away_m = subst (λ i. Avoids i (xs ++ ys)) at_m away in
          let below = below-less (length es) m (xs ++ ys) (omega (arith, within)) (below-skip (length es) xs at ys c.below) away_m in
          let stay : (j : ℕ) → j < m → item hs j ≡ item gs j = λ j l. mv.stay j l (λ s. absurd (omega (arith, at_m, l, s))) in
          let long_ps : length (xs ++ at ∷ ys) ≡ length es = w.long in
          record {
            ps = xs ++ ys;
            chain = same_chain gs hs f1 l1 (xs ++ ys) m c1 below (omega (arith, mv.long)) stay;
            whole = record {
              long = omega (arith, mv.long, long_ps, length-append xs ys, length-append xs (at ∷ ys));
              covers = λ i l. in-skip i xs at ys (λ s. absurd (omega (arith, mv.long, at_m, l, s))) (w.covers i (omega (arith, mv.long, l)));
            };
            pairs = pairs-below gs hs m at (xs ++ ys) (λ j l d. ap (option_map (λ f. (f.0, f.1.value))) (mv.stay j l d)) below away ∙ pairs_gs (xs ++ ys);
          }

      -- where the last position is, if it is another
      last_cut : (xs ys : List ℕ) → IsWhole es (xs ++ at ∷ ys) → (at ≡ m → ⊥) → (us : List ℕ) × (vs : List ℕ) × (xs ++ ys ≡ us ++ m ∷ vs)
      last_cut xs ys w d = in_cut m (xs ++ ys) (in-skip m xs at ys d (w.covers m (omega (arith, within))))

      not_m : (was : ℕ) → was ≡ length hs → (at ≡ was → ⊥) → at ≡ m → ⊥
      not_m was is_m d s = d (let mv = moved in omega (arith, mv.long, is_m, s))

      away_from : (xs ys us vs : List ℕ) → IsChain es first last (xs ++ at ∷ ys) → xs ++ ys ≡ us ++ m ∷ vs → Avoids at (us ++ vs)
      away_from xs ys us vs c cut = avoids-drop at us m vs (subst (Avoids at) cut (avoids-append at xs ys (apart-before xs at ys c.apart) (apart-behind xs at ys c.apart)))

      pub before_gap : (was : ℕ) → was ≡ length hs → (at ≡ was → ⊥) → (xs ys : List ℕ) → IsChain es first last (xs ++ at ∷ ys) → IsWhole es (xs ++ at ∷ ys) → (was ≡ f1 → ⊥) → before_at hs at < length hs
      before_gap was is_m d xs ys c w n =
          let mv = moved in let dm = not_m was is_m d in let cut = last_cut xs ys w dm in let same : was ≡ m = omega (arith, mv.long, is_m) in
          mend_before_bound gs hs f1 l1 cut.0 m cut.1 at (subst (IsChain gs f1 l1) cut.2 (chain_gs xs ys c)) mv long_m (let o : at ≡ m → ⊥ = dm in omega (arith, within)) (away_from xs ys cut.0 cut.1 c cut.2) (λ s. n (same ∙ s))

      pub after_gap : (was : ℕ) → was ≡ length hs → (at ≡ was → ⊥) → (xs ys : List ℕ) → IsChain es first last (xs ++ at ∷ ys) → IsWhole es (xs ++ at ∷ ys) → (was ≡ l1 → ⊥) → after_at hs at < length hs
      after_gap was is_m d xs ys c w n =
          let mv = moved in let dm = not_m was is_m d in let cut = last_cut xs ys w dm in let same : was ≡ m = omega (arith, mv.long, is_m) in
          mend_after_bound gs hs f1 l1 cut.0 m cut.1 at (subst (IsChain gs f1 l1) cut.2 (chain_gs xs ys c)) mv long_m (let o : at ≡ m → ⊥ = dm in omega (arith, within)) (away_from xs ys cut.0 cut.1 c cut.2) (λ s. n (same ∙ s))

      pub takes_gap : (was f2 l2 : ℕ) (ks : List (K × Node V)) → was ≡ length hs → (at ≡ was → ⊥) → ks ≡ mended hs f1 l1 was at → f2 ≡ end_redirected f1 was at → l2 ≡ end_redirected l1 was at → TakesOut es first last at ks f2 l2
      takes_gap was f2 l2 ks is_m d to_ks to_f2 to_l2 xs ys c w =
          let mv = moved in let dm = not_m was is_m d in let cut = last_cut xs ys w dm in let us = cut.0 in let vs = cut.1 in
          let same : was ≡ m = omega (arith, mv.long, is_m) in
          let low : at < m = (let o : at ≡ m → ⊥ = dm in omega (arith, within)) in
          let away = away_from xs ys us vs c cut.2 in
          let mend = mend_chain gs hs f1 l1 us m vs at (subst (IsChain gs f1 l1) cut.2 (chain_gs xs ys c)) mv long_m low away in
          let to_ks' : ks ≡ mended hs f1 l1 m at = to_ks ∙ ap (λ n. mended hs f1 l1 n at) same in
          let to_f' : f2 ≡ end_redirected f1 m at = to_f2 ∙ ap (λ n. end_redirected f1 n at) same in
          let to_l' : l2 ≡ end_redirected l1 m at = to_l2 ∙ ap (λ n. end_redirected l1 n at) same in
          let fs1 = after_redirected hs f1 m (before_at hs at) at in
          let long_ks : length ks ≡ m = ap length to_ks' ∙ length_before_es fs1 l1 m (after_at hs at) at ∙ length_after_es hs f1 m (before_at hs at) at ∙ mv.long in
          let pair_ks : (j : ℕ) → pair_at ks j ≡ pair_at hs j = λ j. ap (λ l. pair_at l j) to_ks' ∙ pair_before_es fs1 l1 m (after_at hs at) at j ∙ pair_after_es hs f1 m (before_at hs at) at j in
          let below = below-less (length es) m (us ++ vs) (omega (arith, within)) (below-skip (length es) us m vs (subst (AllBelow (length es)) cut.2 (below-skip (length es) xs at ys c.below)))
          (let a = subst (λ l. IsChain gs f1 l1 l) cut.2 (chain_gs xs ys c) in avoids-append m us vs (apart-before us m vs a.apart) (apart-behind us m vs a.apart)) in
          let stay : (j : ℕ) → j < m → (j ≡ at → ⊥) → pair_at hs j ≡ pair_at gs j = λ j l n. ap (option_map (λ f. (f.0, f.1.value))) (mv.stay j l n) in
          let at_gap : pair_at hs at ≡ pair_at gs m = ap (option_map (λ f. (f.0, f.1.value))) (mv.at dm) in
          let long_ps : length (xs ++ at ∷ ys) ≡ length es = w.long in
          let long_cut = ap length cut.2 in
          record {
            ps = us ++ at ∷ vs;
            chain = subst (λ l. IsChain ks f2 l (us ++ at ∷ vs)) (sym to_l') (subst (λ f. IsChain ks f (end_redirected l1 m at) (us ++ at ∷ vs)) (sym to_f') (subst (λ l. IsChain l (end_redirected f1 m at) (end_redirected l1 m at) (us ++ at ∷ vs)) (sym to_ks') mend));
            whole = record {
              long = omega (arith, long_ks, long_ps, long_cut, length-append xs ys, length-append xs (at ∷ ys), length-append us (m ∷ vs), length-append us (at ∷ vs));
              covers = λ i l. elim (eqb_tells at i) [
                | inl t ↦ subst (λ j. In j (us ++ at ∷ vs)) t.1 (in-at us at vs)
                | inr f ↦ in-put i us at vs (in-skip i us m vs (λ s. absurd (omega (arith, long_ks, l, s))) (subst (In i) cut.2 (in-skip i xs at ys f.1 (w.covers i (omega (arith, long_ks, l))))))
              ];
            };
            pairs = pairs-same hs ks (us ++ at ∷ vs) pair_ks ∙ pairs-append hs us (at ∷ vs)
                ∙ (λ j. pairs-below gs hs m at us stay (left m us vs below) (avoids-left at us vs away) j ++ onto (at_gap j) (pairs-below gs hs m at vs stay (right m us vs below) (avoids-right at us vs away) j))
                ∙ sym (pairs-append gs us (m ∷ vs)) ∙ ap (pairs_at gs) (sym cut.2) ∙ pairs_gs (xs ++ ys);
          }
        where
          left : (n : ℕ) (us vs : List ℕ) → AllBelow n (us ++ vs) → AllBelow n us
          left n [] vs h = tt
          left n (u ∷ us) vs h = (h.0, left n us vs h.1)

          right : (n : ℕ) (us vs : List ℕ) → AllBelow n (us ++ vs) → AllBelow n vs
          right n [] vs h = h
          right n (u ∷ us) vs h = right n us vs h.1

      pub keys_gap : (was : ℕ) (ks : List (K × Node V)) → ks ≡ mended hs f1 l1 was at → keys_of ks ≡ keys_of hs
      keys_gap was ks to_ks = ap keys_of to_ks ∙ keys_before_es (after_redirected hs f1 was (before_at hs at) at) l1 was (after_at hs at) at ∙ keys_after_es hs f1 was (before_at hs at) at

      pub keys_taken : keys_of hs ≡ swap_remove (keys_of es) at e.0
      keys_taken = ap keys_of to_hs ∙ map-swap_remove (λ (f : K × Node V). f.0) gs at e (omega (arith, long_gs, within)) ∙ ap (λ l. swap_remove l at e.0) (ap keys_of to_gs ∙ keys-skipped es first last at)
