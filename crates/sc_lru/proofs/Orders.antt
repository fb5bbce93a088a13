-- What a linked order's pairs become.
use Rattle.std.proofs.Common.{◌≡◌, ℕ, zero, suc, ◌+◌, ◌<◌, Bool, true, false, List, [], ◌∷◌, ◌++◌, length, slice_get, swap_remove, position, is_some, refl, sym, ap, ◌∙◌, subst, inl, inr, arith, append_assoc, append-nil, Option, Some, None, option_map, length-append}
use Rattle.std.proofs.lemmas.Bool.Decides.{eqb_tells}
use Rattle.std.specs.Option.{option_map_or}
use Rattle.std.specs.Cmp.{IsEquivalence}
use Rattle.std.specs.List.{IsDistinct}
use Rattle.std.specs.Map.{keys_of, values_of, lookup, lookup_entry, remove_entry, set_value, IsKeyTest}
use Rattle.std.proofs.lemmas.Map.{NonePasses as Passes}
use Rattle.std.proofs.lemmas.Map.Entries.{none_past_head}
use Rattle.indexmap.proofs.MapLemmas.{some_index, Found-position}
use Rattle.sc_lru.specs.declared.node.Node.{Node}
use Rattle.sc_lru.specs.Order.{touched, vacated}
use Rattle.sc_lru.specs.Linked.{item, node, chase, Walk, Avoids, AllBelow, In, after_at, before_at, with_after, with_before, with_value, pair_at, pairs_at, places, pairs_of, IsChain, IsWhole, IsSame, MovesLast, TakesOut, IsChained, IsPlaced, IsLinked}
use Rattle.sc_lru.proofs.Cut.{hit_set, IsCut, hit, NonePasses, cut_position, none_from_is_some}
use Rattle.sc_lru.proofs.Walks.{below-left, below-right, apart-before, apart-behind, chase-walk, in_cut, in-put, in-at, below-at, ends, avoids_above, reverse-cut}
use Rattle.sc_lru.proofs.Chains.{chain-change, item-change, pair-other, same_chain, link_chain, length-change, pair-change, keys-change}
use Rattle.sc_lru.proofs.Pairs.{pairs-append, pairs-same, pairs-below, pairs-cut, cut_pairs, none_anywhere, item_cut, length-pairs, distinct_pairs}

module _ {K V : Type 0} where
  pub places_are : (es : List (K × Node V)) (first last : ℕ) (ps : List ℕ) → IsChain es first last ps → IsWhole es ps → places es first ≡ ps
  places_are es first last ps c w = ap (λ n. chase n (after_at es) first) (sym w.long) ∙ chase-walk (after_at es) first ps c.forward

  pub linked_from : (eq : K → K → Bool) (es : List (K × Node V)) (first last : ℕ) (ps : List ℕ) → IsDistinct eq (keys_of es) → IsChain es first last ps → IsWhole es ps → IsLinked eq es first last
  linked_from eq es first last ps d c w = let same = places_are es first last ps c w in
      record { distinct = d; chain = subst (IsChain es first last) (sym same) c; whole = subst (IsWhole es) (sym same) w }

  pub pairs_are : (es : List (K × Node V)) (first last : ℕ) (ps : List ℕ) → IsChain es first last ps → IsWhole es ps → pairs_of es first ≡ pairs_at es ps
  pairs_are es first last ps c w = ap (pairs_at es) (places_are es first last ps c w)

  pub length_pairs_of : (eq : K → K → Bool) (es : List (K × Node V)) (first last : ℕ) → IsLinked eq es first last → length (pairs_of es first) ≡ length es
  length_pairs_of eq es first last i = let c = i.chain in let w = i.whole in length-pairs es (places es first) c.below ∙ w.long

  pub no_nodes : (eq : K → K → Bool) (es : List (K × Node V)) → es ≡ [] → IsDistinct eq (keys_of es) → IsLinked eq es 0 0
  no_nodes eq es e d = linked_from eq es 0 0 [] d (record { below = tt; apart = tt; forward = tt; backward = tt }) (record { long = sym (ap length e); covers = λ i l. absurd (let n = ap length e in omega arith) })

  -- a position is in the chain
  pub chained : (eq : K → K → Bool) (es : List (K × Node V)) (first last at : ℕ) → IsLinked eq es first last → at < length es → (xs : List ℕ) × (ys : List ℕ) × (places es first ≡ xs ++ at ∷ ys)
  chained eq es first last at i l = let w = i.whole in in_cut at (places es first) (w.covers at l)

  pub is_chained : (eq : K → K → Bool) (es : List (K × Node V)) (first last at : ℕ) → IsLinked eq es first last → at < length es → IsChained es first last at
  is_chained eq es first last at i l = let c = chained eq es first last at i l in (c.0, c.1, subst (IsChain es first last) c.2 i.chain)

  pub is_placed : (eq : K → K → Bool) (es : List (K × Node V)) (first last at : ℕ) → IsLinked eq es first last → at < length es → IsPlaced es first last at
  is_placed eq es first last at i l = let c = chained eq es first last at i l in (c.0, c.1, subst (IsChain es first last) c.2 i.chain, subst (IsWhole es) c.2 i.whole)

  first_cut : (es : List (K × Node V)) (first last : ℕ) (ps : List ℕ) → IsChain es first last ps → 0 < length ps → (ys : List ℕ) × (ps ≡ first ∷ ys)
  first_cut es first last [] c h = absurd (omega arith)
  first_cut es first last (p ∷ ys) c h = (ys, (let e = start es first last p ys c in ap (λ q. q ∷ ys) (sym e)))
    where
      start : (es : List (K × Node V)) (first last p : ℕ) (ys : List ℕ) → IsChain es first last (p ∷ ys) → first ≡ p
      start es first last p ys c = (c.forward).0

  pub first_chained : (eq : K → K → Bool) (es : List (K × Node V)) (first last : ℕ) → IsLinked eq es first last → 0 < length es → (ys : List ℕ) × (places es first ≡ first ∷ ys)
  first_chained eq es first last i l = let w = i.whole in first_cut es first last (places es first) i.chain (let n = w.long in omega arith)

  pub first_within : (eq : K → K → Bool) (es : List (K × Node V)) (first last : ℕ) → IsLinked eq es first last → 0 < length es → first < length es
  first_within eq es first last i l = let c = first_chained eq es first last i l in let chain = subst (IsChain es first last) c.1 i.chain in (chain.below).0

  -- the first pair taken out
  pub popped : (eq : K → K → Bool) (es fs : List (K × Node V)) (first last f1 l1 : ℕ) (e : K × V) (i : IsLinked eq es first last) → 0 < length es → pair_at es first ≡ Some e → TakesOut es first last first fs f1 l1 → IsDistinct eq (keys_of fs)
      → IsLinked eq fs f1 l1 × (pairs_of es first ≡ e ∷ pairs_of fs f1)
  popped eq es fs first last f1 l1 e i l at t d =
      let c = first_chained eq es first last i l in let ys = c.0 in
      let h = t [] ys (subst (IsChain es first last) c.1 i.chain) (subst (IsWhole es) c.1 i.whole) in (
        linked_from eq fs f1 l1 h.ps d h.chain h.whole,
        ap (pairs_at es) c.1 ∙ pairs-cut es [] first ys e at ∙ ap (λ l. e ∷ l) (sym (pairs_are fs f1 l1 h.ps h.chain h.whole ∙ h.pairs)),
      )

  last_of : (es : List (K × Node V)) (first last : ℕ) (zs : List ℕ) (b : ℕ) → IsChain es first last (zs ++ b ∷ []) → last < length es
  last_of es first last zs b c =
      let back = subst (Walk (before_at es) last) (reverse-cut zs b []) c.backward in
      subst (λ i. i < length es) (sym back.0) (below-at (length es) zs b [] c.below)

  -- where there are nodes, the chain has an end
  some_end : (eq : K → K → Bool) (es : List (K × Node V)) (first last : ℕ) → IsLinked eq es first last → 0 < length es → (zs : List ℕ) × (b : ℕ) × (places es first ≡ zs ++ b ∷ [])
  some_end eq es first last i l = elim (ends (places es first)) [
    | inl e ↦ absurd (let w = i.whole in let n = w.long in let z = ap length e in omega arith)
    | inr r ↦ r
  ]

  pub last_within : (eq : K → K → Bool) (es : List (K × Node V)) (first last : ℕ) → IsLinked eq es first last → 0 < length es → last < length es
  last_within eq es first last i l = let r = some_end eq es first last i l in last_of es first last r.0 r.1 (subst (IsChain es first last) r.2 i.chain)

  -- the last pair taken out
  pub popped_last : (eq : K → K → Bool) (es fs : List (K × Node V)) (first last f1 l1 : ℕ) (e : K × V) (i : IsLinked eq es first last) → 0 < length es → pair_at es last ≡ Some e → TakesOut es first last last fs f1 l1 → IsDistinct eq (keys_of fs)
      → IsLinked eq fs f1 l1 × (pairs_of es first ≡ pairs_of fs f1 ++ e ∷ [])
  popped_last eq es fs first last f1 l1 e i l at t d =
      let r = some_end eq es first last i l in let zs = r.0 in let b = r.1 in
      let c1 = subst (IsChain es first last) r.2 i.chain in
      let back = subst (Walk (before_at es) last) (reverse-cut zs b []) c1.backward in
      let cut : places es first ≡ zs ++ last ∷ [] = r.2 ∙ ap (λ q. zs ++ q ∷ []) (sym back.0) in
      let h = t zs [] (subst (IsChain es first last) cut i.chain) (subst (IsWhole es) cut i.whole) in (
        linked_from eq fs f1 l1 h.ps d h.chain h.whole,
        ap (pairs_at es) cut ∙ pairs-cut es zs last [] e at ∙ ap (λ q. q ++ e ∷ []) (ap (pairs_at es) (sym (append-nil zs)) ∙ sym (pairs_are fs f1 l1 h.ps h.chain h.whole ∙ h.pairs)),
      )

  item-push : (es : List (K × Node V)) (x : K × Node V) (j : ℕ) → j < length es → item (es ++ x ∷ []) j ≡ item es j
  item-push [] x j h = absurd (omega arith)
  item-push (e ∷ es) x zero h = refl
  item-push (e ∷ es) x (suc j) h = item-push es x j (omega arith)

  -- a new pair linked last
  pub pushed : (eq : K → K → Bool) (es gs hs : List (K × Node V)) (first last n : ℕ) (k : K) (v : V) → IsLinked eq es first last → 0 < length es → n ≡ length es → gs ≡ es ++ (k, node 0 0 v) ∷ []
      → hs ≡ with_before (with_after gs last n) n last → IsDistinct eq (keys_of gs) → IsLinked eq hs first n × (pairs_of hs first ≡ pairs_of es first ++ (k, v) ∷ [])
  pushed eq es gs hs first last n k v i l to_n to_gs to_hs d =
      let ps = places es first in let r = some_end eq es first last i l in let zs = r.0 in let b = r.1 in let c = i.chain in let w = i.whole in
      let long_gs : length gs ≡ length es + 1 = ap length to_gs ∙ length-append es ((k, node 0 0 v) ∷ []) in
      let old : (j : ℕ) → j < length es → item gs j ≡ item es j = λ j h. ap (λ x. item x j) to_gs ∙ item-push es (k, node 0 0 v) j h in
      let c1 : IsChain gs first last ps = same_chain es gs first last ps (length es) c c.below (omega (arith, long_gs)) old in
      let away : Avoids n ps = subst (λ m. Avoids m ps) (sym to_n) (avoids_above (length es) ps c.below) in
      let linked = link_chain gs first last zs b n (subst (IsChain gs first last) r.2 c1) (omega (arith, long_gs, to_n)) (subst (Avoids n) r.2 away) in
      let chain : IsChain hs first n (ps ++ n ∷ []) = subst (λ x. IsChain x first n (ps ++ n ∷ [])) (sym to_hs) (subst (λ q. IsChain (with_before (with_after gs last n) n last) first n (q ++ n ∷ [])) (sym r.2) linked) in
      let long_hs : length hs ≡ length gs = ap length to_hs ∙ length-change (with_after gs last n) n (λ x. node last x.after x.value) ∙ length-change gs last (λ x. node x.before n x.value) in
      let keys_hs : keys_of hs ≡ keys_of gs = ap keys_of to_hs ∙ keys-change (with_after gs last n) n (λ x. node last x.after x.value) ∙ keys-change gs last (λ x. node x.before n x.value) in
      let pair_hs : (j : ℕ) → pair_at hs j ≡ pair_at gs j = λ j. ap (λ x. pair_at x j) to_hs ∙ pair-change (with_after gs last n) n (λ x. node last x.after x.value) (λ x. refl) j ∙ pair-change gs last (λ x. node x.before n x.value) (λ x. refl) j in
      let long_ps : length ps ≡ length es = w.long in
      let whole : IsWhole hs (ps ++ n ∷ []) = record {
        long = omega (arith, long_hs, long_gs, long_ps, length-append ps (n ∷ []));
        covers = λ j h. elim (eqb_tells n j) [
          | inl t ↦ subst (λ m. In m (ps ++ n ∷ [])) t.1 (in-at ps n [])
          | inr f ↦ in-put j ps n [] (subst (In j) (sym (append-nil ps)) (w.covers j (let o : n ≡ j → ⊥ = f.1 in omega (arith, long_hs, long_gs, to_n, h))))
        ];
      } in
      let at_n : pair_at gs n ≡ Some (k, v) = ap (option_map (λ f. (f.0, f.1.value))) ((λ j. item (to_gs j) (to_n j)) ∙ item_cut es (k, node 0 0 v) []) in (
        linked_from eq hs first n (ps ++ n ∷ []) (subst (IsDistinct eq) (sym keys_hs) d) chain whole,
        pairs_are hs first n (ps ++ n ∷ []) chain whole ∙ pairs-same gs hs (ps ++ n ∷ []) pair_hs ∙ pairs-cut gs ps n [] (k, v) at_n
            ∙ ap (λ x. x ++ (k, v) ∷ []) (pairs-below es gs (length es) n ps (λ j h a. ap (option_map (λ f. (f.0, f.1.value))) (old j h)) c.below away),
      )

  pub distinct_order : (eq : K → K → Bool) (laws : IsEquivalence eq) (es : List (K × Node V)) (first last : ℕ) → IsLinked eq es first last → IsDistinct eq (keys_of (pairs_of es first))
  distinct_order eq laws es first last i = let c = i.chain in distinct_pairs eq laws es (places es first) i.distinct c.apart

  lookup-removed : (eq : K → K → Bool) (laws : IsEquivalence eq) (test : K → Bool) → IsKeyTest eq test → (es : List (K × V)) → IsDistinct eq (keys_of es) → lookup test (remove_entry test es) ≡ None
  unfolding IsDistinct
  lookup-removed eq laws test one [] d = refl
  lookup-removed eq laws test one (f ∷ es) d = (elim (test f.0) as (λ y. test f.0 ≡ y → lookup test (remove_entry test (f ∷ es)) ≡ None) [
    | true ↦ λ t. rw t (no_others es (none_past_head laws f.0 f es d (laws.refl f.0)) t)
    | false ↦ λ t. rw (t, t) (lookup-removed eq laws test one es d.1)
  ]) refl
    where
      no_others : (l : List (K × V)) → Passes (eq f.0) l → test f.0 ≡ true → lookup test l ≡ None
      no_others [] n t = refl
      no_others (e ∷ l) n t = rw (one f.0 e.0 t ∙ n.0) (no_others l n.1 t)

  module _ (eq : K → K → Bool) (laws : IsEquivalence eq) (test : K → Bool) (one : IsKeyTest eq test) (es : List (K × Node V)) (first last : ℕ) (i : IsLinked eq es first last) where
    module _ (at : ℕ) (found : Some at ≡ position test (keys_of es)) where
      within : at < length es
      within = let f = Found-position test es at (sym found) in f.within

      here : (xs : List ℕ) × (ys : List ℕ) × (places es first ≡ xs ++ at ∷ ys)
      here = chained eq es first last at i within

      chain_here : IsChain es first last (here.0 ++ at ∷ here.1)
      chain_here = let h = here in subst (IsChain es first last) h.2 i.chain

      whole_here : IsWhole es (here.0 ++ at ∷ here.1)
      whole_here = let h = here in subst (IsWhole es) h.2 i.whole

      cut_here : (e : K × Node V) × (item es at ≡ Some e) × IsCut test (pairs_of es first) (pairs_at es here.0) (e.0, e.1.value) (pairs_at es here.1)
      cut_here =
          let c = cut_position test es at (sym found) in let e = c.1 in let k = c.3 in let h = here in let ch = chain_here in
          let at_e : item es at ≡ Some e = (λ j. item (k.parts j) (sym c.4 j)) ∙ item_cut c.0 e c.2 in
          let cut = cut_pairs test eq laws one es c.0 e c.2 k i.distinct h.0 at h.1 c.4 ch.apart in
          (e, at_e, subst (λ ps. IsCut test (pairs_at es ps) (pairs_at es h.0) (e.0, e.1.value) (pairs_at es h.1)) (sym h.2) cut)

      pub touched_linked : (fs : List (K × Node V)) (f1 : ℕ) → MovesLast es first last at fs f1 → IsSame es fs → IsLinked eq fs f1 at × (pairs_of fs f1 ≡ touched test (pairs_of es first))
      touched_linked fs f1 mv same =
          let h = here in let xs = h.0 in let ys = h.1 in let c = cut_here in let e = c.0 in let pair : K × V = (e.0, e.1.value) in let w = whole_here in
          let chain = mv xs ys chain_here in let ps = (xs ++ ys) ++ at ∷ [] in
          let long_w : length (xs ++ at ∷ ys) ≡ length es = w.long in
          let whole : IsWhole fs ps = record {
            long = omega (arith, same.long, long_w, length-append (xs ++ ys) (at ∷ []), length-append xs ys, length-append xs (at ∷ ys));
            covers = λ j l. covered xs ys j (w.covers j (omega (arith, same.long, l)));
          } in
          let d = subst (IsDistinct eq) (sym same.keys) i.distinct in
          let pairs : pairs_at fs ps ≡ (pairs_at es xs ++ pairs_at es ys) ++ pair ∷ [] =
          pairs-same es fs ps same.pairs ∙ pairs-cut es (xs ++ ys) at [] pair (ap (option_map (λ f. (f.0, f.1.value))) c.1) ∙ ap (λ l. l ++ pair ∷ []) (pairs-append es xs ys) in
          (linked_from eq fs f1 at ps d chain whole, pairs_are fs f1 at ps chain whole ∙ pairs ∙ sym (hit test (pairs_of es first) (pairs_at es xs) pair (pairs_at es ys) c.2).last)
        where
          covered : (xs ys : List ℕ) (j : ℕ) → In j (xs ++ at ∷ ys) → In j ((xs ++ ys) ++ at ∷ [])
          covered [] [] j h = h
          covered [] (y ∷ ys) j h = elim h [ inl e ↦ inr (covered [] ys j (inl e)) | inr r ↦ elim r [ inl e ↦ inl e | inr q ↦ inr (covered [] ys j (inr q)) ] ]
          covered (x ∷ xs) ys j h = elim h [ inl e ↦ inl e | inr r ↦ inr (covered xs ys j r) ]

      pub removed_linked : (fs : List (K × Node V)) (f1 l1 : ℕ) (p : K × V) → pair_at es at ≡ Some p → TakesOut es first last at fs f1 l1 → IsDistinct eq (keys_of fs)
          → IsLinked eq fs f1 l1 × (pairs_of fs f1 ≡ remove_entry test (pairs_of es first)) × (Some p ≡ lookup_entry test (pairs_of es first))
      removed_linked fs f1 l1 p at_p t d =
          let h = here in let xs = h.0 in let ys = h.1 in let c = cut_here in let e = c.0 in let pair : K × V = (e.0, e.1.value) in
          let k = t xs ys chain_here whole_here in let hits = hit test (pairs_of es first) (pairs_at es xs) pair (pairs_at es ys) c.2 in (
            linked_from eq fs f1 l1 k.ps d k.chain k.whole,
            pairs_are fs f1 l1 k.ps k.chain k.whole ∙ k.pairs ∙ pairs-append es xs ys ∙ sym hits.removed,
            sym at_p ∙ ap (option_map (λ f. (f.0, f.1.value))) c.1 ∙ sym hits.entry,
          )

      -- the pairs, with a value written at the position
      pub valued_linked : (w : V) → IsLinked eq (with_value es at w) first last × (pairs_of (with_value es at w) first ≡ set_value test (pairs_of es first) w)
      valued_linked w =
          let put : Node V → Node V = λ n. node n.before n.after w in
          let gs = with_value es at w in
          let h = here in let xs = h.0 in let ys = h.1 in let ps = xs ++ at ∷ ys in let c = cut_here in let e = c.0 in
          let ch = chain_here in let wh = whole_here in
          let long = length-change es at put in
          let chain : IsChain gs first last ps = chain-change es at put (λ n. refl) (λ n. refl) first last ps ch in
          let whole : IsWhole gs ps = record { long = wh.long ∙ sym long; covers = λ j l. wh.covers j (omega (arith, long, l)) } in
          let d = subst (IsDistinct eq) (sym (keys-change es at put)) i.distinct in
          let stays : (qs : List ℕ) → AllBelow (length es) qs → Avoids at qs → pairs_at gs qs ≡ pairs_at es qs = λ qs b a. pairs-below es gs (length es) at qs (λ j l n. pair-other es at put j n) b a in
          let before = stays xs (below-left (length es) xs (at ∷ ys) ch.below) (apart-before xs at ys ch.apart) in
          let behind = stays ys (below-right (length es) (xs ++ at ∷ []) ys (subst (AllBelow (length es)) (sym (append_assoc xs (at ∷ []) ys)) ch.below)) (apart-behind xs at ys ch.apart) in
          let there : pair_at gs at ≡ Some (e.0, w) = ap (option_map {U = K × V} (λ f. (f.0, f.1.value))) (item-change es at put e c.1) in
          let k = c.2 in
          let to : set_value test (pairs_of es first) w ≡ pairs_at es xs ++ (e.0, w) ∷ pairs_at es ys = ap (λ l. set_value test l w) k.parts ∙ hit_set test (pairs_at es xs) (e.0, e.1.value) (pairs_at es ys) w k.none k.passes in (
            linked_from eq gs first last ps d chain whole,
            pairs_are gs first last ps chain whole ∙ pairs-cut gs xs at ys (e.0, w) there ∙ (λ j. before j ++ (e.0, w) ∷ behind j) ∙ sym to,
          )

      pub found_value : lookup test (pairs_of es first) ≡ option_map (λ e. e.1.value) (item es at)
      found_value = let h = here in let c = cut_here in let e = c.0 in (hit test (pairs_of es first) (pairs_at es h.0) (e.0, e.1.value) (pairs_at es h.1) c.2).value ∙ sym (ap (option_map (λ f. f.1.value)) c.1)

    pub absent_after : lookup test (remove_entry test (pairs_of es first)) ≡ None
    absent_after = lookup-removed eq laws test one (pairs_of es first) (distinct_order eq laws es first last i)

    none_lookup : (l : List (K × V)) → NonePasses test l → lookup test l ≡ None
    none_lookup [] h = refl
    none_lookup (e ∷ l) h = rw h.0 (none_lookup l h.1)

    pub absent_pairs : lookup test es ≡ None → lookup test (pairs_of es first) ≡ None
    absent_pairs h = none_lookup (pairs_of es first) (none_anywhere test es (places es first) h)

    pub none_pairs : None ≡ position test (keys_of es) → lookup test (pairs_of es first) ≡ None
    none_pairs h = absent_pairs (none_from_is_some (lookup test es) (sym (some_index test es) ∙ sym (ap is_some h)))

    value_of : (o : Option ℕ) → o ≡ position test (keys_of es) → lookup test (pairs_of es first) ≡ option_map (λ n. n.value) (lookup test es)
    value_of None h = none_pairs h ∙ sym (ap (option_map (λ n. n.value)) (none_from_is_some (lookup test es) (sym (some_index test es) ∙ sym (ap is_some h))))
    value_of (Some at) h =
        let c = cut_position test es at (sym h) in let e = c.1 in
        let own = hit test es c.0 e c.2 c.3 in
        let k = cut_here at h in let same : k.0 ≡ e = by_item k.0 e (sym k.1 ∙ (λ j. item (c.3.parts j) (sym c.4 j)) ∙ item_cut c.0 e c.2) in
        found_value at h ∙ ap (option_map (λ f. f.1.value)) k.1 ∙ ap (λ f. Some (f.1.value)) same ∙ sym (ap (option_map (λ n. n.value)) own.value)
      where
        by_item : (f e : K × Node V) → Some f ≡ Some e → f ≡ e
        by_item f e h = cc

    pub lookup_pairs : lookup test (pairs_of es first) ≡ option_map (λ n. n.value) (lookup test es)
    lookup_pairs = value_of (position test (keys_of es)) refl

    is_some_map : (o : Option (Node V)) → is_some (option_map (λ n. n.value) o) ≡ is_some o
    is_some_map None = refl
    is_some_map (Some n) = refl

    pub some_pairs : is_some (lookup test (pairs_of es first)) ≡ is_some (lookup test es)
    some_pairs = ap is_some lookup_pairs ∙ is_some_map (lookup test es)

module _ {K V : Type 0} where
  value_at : (fs : List (K × Node V)) (i : ℕ) (n : Node V) → slice_get (values_of fs) i ≡ Some n → option_map (λ e. e.1.value) (item fs i) ≡ Some n.value
  value_at [] i n h = cc
  value_at (f ∷ fs) zero n h = let same : f.1 ≡ n = cc in ap (λ m. Some (m.value)) same
  value_at (f ∷ fs) (suc i) n h = value_at fs i n h

  value_of_pair : (o : Option (K × Node V)) → option_map (λ (p : K × V). p.1) (option_map (λ e. (e.0, e.1.value)) o) ≡ option_map (λ e. e.1.value) o
  value_of_pair None = refl
  value_of_pair (Some e) = refl

  -- the value read by index, after a move
  pub value_moved : (es fs : List (K × Node V)) (i : ℕ) (n : Node V) → IsSame es fs → slice_get (values_of fs) i ≡ Some n → Some n.value ≡ option_map (λ e. e.1.value) (item es i)
  value_moved es fs i n same h = sym (value_at fs i n h) ∙ sym (value_of_pair (item fs i)) ∙ ap (option_map (λ (p : K × V). p.1)) (same.pairs i) ∙ value_of_pair (item es i)

  -- a new pair's key goes last
  pub keys-push : (es : List (K × Node V)) (e : K × Node V) → keys_of (es ++ e ∷ []) ≡ keys_of es ++ e.0 ∷ []
  keys-push [] e = refl
  keys-push (f ∷ es) e = ap (λ l. f.0 ∷ l) (keys-push es e)

  key_at : (es : List (K × Node V)) (i : ℕ) (p : K × V) → pair_at es i ≡ Some p → slice_get (keys_of es) i ≡ Some p.0
  key_at [] i p h = cc
  key_at (e ∷ es) zero p h = let same : (e.0, e.1.value) ≡ p = by_some (e.0, e.1.value) p h in ap (λ q. Some q.0) same
    where
      by_some : (f e : K × V) → Some f ≡ Some e → f ≡ e
      by_some f e h = cc
  key_at (e ∷ es) (suc i) p h = key_at es i p h

  -- the keys at their positions, after the pair at one was taken out
  pub vacated_taken : (test : K → Bool) (es : List (K × Node V)) (at : ℕ) (p : K × V) → Some at ≡ position test (keys_of es) → pair_at es at ≡ Some p → swap_remove (keys_of es) at p.0 ≡ vacated test (keys_of es)
  vacated_taken test es at p found there =
      let ks = keys_of es in
      (λ j. option_map_or (swap_remove ks at) (sym (key_at es at p there) j) ks) ∙ (λ j. option_map_or (λ i. option_map_or (swap_remove ks i) (slice_get ks i) ks) (found j) ks)

  pub vacated_none : (test : K → Bool) (es : List (K × Node V)) → None ≡ position test (keys_of es) → keys_of es ≡ vacated test (keys_of es)
  vacated_none test es none = let ks = keys_of es in λ j. option_map_or (λ i. option_map_or (swap_remove ks i) (slice_get ks i) ks) (none j) ks
