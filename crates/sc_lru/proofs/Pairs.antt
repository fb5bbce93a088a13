-- The pairs at positions, and the look-ups among them.
use Rattle.std.proofs.Common.{◌≡◌, ℕ, zero, suc, ◌<◌, Bool, true, false, List, [], ◌∷◌, ◌++◌, length, refl, sym, ap, ◌∙◌, subst, arith, Option, Some, None, option_map}
use Rattle.std.specs.Option.{option_map_or}
use Rattle.std.specs.Cmp.{IsEquivalence}
use Rattle.std.specs.List.{IsDistinct, AllByRecursion}
use Rattle.std.specs.Map.{keys_of, lookup, IsKeyTest}
use Rattle.indexmap.proofs.MapLemmas.{absent_before}
use Rattle.std.proofs.lemmas.Map.Entries.{none_past_head}
use Rattle.sc_lru.specs.declared.node.Node.{Node}
use Rattle.sc_lru.specs.Linked.{item, Avoids, AllApart, AllBelow, pair_at, pairs_at}
use Rattle.sc_lru.proofs.Cut.{NonePasses, IsCut, none_from_lookup}
use Rattle.sc_lru.proofs.Walks.{apart-before}

nothing_apart : {K : Type 0} (eq : K → K → Bool) → IsDistinct eq []
unfolding IsDistinct
nothing_apart eq = tt

module _ {K V : Type 0} where
  abbrev pub onto : Option (K × V) → List (K × V) → List (K × V)
  onto o l = option_map_or (λ e. e ∷ l) o l

  onto-append : (o : Option (K × V)) (l r : List (K × V)) → onto o (l ++ r) ≡ onto o l ++ r
  onto-append None l r = refl
  onto-append (Some e) l r = refl

  pub pairs-append : (es : List (K × Node V)) (xs ys : List ℕ) → pairs_at es (xs ++ ys) ≡ pairs_at es xs ++ pairs_at es ys
  pairs-append es [] ys = refl
  pairs-append es (x ∷ xs) ys = ap (onto (pair_at es x)) (pairs-append es xs ys) ∙ onto-append (pair_at es x) (pairs_at es xs) (pairs_at es ys)

  pub pairs-same : (es fs : List (K × Node V)) (ps : List ℕ) → ((j : ℕ) → pair_at fs j ≡ pair_at es j) → pairs_at fs ps ≡ pairs_at es ps
  pairs-same es fs [] h = refl
  pairs-same es fs (p ∷ ps) h = (λ i. onto (h p i) (pairs-same es fs ps h i))

  pub pairs-below : (es fs : List (K × Node V)) (n p : ℕ) (ps : List ℕ) → ((j : ℕ) → j < n → (j ≡ p → ⊥) → pair_at fs j ≡ pair_at es j) → AllBelow n ps → Avoids p ps → pairs_at fs ps ≡ pairs_at es ps
  pairs-below es fs n p [] h b a = refl
  pairs-below es fs n p (x ∷ ps) h b a = (λ i. onto (h x b.0 a.0 i) (pairs-below es fs n p ps h b.1 a.1 i))

  pub pairs-cut : (es : List (K × Node V)) (xs : List ℕ) (p : ℕ) (ys : List ℕ) (e : K × V) → pair_at es p ≡ Some e → pairs_at es (xs ++ p ∷ ys) ≡ pairs_at es xs ++ e ∷ pairs_at es ys
  pairs-cut es xs p ys e h = pairs-append es xs (p ∷ ys) ∙ ap (λ o. pairs_at es xs ++ onto o (pairs_at es ys)) h

  -- an index within has an item
  pub item_within : (es : List (K × Node V)) (i : ℕ) → i < length es → (e : K × Node V) × (item es i ≡ Some e)
  item_within [] i h = absurd (omega arith)
  item_within (e ∷ es) zero h = (e, refl)
  item_within (e ∷ es) (suc i) h = item_within es i (omega arith)

  pub item_cut : (us : List (K × Node V)) (e : K × Node V) (ws : List (K × Node V)) → item (us ++ e ∷ ws) (length us) ≡ Some e
  item_cut [] e ws = refl
  item_cut (u ∷ us) e ws = let more : length (u ∷ us) ≡ suc (length us) = omega arith in ap (item (u ∷ us ++ e ∷ ws)) more ∙ item_cut us e ws

  pub length-pairs : (es : List (K × Node V)) (ps : List ℕ) → AllBelow (length es) ps → length (pairs_at es ps) ≡ length ps
  length-pairs es [] h = refl
  length-pairs es (p ∷ ps) h =
      let there = item_within es p h.0 in let e = there.0 in
      let on = length-pairs es ps h.1 in
      ap (λ o. length (onto o (pairs_at es ps))) (ap (option_map (λ f. (f.0, f.1.value))) there.1) ∙ (let more : length ((e.0, e.1.value) ∷ pairs_at es ps) ≡ length (p ∷ ps) = omega arith in more)

  module _ (test : K → Bool) where
    onto-none : (o : Option (K × Node V)) (l : List (K × V)) → ((e : K × Node V) → o ≡ Some e → test e.0 ≡ false) → NonePasses test l → NonePasses test (onto (option_map (λ e. (e.0, e.1.value)) o) l)
    onto-none None l h n = n
    onto-none (Some e) l h n = (h e refl, n)

    -- no key at these positions passes, where none of the nodes there does
    pub none_at : (es : List (K × Node V)) (p : ℕ) (ps : List ℕ) → ((j : ℕ) (e : K × Node V) → (j ≡ p → ⊥) → item es j ≡ Some e → test e.0 ≡ false) → Avoids p ps → NonePasses test (pairs_at es ps)
    none_at es p [] h a = tt
    none_at es p (x ∷ ps) h a = onto-none (item es x) (pairs_at es ps) (λ e s. h x e a.0 s) (none_at es p ps h a.1)

    item-none : (es : List (K × Node V)) (j : ℕ) (e : K × Node V) → NonePasses test es → item es j ≡ Some e → test e.0 ≡ false
    item-none [] j e n h = cc
    item-none (f ∷ es) zero e n h = let same : f ≡ e = by_some f e h in subst (λ g. test g.0 ≡ false) same n.0
      where
        by_some : (f e : K × Node V) → Some f ≡ Some e → f ≡ e
        by_some f e h = cc
    item-none (f ∷ es) (suc j) e n h = item-none es j e n.1 h

    pub none_anywhere : (es : List (K × Node V)) (ps : List ℕ) → lookup test es ≡ None → NonePasses test (pairs_at es ps)
    none_anywhere es [] h = tt
    none_anywhere es (x ∷ ps) h = onto-none (item es x) (pairs_at es ps) (λ e s. item-none es x e (none_from_lookup test es h) s) (none_anywhere es ps h)

    -- the one node that passes
    sole : (us : List (K × Node V)) (e : K × Node V) (ws : List (K × Node V)) → NonePasses test us → NonePasses test ws → (j : ℕ) (f : K × Node V) → (j ≡ length us → ⊥) → item (us ++ e ∷ ws) j ≡ Some f → test f.0 ≡ false
    sole [] e ws nu nw zero f d h = absurd (d refl)
    sole [] e ws nu nw (suc j) f d h = item-none ws j f nw h
    sole (u ∷ us) e ws nu nw zero f d h = item-none (u ∷ us) zero f nu h
    sole (u ∷ us) e ws nu nw (suc j) f d h = sole us e ws nu.1 nw j f (λ s. d (let more : suc j ≡ length (u ∷ us) = omega arith in more)) h

    module _ (eq : K → K → Bool) (laws : IsEquivalence eq) (one : IsKeyTest eq test) where
      behind_none : (us : List (K × Node V)) (e : K × Node V) (ws : List (K × Node V)) → IsDistinct eq (keys_of (us ++ e ∷ ws)) → test e.0 ≡ true → NonePasses test ws
      unfolding IsDistinct
      behind_none [] e ws d t = each ws (none_past_head laws e.0 e ws d (laws.refl e.0))
        where
          each : (l : List (K × Node V)) → NonePasses (eq e.0) l → NonePasses test l
          each [] n = tt
          each (w ∷ l) n = (one e.0 w.0 t ∙ n.0, each l n.1)
      behind_none (u ∷ us) e ws d t = behind_none us e ws d.1 t

      -- the pairs are cut where the key is
      pub cut_pairs : (es us : List (K × Node V)) (e : K × Node V) (ws : List (K × Node V)) → IsCut test es us e ws → IsDistinct eq (keys_of es)
          → (xs : List ℕ) (p : ℕ) (ys : List ℕ) → length us ≡ p → AllApart (xs ++ p ∷ ys) → IsCut test (pairs_at es (xs ++ p ∷ ys)) (pairs_at es xs) (e.0, e.1.value) (pairs_at es ys)
      cut_pairs es us e ws c distinct xs p ys long apart =
          let nw = behind_none us e ws (subst (λ l. IsDistinct eq (keys_of l)) c.parts distinct) c.passes in
          let others : (j : ℕ) (f : K × Node V) → (j ≡ p → ⊥) → item es j ≡ Some f → test f.0 ≡ false =
          λ j f d h. sole us e ws c.none nw j f (λ s. d (s ∙ long)) (ap (λ l. item l j) (sym c.parts) ∙ h) in
          let at_p : item es p ≡ Some e = (λ i. item (c.parts i) (sym long i)) ∙ item_cut us e ws in
          record {
            parts = pairs-cut es xs p ys (e.0, e.1.value) (ap (option_map (λ f. (f.0, f.1.value))) at_p);
            none = none_at es p xs others (apart-before xs p ys apart);
            passes = c.passes;
          }

  split_at : (es : List (K × Node V)) (x : ℕ) (e : K × Node V) → item es x ≡ Some e → (us : List (K × Node V)) × (ws : List (K × Node V)) × (es ≡ us ++ e ∷ ws) × (length us ≡ x)
  split_at [] x e h = cc
  split_at (f ∷ es) zero e h = ([], es, ap (λ g. g ∷ es) (by_some f e h), refl)
    where
      by_some : (f e : K × Node V) → Some f ≡ Some e → f ≡ e
      by_some f e h = cc
  split_at (f ∷ es) (suc x) e h = let on = split_at es x e h in let long = on.3 in (f ∷ on.0, on.1, ap (λ l. f ∷ l) on.2, omega arith)

  module _ (eq : K → K → Bool) (laws : IsEquivalence eq) where
    others_apart : (es : List (K × Node V)) → IsDistinct eq (keys_of es) → (x : ℕ) (e : K × Node V) → item es x ≡ Some e → (j : ℕ) (f : K × Node V) → (j ≡ x → ⊥) → item es j ≡ Some f → eq e.0 f.0 ≡ false
    others_apart es d x e at j f n h =
        let s = split_at es x e at in let us = s.0 in let ws = s.1 in
        let d' = subst (λ l. IsDistinct eq (keys_of l)) s.2 d in
        let before = none_from_lookup (eq e.0) us (absent_before laws us ws e d') in
        let behind = behind_none (eq e.0) eq laws (laws.congr e.0) us e ws d' (laws.refl e.0) in
        sole (eq e.0) us e ws before behind j f (λ q. n (q ∙ s.3)) (ap (λ l. item l j) (sym s.2) ∙ h)

    all_apart : (k : K) (l : List (K × V)) → NonePasses (eq k) l → AllByRecursion (λ y. eq k y ≡ false) (keys_of l)
    all_apart k [] h = tt
    all_apart k (e ∷ l) h = (h.0, all_apart k l h.1)

    put_apart : (o : Option (K × Node V)) (l : List (K × V)) → ((e : K × Node V) → o ≡ Some e → NonePasses (eq e.0) l) → IsDistinct eq (keys_of l) → IsDistinct eq (keys_of (onto (option_map (λ e. (e.0, e.1.value)) o) l))
    unfolding IsDistinct
    put_apart None l h d = d
    put_apart (Some e) l h d = (all_apart e.0 l (h e refl), d)

    -- the keys at positions without repeats are distinct
    pub distinct_pairs : (es : List (K × Node V)) (ps : List ℕ) → IsDistinct eq (keys_of es) → AllApart ps → IsDistinct eq (keys_of (pairs_at es ps))
    distinct_pairs es [] d a = nothing_apart eq
    distinct_pairs es (x ∷ ps) d a = put_apart (item es x) (pairs_at es ps) (λ e at. none_at (eq e.0) es x ps (λ j f n h. others_apart es d x e at j f n h) a.0) (distinct_pairs es ps d a.1)
