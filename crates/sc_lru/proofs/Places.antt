-- The positions of a linked order's pairs, place by place.
use Rattle.std.proofs.lemmas.Bool.Decides.{eqb_tells}
use Rattle.std.proofs.Common.{◌≡◌, ℕ, zero, suc, ◌+◌, ◌-◌, ◌<◌, ◌≤◌, Bool, false, cond, not, List, [], ◌∷◌, ◌++◌, length, reverse, position, slice_get, refl, sym, ap, ◌∙◌, subst, inl, inr, arith, Option, Some, None, option_map, lt-ltb}
use Rattle.std.specs.Prelude.{nat_lt}
use Rattle.std.specs.Option.{option_map_or}
use Rattle.std.specs.Cmp.{IsEquivalence}
use Rattle.std.specs.List.{position_or_len, IsDistinct, AllByRecursion}
use Rattle.std.specs.Map.{keys_of, values_of, set_value}
use Rattle.indexmap.specs.IndexMap.{set_value_at}
use Rattle.sc_lru.specs.declared.node.Node.{Node}
use Rattle.sc_lru.specs.Order.{position_at, written_at, IsPosition}
use Rattle.sc_lru.specs.Linked.{item, Walk, Avoids, AllApart, AllBelow, after_at, before_at, pair_at, pairs_at, places, pairs_of, IsLinked}
use Rattle.sc_lru.proofs.Cut.{slice_get-cut}
use Rattle.sc_lru.proofs.Walks.{ends, reverse-cons, reverse-cut, walk_next}
use Rattle.sc_lru.proofs.Chains.{item-slice_get}
use Rattle.sc_lru.proofs.Pairs.{item_within, length-pairs}
use Rattle.sc_lru.proofs.Orders.{distinct_order}
use Rattle.sc_lru.proofs.Windows.{walk_left}

pub by_some : {X : Type 0} (x y : X) → Some x ≡ Some y → x ≡ y
by_some x y h = cc

module _ {X : Type 0} where
  item_there : (xs : List X) (n : ℕ) → n < length xs → (x : X) × (item xs n ≡ Some x)
  item_there [] n h = absurd (omega arith)
  item_there (x ∷ xs) zero h = (x, refl)
  item_there (x ∷ xs) (suc n) h = item_there xs n (omega arith)

  item_past : (xs : List X) (n : ℕ) → length xs ≤ n → item xs n ≡ None
  item_past [] n h = refl
  item_past (x ∷ xs) zero h = absurd (omega arith)
  item_past (x ∷ xs) (suc n) h = item_past xs n (omega arith)

  item_length : (xs : List X) (n : ℕ) (x : X) → item xs n ≡ Some x → n < length xs
  item_length [] n x h = cc
  item_length (y ∷ xs) zero x h = omega arith
  item_length (y ∷ xs) (suc n) x h = let on = item_length xs n x h in omega arith

item_below : (m : ℕ) (xs : List ℕ) (n q : ℕ) → AllBelow m xs → item xs n ≡ Some q → q < m
item_below m [] n q b h = cc
item_below m (x ∷ xs) zero q b h = subst (λ y. y < m) (by_some x q h) b.0
item_below m (x ∷ xs) (suc n) q b h = item_below m xs n q b.1 h

item_avoided : (q : ℕ) (xs : List ℕ) (n : ℕ) → Avoids q xs → item xs n ≡ Some q → ⊥
item_avoided q [] n a h = cc
item_avoided q (x ∷ xs) zero a h = a.0 (by_some x q h)
item_avoided q (x ∷ xs) (suc n) a h = item_avoided q xs n a.1 h

-- a position has one place
item_apart : (xs : List ℕ) (m n q : ℕ) → AllApart xs → item xs m ≡ Some q → item xs n ≡ Some q → m ≡ n
item_apart [] m n q a g h = cc
item_apart (x ∷ xs) zero zero q a g h = refl
item_apart (x ∷ xs) zero (suc n) q a g h = absurd (item_avoided x xs n a.0 (h ∙ sym g))
item_apart (x ∷ xs) (suc m) zero q a g h = absurd (item_avoided x xs m a.0 (g ∙ sym h))
item_apart (x ∷ xs) (suc m) (suc n) q a g h = ap suc (item_apart xs m n q a.1 g h)

walk_items : (f : ℕ → ℕ) (a : ℕ) (xs : List ℕ) (n q r : ℕ) → Walk f a xs → item xs n ≡ Some q → item xs (suc n) ≡ Some r → f q ≡ r
walk_items f a [] n q r w g h = cc
walk_items f a (x ∷ []) zero q r w g h = cc
walk_items f a (x ∷ y ∷ ys) zero q r w g h = ap f (sym (by_some x q g)) ∙ w.1.0 ∙ by_some y r h
walk_items f a (x ∷ xs) (suc n) q r w g h = walk_items f (f x) xs n q r w.1 g h

walk_items_back : (f : ℕ → ℕ) (b : ℕ) (xs : List ℕ) (n q r : ℕ) → Walk f b (reverse xs) → item xs n ≡ Some q → item xs (suc n) ≡ Some r → f r ≡ q
walk_items_back f b [] n q r w g h = cc
walk_items_back f b (x ∷ []) zero q r w g h = cc
walk_items_back f b (x ∷ y ∷ ys) zero q r w g h = ap f (sym (by_some y r h)) ∙ walk_next f b (reverse ys) y x [] (subst (Walk f b) (reverse-cut (x ∷ []) y ys) w) ∙ by_some x q g
walk_items_back f b (x ∷ xs) (suc n) q r w g h = walk_items_back f b xs n q r (walk_left f b (reverse xs) (x ∷ []) (subst (Walk f b) (reverse-cons x xs) w)) g h

walk_first : (f : ℕ → ℕ) (a : ℕ) (xs : List ℕ) (q : ℕ) → Walk f a xs → item xs 0 ≡ Some q → a ≡ q
walk_first f a [] q w h = cc
walk_first f a (x ∷ xs) q w h = w.0 ∙ by_some x q h

walk_last : (f : ℕ → ℕ) (b : ℕ) (xs : List ℕ) (n q : ℕ) → Walk f b (reverse xs) → suc n ≡ length xs → item xs n ≡ Some q → b ≡ q
walk_last f b xs n q w long h = elim (ends xs) [
  | inl e ↦ absurd (let z = ap length e in omega arith)
  | inr r ↦ let zs = r.0 in let z = r.1 in
      let back : Walk f b (z ∷ reverse zs) = subst (Walk f b) (ap reverse r.2 ∙ reverse-cut zs z []) w in
      let here : n ≡ length zs = let l = ap length r.2 in omega (arith, l, length_put zs z) in
      let at : item xs n ≡ Some z = (λ j. item (r.2 j) (here j)) ∙ sym (item-slice_get (zs ++ z ∷ []) (length zs)) ∙ slice_get-cut zs z [] in
      back.0 ∙ by_some z q (sym at ∙ h)
]
  where
    length_put : (l : List ℕ) (y : ℕ) → length (l ++ y ∷ []) ≡ length l + 1
    length_put [] y = refl
    length_put (x ∷ l) y = let on = length_put l y in omega arith

module _ {K X : Type 0} where
  pub key_item : (es : List (K × X)) (n : ℕ) (e : K × X) → item es n ≡ Some e → slice_get (keys_of es) n ≡ Some e.0
  key_item [] n e h = cc
  key_item (f ∷ es) zero e h = ap (λ g. Some g.0) (by_some f e h)
  key_item (f ∷ es) (suc n) e h = key_item es n e h

  pub no_key : (es : List (K × X)) (n : ℕ) → length es ≤ n → slice_get (keys_of es) n ≡ None
  no_key [] n h = refl
  no_key (e ∷ es) zero h = absurd (omega arith)
  no_key (e ∷ es) (suc n) h = no_key es n (omega arith)

  pub length-keys : (es : List (K × X)) → length (keys_of es) ≡ length es
  length-keys [] = refl
  length-keys (e ∷ es) = ap suc (length-keys es)

  module _ (eq : K → K → Bool) (laws : IsEquivalence eq) where
    apart_item : (k : K) (es : List (K × X)) (n : ℕ) (e : K × X) → AllByRecursion (λ y. eq k y ≡ false) (keys_of es) → item es n ≡ Some e → eq k e.0 ≡ false
    apart_item k [] n e a h = cc
    apart_item k (f ∷ es) zero e a h = subst (λ g. eq k g.0 ≡ false) (by_some f e h) a.0
    apart_item k (f ∷ es) (suc n) e a h = apart_item k es n e a.1 h

    or_len_item : (es : List (K × X)) (n : ℕ) (e : K × X) → IsDistinct eq (keys_of es) → item es n ≡ Some e → position_or_len (eq e.0) (keys_of es) ≡ n
    unfolding IsDistinct
    or_len_item [] n e d h = cc
    or_len_item (f ∷ es) zero e d h = ap (λ b. cond (not b) (1 + position_or_len (eq e.0) (keys_of es)) 0) (ap (λ g. eq e.0 g.0) (by_some f e h) ∙ laws.refl e.0)
    or_len_item (f ∷ es) (suc n) e d h =
        ap (λ b. cond (not b) (1 + position_or_len (eq e.0) (keys_of es)) 0) (laws.symm e.0 f.0 ∙ apart_item f.0 es n e d.0 h) ∙ ap (λ m. 1 + m) (or_len_item es n e d.1 h) ∙ omega arith

    pub position_item : (es : List (K × X)) (n : ℕ) (e : K × X) → IsDistinct eq (keys_of es) → item es n ≡ Some e → position (eq e.0) (keys_of es) ≡ Some n
    position_item es n e d h =
        let within : n < length (keys_of es) = omega (arith, item_length es n e h, length-keys es) in
        ap (λ m. cond (nat_lt m (length (keys_of es))) (Some m) None) (or_len_item es n e d h) ∙ ap (λ b. cond b (Some n) None) (lt-ltb n _ within)

    pub set_item : (es : List (K × X)) (n : ℕ) (e : K × X) (w : X) → IsDistinct eq (keys_of es) → item es n ≡ Some e → set_value (eq e.0) es w ≡ set_value_at es n w
    unfolding IsDistinct
    set_item [] n e w d h = cc
    set_item (f ∷ es) zero e w d h = ap (λ b. cond b ((f.0, w) ∷ es) (f ∷ set_value (eq e.0) es w)) (ap (λ g. eq e.0 g.0) (by_some f e h) ∙ laws.refl e.0)
    set_item (f ∷ es) (suc n) e w d h =
        ap (λ b. cond b ((f.0, w) ∷ es) (f ∷ set_value (eq e.0) es w)) (laws.symm e.0 f.0 ∙ apart_item f.0 es n e d.0 h) ∙ ap (λ l. f ∷ l) (set_item es n e w d.1 h)

module _ {K V : Type 0} where
  item_pairs : (es : List (K × Node V)) (ps : List ℕ) (n q : ℕ) (e : K × Node V) → AllBelow (length es) ps → item ps n ≡ Some q → item es q ≡ Some e → item (pairs_at es ps) n ≡ Some (e.0, e.1.value)
  item_pairs es [] n q e b g h = cc
  item_pairs es (p ∷ ps) zero q e b g h =
      ap (λ o. item (option_map_or (λ f. f ∷ pairs_at es ps) (option_map {U = K × V} (λ f. (f.0, f.1.value)) o) (pairs_at es ps)) 0) (ap (item es) (by_some p q g) ∙ h)
  item_pairs es (p ∷ ps) (suc n) q e b g h =
      let t = item_within es p b.0 in
      ap (λ o. item (option_map_or (λ f. f ∷ pairs_at es ps) (option_map {U = K × V} (λ f. (f.0, f.1.value)) o) (pairs_at es ps)) (suc n)) t.1 ∙ item_pairs es ps n q e b.1 g h

  -- the n-th pair stands at position q
  pub record Stands (eq : K → K → Bool) (es : List (K × Node V)) (first n q : ℕ) : Type 0 where
    pub place : item (places es first) n ≡ Some q
    pub within : q < length es
    pub node : K × Node V
    pub at : item es q ≡ Some node
    pub pair : item (pairs_of es first) n ≡ Some (node.0, node.1.value)
    pub position : position_at eq (pairs_of es first) (keys_of es) n ≡ q

  module _ (eq : K → K → Bool) (laws : IsEquivalence eq) (es : List (K × Node V)) (first last : ℕ) (i : IsLinked eq es first last) where
    pub stands : (n : ℕ) → n < length (pairs_of es first) → (q : ℕ) × Stands eq es first n q
    stands n h =
        let c = i.chain in let w = i.whole in
        let t = item_there (places es first) n (omega (arith, h, length-pairs es (places es first) c.below)) in let q = t.0 in
        let b = item_below (length es) (places es first) n q c.below t.1 in
        let f = item_within es q b in let e = f.0 in
        let p = item_pairs es (places es first) n q e c.below t.1 f.1 in (
          q,
          record {
            place = t.1;
            within = b;
            node = e;
            at = f.1;
            pair = p;
            position = ap (λ o. option_map_or (λ k. position_or_len (eq k) (keys_of es)) o 0) (key_item (pairs_of es first) n (e.0, e.1.value) p) ∙ or_len_item eq laws es q e i.distinct f.1;
          },
        )

    pub past : (n : ℕ) → length (pairs_of es first) ≤ n → position_at eq (pairs_of es first) (keys_of es) n ≡ 0
    past n h = ap (λ o. option_map_or (λ k. position_or_len (eq k) (keys_of es)) o 0) (no_key (pairs_of es first) n h)

    pub first_is : (q : ℕ) → Stands eq es first 0 q → q ≡ first
    first_is q s = let c = i.chain in sym (walk_first (after_at es) first (places es first) q c.forward s.place)

    pub last_is : (n q : ℕ) → suc n ≡ length (pairs_of es first) → Stands eq es first n q → q ≡ last
    last_is n q long s = let c = i.chain in sym (walk_last (before_at es) last (places es first) n q c.backward (long ∙ length-pairs es (places es first) c.below) s.place)

    pub same_place : (m n q : ℕ) → Stands eq es first m q → Stands eq es first n q → m ≡ n
    same_place m n q s t = let c = i.chain in item_apart (places es first) m n q c.apart s.place t.place

    pub after_is : (n q r : ℕ) → Stands eq es first n q → Stands eq es first (suc n) r → after_at es q ≡ r
    after_is n q r s t = let c = i.chain in walk_items (after_at es) first (places es first) n q r c.forward s.place t.place

    pub before_is : (n q r : ℕ) → Stands eq es first n q → Stands eq es first (suc n) r → before_at es r ≡ q
    before_is n q r s t = let c = i.chain in walk_items_back (before_at es) last (places es first) n q r c.backward s.place t.place

    -- a write at the position of the n-th pair
    pub written_place : (n q : ℕ) → Stands eq es first n q → (w : V) → written_at eq (pairs_of es first) (keys_of es) q w ≡ set_value_at (pairs_of es first) n w
    written_place n q s w = let e = s.node in
        ap (λ o. option_map_or (λ k. set_value (eq k) (pairs_of es first) w) o (pairs_of es first)) (key_item es q e s.at) ∙ set_item eq laws (pairs_of es first) n (e.0, e.1.value) w (distinct_order eq laws es first last i) s.pair

    -- the pair at a position that is given
    pub at_position : (at n : ℕ) → n < length (pairs_of es first) → at ≡ position_at eq (pairs_of es first) (keys_of es) n → Stands eq es first n at
    at_position at n h p = let s = stands n h in let t = s.1 in subst (Stands eq es first n) (sym (p ∙ t.position)) t

    pub position_within : (at : ℕ) → IsPosition eq (pairs_of es first) (keys_of es) at → at < length es
    position_within at p = let s = at_position at p.0 p.1 p.2 in s.within

    pub behind_last : (at n : ℕ) → n < length (pairs_of es first) → at ≡ position_at eq (pairs_of es first) (keys_of es) n → at ≡ last → 0 ≡ position_at eq (pairs_of es first) (keys_of es) (n + 1)
    behind_last at n h p e =
        let m = length (pairs_of es first) - 1 in let end : suc m ≡ length (pairs_of es first) = omega (arith, h) in
        let t = stands m (omega (arith, end)) in
        let same : at ≡ t.0 = e ∙ sym (last_is m t.0 end t.1) in
        let place = same_place n m t.0 (subst (Stands eq es first n) same (at_position at n h p)) t.1 in
        sym (past (n + 1) (omega (arith, end, place)))

    pub behind : (at n : ℕ) → n < length (pairs_of es first) → at ≡ position_at eq (pairs_of es first) (keys_of es) n → (at ≡ last → ⊥) → after_at es at ≡ position_at eq (pairs_of es first) (keys_of es) (n + 1)
    behind at n h p ends =
        let s = at_position at n h p in
        let more : n + 1 ≡ suc n = omega arith in
        elim (eqb_tells (suc n) (length (pairs_of es first))) [
          | inl t ↦ absurd (ends (last_is n at t.1 s))
          | inr f ↦ let u = stands (suc n) (omega (arith, h, f.1)) in let r = u.1 in
              after_is n at u.0 s r ∙ sym r.position ∙ ap (position_at eq (pairs_of es first) (keys_of es)) (sym more)
        ]

    pub before_first : (at n : ℕ) → n < length (pairs_of es first) → at ≡ position_at eq (pairs_of es first) (keys_of es) n → at ≡ first → at ≡ position_at eq (pairs_of es first) (keys_of es) (n - 1)
    before_first at n h p e =
        let t = stands 0 (omega (arith, h)) in
        let same : at ≡ t.0 = e ∙ sym (first_is t.0 t.1) in
        let place = same_place n 0 t.0 (subst (Stands eq es first n) same (at_position at n h p)) t.1 in
        let less : n ≡ n - 1 = omega (arith, place) in
        p ∙ ap (position_at eq (pairs_of es first) (keys_of es)) less

    pub before : (at n : ℕ) → n < length (pairs_of es first) → at ≡ position_at eq (pairs_of es first) (keys_of es) n → (at ≡ first → ⊥) → before_at es at ≡ position_at eq (pairs_of es first) (keys_of es) (n - 1)
    before at zero h p starts = absurd (starts (first_is at (at_position at 0 h p)))
    before at (suc m) h p starts =
        let u = stands m (omega (arith, h)) in let r = u.1 in
        let less : m ≡ suc m - 1 = omega arith in
        before_is m u.0 at r (at_position at (suc m) h p) ∙ sym r.position ∙ ap (position_at eq (pairs_of es first) (keys_of es)) less

  -- the links of a node, as the table reads it
  pub node_links : (es : List (K × Node V)) (i : ℕ) (n : Node V) → slice_get (values_of es) i ≡ Some n → (after_at es i ≡ n.after) × (before_at es i ≡ n.before)
  node_links [] i n h = cc
  node_links (e ∷ es) zero n h = let same : e.1 ≡ n = by_some e.1 n h in (ap (λ m. m.after) same, ap (λ m. m.before) same)
  node_links (e ∷ es) (suc i) n h = node_links es i n h

  -- a node's value, as the table lends it
  pub value_item : (es : List (K × Node V)) (i : ℕ) (e : K × Node V) → slice_get es i ≡ Some e → slice_get (values_of es) i ≡ Some e.1
  value_item [] i e h = cc
  value_item (f ∷ es) zero e h = ap (λ g. Some g.1) (by_some f e h)
  value_item (f ∷ es) (suc i) e h = value_item es i e h

  -- the position of a pair's key
  pub position_pair : (eq : K → K → Bool) (laws : IsEquivalence eq) (es : List (K × Node V)) (at : ℕ) (p : K × V) → IsDistinct eq (keys_of es) → pair_at es at ≡ Some p → position (eq p.0) (keys_of es) ≡ Some at
  position_pair eq laws es at p d h = by_item (item es at) refl h
    where
      by_item : (o : Option (K × Node V)) → item es at ≡ o → option_map {U = K × V} (λ e. (e.0, e.1.value)) o ≡ Some p → position (eq p.0) (keys_of es) ≡ Some at
      by_item None e h = cc
      by_item (Some f) e h = let same : (f.0, f.1.value) ≡ p = by_some (f.0, f.1.value) p h in ap (λ (q : K × V). position (eq q.0) (keys_of es)) (sym same) ∙ position_item eq laws es at f d e
