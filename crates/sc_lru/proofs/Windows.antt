-- What is left of a chain's positions, as they are taken from either end.
use Rattle.std.proofs.Common.{◌≡◌, ℕ, zero, suc, ◌<◌, List, [], ◌∷◌, ◌++◌, Bool, length, reverse, refl, sym, ap, ◌∙◌, subst, arith, Option, Some, option_map, slice_get}
use Rattle.std.specs.Option.{option_map_or}
use Rattle.sc_lru.specs.declared.node.Node.{Node}
use Rattle.sc_lru.specs.Linked.{chase, Walk, AllBelow, after_at, before_at, item, pair_at, pairs_at, IsLinked, pairs_of, window, IsWindow}
use Rattle.sc_lru.proofs.Walks.{reverse-cons, reverse-cut, below-at, below-left}
use Rattle.sc_lru.proofs.Chains.{item-slice_get}
use Rattle.sc_lru.proofs.Pairs.{pairs-cut, length-pairs}

-- a longer walk has one position more behind
pub chase_push : (n : ℕ) (f : ℕ → ℕ) (a : ℕ) → (b : ℕ) × (chase (suc n) f a ≡ chase n f a ++ b ∷ [])
chase_push zero f a = (a, refl)
chase_push (suc n) f a = let on = chase_push n f (f a) in (on.0, ap (λ l. a ∷ l) on.1)

length-chase : (n : ℕ) (f : ℕ → ℕ) (a : ℕ) → length (chase n f a) ≡ n
length-chase zero f a = refl
length-chase (suc n) f a = let on = length-chase n f (f a) in omega arith

pub walk_left : (f : ℕ → ℕ) (a : ℕ) (xs ys : List ℕ) → Walk f a (xs ++ ys) → Walk f a xs
walk_left f a [] ys w = tt
walk_left f a (x ∷ xs) ys w = (w.0, walk_left f (f x) xs ys w.1)

module _ {K V : Type 0} where
  -- the node at a position, as the table reads it
  pub node_at : (es : List (K × Node V)) (i : ℕ) (k : K) (n : Node V) → Some (k, n) ≡ slice_get es i → (pair_at es i ≡ Some (k, n.value)) × (after_at es i ≡ n.after) × (before_at es i ≡ n.before)
  node_at es i k n h = by_item (item es i) (sym (h ∙ item-slice_get es i))
    where
      by_item : (o : Option (K × Node V)) → o ≡ Some (k, n) → (option_map {U = K × V} (λ e. (e.0, e.1.value)) o ≡ Some (k, n.value)) × (option_map_or (λ e. e.1.after) o 0 ≡ n.after) × (option_map_or (λ e. e.1.before) o 0 ≡ n.before)
      by_item o h = (ap (option_map {U = K × V} (λ e. (e.0, e.1.value))) h, ap (λ q. option_map_or (λ e. e.1.after) q 0) h, ap (λ q. option_map_or (λ e. e.1.before) q 0) h)

  -- the position taken in front, and what is then left
  pub record TakenFirst (es : List (K × Node V)) (front back m : ℕ) : Type 0 where
    pub within : front < length es
    pub rest : IsWindow es (after_at es front) back m
    pub pairs : (e : K × V) → pair_at es front ≡ Some e → window es front (suc m) ≡ e ∷ window es (after_at es front) m

  pub take_first : (es : List (K × Node V)) (front back m : ℕ) → IsWindow es front back (suc m) → TakenFirst es front back m
  take_first es front back m w =
      let b = w.below in let ps = chase m (after_at es) (after_at es front) in
      record {
        within = b.0;
        rest = record { below = b.1; backward = walk_left (before_at es) back (reverse ps) (front ∷ []) (subst (Walk (before_at es) back) (reverse-cons front ps) w.backward) };
        pairs = λ e h. pairs-cut es [] front ps e h;
      }

  -- the position taken behind
  pub record TakenLast (es : List (K × Node V)) (front back m : ℕ) : Type 0 where
    pub within : back < length es
    pub rest : IsWindow es front (before_at es back) m
    pub pairs : (e : K × V) → pair_at es back ≡ Some e → window es front (suc m) ≡ window es front m ++ e ∷ []

  pub take_last : (es : List (K × Node V)) (front back m : ℕ) → IsWindow es front back (suc m) → TakenLast es front back m
  take_last es front back m w =
      let c = chase_push m (after_at es) front in let p = c.0 in let zs = chase m (after_at es) front in
      let back_w : Walk (before_at es) back (p ∷ reverse zs) = subst (Walk (before_at es) back) (ap reverse c.1 ∙ reverse-cut zs p []) w.backward in
      let same : back ≡ p = back_w.0 in
      let below : AllBelow (length es) (zs ++ p ∷ []) = subst (AllBelow (length es)) c.1 w.below in
      record {
        within = subst (λ i. i < length es) (sym same) (below-at (length es) zs p [] below);
        rest = record { below = below-left (length es) zs (p ∷ []) below; backward = subst (λ i. Walk (before_at es) (before_at es i) (reverse zs)) (sym same) back_w.1 };
        pairs = λ e h. ap (pairs_at es) c.1 ∙ pairs-cut es zs p [] e (ap (pair_at es) (sym same) ∙ h);
      }

  -- all pairs of an order
  pub whole_window : (eq : K → K → Bool) (es : List (K × Node V)) (first last n : ℕ) → n ≡ length es → IsLinked eq es first last → IsWindow es first last n × (window es first n ≡ pairs_of es first)
  whole_window eq es first last n long i =
      let c = i.chain in
      (subst (IsWindow es first last) (sym long) (record { below = c.below; backward = c.backward }), ap (window es first) long)

  pub length-window : (es : List (K × Node V)) (front back n : ℕ) → IsWindow es front back n → length (window es front n) ≡ n
  length-window es front back n w = length-pairs es (chase n (after_at es) front) w.below ∙ length-chase n (after_at es) front
