-- Where the first value with a key stands.
use Rattle.std.proofs.Common.{◌≡◌, ℕ, zero, suc, ◌+◌, ◌-◌, ◌<◌, ◌≤◌, Bool, true, false, cond, if◌then◌else◌, List, [], ◌∷◌, length, drop, get_or, Option, Some, None, refl, ap, sym, ◌∙◌, arith}
use Rattle.std.specs.Cmp.Lexicographic.{slice_cmp, texts_ties}
use Rattle.std.specs.Ordering.{is_eq, nat_cmp}
use Rattle.std.specs.Str.{bytes_eq}
use Rattle.sc_compile_table.specs.Tables.{first_of, place_from}

-- the value at a place, before those behind it
pub drop_at : {T : Type 0} (i : ℕ) (vs : List T) (v : T) → i < length vs → v ≡ get_or vs i v → drop i vs ≡ v ∷ drop (suc i) vs
drop_at i [] v lt is = absurd (omega arith)
drop_at zero (x ∷ vs) v lt is = ap (λ y. y ∷ vs) (sym is)
drop_at (suc i) (x ∷ vs) v lt is = drop_at i vs v (omega arith) is

module _ {T : Type 0} (key_of : T → List ℕ) where
  -- a value before others, and the places of those
  pub place_here : (key : List ℕ) (i : ℕ) (v : T) (vs : List T) (old new : Option ℕ) → old ≡ place_from key_of key (suc i) vs
      → new ≡ cond (is_eq (slice_cmp nat_cmp (key_of v) key)) (Some i) old → new ≡ place_from key_of key i (v ∷ vs)
  place_here key i v vs old new is set = rw (set, is, ← (texts_ties (key_of v) key)) refl

  -- what a place says of the value there
  pub record Stands (vs : List T) (i p : ℕ) (first : T) : Type 0 where
    pub low : i ≤ p
    pub high : p < i + length vs
    pub is : (v : T) → v ≡ get_or vs (p - i) v → v ≡ first

  pub stands_first : (v : T) (vs : List T) (i : ℕ) → Stands (v ∷ vs) i i v
  stands_first v vs i = record { low = omega arith; high = omega arith; is = λ x e. e ∙ first i x }
    where
      first : (i : ℕ) (x : T) → get_or (v ∷ vs) (i - i) x ≡ v
      first i x = let none : i - i ≡ 0 = omega arith in rw none refl

  pub stands_on : (v : T) (vs : List T) (i p : ℕ) (first : T) → Stands vs (suc i) p first → Stands (v ∷ vs) i p first
  stands_on v vs i p first s = record {
    low = let low = s.low in omega arith;
    high = let high = s.high in omega arith;
    is = λ x e. s.is x (e ∙ later x);
  }
    where
      later : (x : T) → get_or (v ∷ vs) (p - i) x ≡ get_or vs (p - suc i) x
      later x = let low = s.low in let more : p - i ≡ suc (p - suc i) = omega arith in rw more refl

  -- a place and a value, or neither
  abbrev Says : List T → ℕ → Option ℕ → Option T → Type 0
  Says vs i None None = Unit {0}
  Says vs i None (Some v) = ⊥
  Says vs i (Some p) None = ⊥
  Says vs i (Some p) (Some v) = Stands vs i p v

  says_on : (v : T) (vs : List T) (i : ℕ) (o : Option ℕ) (r : Option T) → Says vs (suc i) o r → Says (v ∷ vs) i o r
  says_on v vs i None None s = tt
  says_on v vs i None (Some r) s = absurd s
  says_on v vs i (Some p) None s = absurd s
  says_on v vs i (Some p) (Some r) s = stands_on v vs i p r s

  says_if : (b : Bool) (v : T) (vs : List T) (i : ℕ) (o : Option ℕ) (r : Option T) → Says vs (suc i) o r → Says (v ∷ vs) i (if b then Some i else o) (if b then Some v else r)
  says_if true v vs i o r s = stands_first v vs i
  says_if false v vs i o r s = says_on v vs i o r s

  says : (key : List ℕ) (i : ℕ) (vs : List T) → Says vs i (place_from key_of key i vs) (first_of key_of key vs)
  says key i [] = tt
  says key i (v ∷ vs) = says_if (bytes_eq (key_of v) key) v vs i (place_from key_of key (suc i) vs) (first_of key_of key vs) (says key (suc i) vs)

  none_by : (vs : List T) (o : Option ℕ) (r : Option T) → Says vs 0 o r → None ≡ o → None ≡ r
  none_by vs None None s e = refl
  none_by vs None (Some r) s e = absurd s
  none_by vs (Some p) r s e = absurd (cc)

  pub record Found (vs : List T) (p : ℕ) (r : Option T) : Type 0 where
    pub high : p < length vs
    pub is : (v : T) → v ≡ get_or vs p v → Some v ≡ r

  found_by : (vs : List T) (o : Option ℕ) (r : Option T) (p : ℕ) → Says vs 0 o r → Some p ≡ o → Found vs p r
  found_by vs None r p s e = absurd (cc)
  found_by vs (Some q) None p s e = absurd s
  found_by vs (Some q) (Some r) p s e =
      let same : q ≡ p = cc in
      let high = s.high in
      record { high = omega arith; is = λ v l. ap Some (s.is v (l ∙ at_zero q p v same)) }
    where
      at_zero : (q p : ℕ) (v : T) → q ≡ p → get_or vs p v ≡ get_or vs (q - 0) v
      at_zero q p v same = let e : q - 0 ≡ p = omega arith in rw e refl

  -- what a kept place says of the first value, and that there is none where none is kept
  pub none_first : (key : List ℕ) (vs : List T) → None ≡ place_from key_of key 0 vs → None ≡ first_of key_of key vs
  none_first key vs e = none_by vs (place_from key_of key 0 vs) (first_of key_of key vs) (says key 0 vs) e

  pub found_first : (key : List ℕ) (vs : List T) (p : ℕ) → Some p ≡ place_from key_of key 0 vs → Found vs p (first_of key_of key vs)
  found_first key vs p e = found_by vs (place_from key_of key 0 vs) (first_of key_of key vs) p (says key 0 vs) e
