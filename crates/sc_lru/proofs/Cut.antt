-- A list of pairs, cut at the one whose key passes a test.
use Rattle.std.proofs.Common.{◌≡◌, ℕ, suc, ◌+◌, ◌<◌, Bool, true, false, cond, List, [], ◌∷◌, ◌++◌, length, take, drop, remove, slice_get, position, is_some, option_map, Option, Some, None, refl, sym, ap, ◌∙◌, arith}
use Rattle.std.specs.Map.{keys_of, lookup, lookup_entry, lookup_key, remove_entry, set_value}
use Rattle.std.specs.Option.{option_map_or}
use Rattle.std.specs.List.{position_or_len}
use Rattle.indexmap.proofs.MapLemmas.{Found-position}
use Rattle.sc_lru.specs.Order.{touched}

module _ {X : Type 0} where
  pub slice_get-cut : (xs : List X) (x : X) (ys : List X) → slice_get (xs ++ x ∷ ys) (length xs) ≡ Some x
  slice_get-cut [] x ys = refl
  slice_get-cut (z ∷ xs) x ys = let more : length (z ∷ xs) ≡ suc (length xs) = omega arith in ap (slice_get (z ∷ xs ++ x ∷ ys)) more ∙ slice_get-cut xs x ys

  pub take-cut : (xs ys : List X) → take (length xs) (xs ++ ys) ≡ xs
  take-cut [] ys = refl
  take-cut (z ∷ xs) ys = let more : length (z ∷ xs) ≡ suc (length xs) = omega arith in ap (λ n. take n (z ∷ xs ++ ys)) more ∙ ap (λ l. z ∷ l) (take-cut xs ys)

  pub drop-cut : (xs : List X) (x : X) (ys : List X) → drop (suc (length xs)) (xs ++ x ∷ ys) ≡ ys
  drop-cut [] x ys = refl
  drop-cut (z ∷ xs) x ys = let more : length (z ∷ xs) ≡ suc (length xs) = omega arith in ap (λ n. drop (suc n) (z ∷ xs ++ x ∷ ys)) more ∙ drop-cut xs x ys

  pub remove-cut : (xs : List X) (x : X) (ys : List X) → remove (xs ++ x ∷ ys) (length xs) ≡ xs ++ ys
  remove-cut xs x ys = λ j. take-cut xs (x ∷ ys) j ++ drop-cut xs x ys j

pub none_from_is_some : {V : Type 0} (o : Option V) → is_some o ≡ false → o ≡ None
none_from_is_some None h = refl
none_from_is_some (Some v) h = cc

module _ {K V : Type 0} (test : K → Bool) where
  abbrev pub NonePasses : List (K × V) → Type 0
  NonePasses [] = Unit {0}
  NonePasses (e ∷ es) = (test e.0 ≡ false) × NonePasses es

  -- the list is cut at the first pair whose key passes
  pub record IsCut (es xs : List (K × V)) (e : K × V) (ys : List (K × V)) : Type 0 where
    pub parts : es ≡ xs ++ e ∷ ys
    pub none : NonePasses xs
    pub passes : test e.0 ≡ true

  -- what follows
  pub record Hit (es xs : List (K × V)) (e : K × V) (ys : List (K × V)) : Type 0 where
    pub value : lookup test es ≡ Some e.1
    pub entry : lookup_entry test es ≡ Some e
    pub removed : remove_entry test es ≡ xs ++ ys
    pub last : touched test es ≡ (xs ++ ys) ++ e ∷ []

  hit_value : (xs : List (K × V)) (e : K × V) (ys : List (K × V)) → NonePasses xs → test e.0 ≡ true → lookup test (xs ++ e ∷ ys) ≡ Some e.1
  hit_value [] e ys h p = rw p
  hit_value (x ∷ xs) e ys h p = rw h.0 (hit_value xs e ys h.1 p)

  hit_entry : (xs : List (K × V)) (e : K × V) (ys : List (K × V)) → NonePasses xs → test e.0 ≡ true → lookup_entry test (xs ++ e ∷ ys) ≡ Some e
  hit_entry [] e ys h p = rw p
  hit_entry (x ∷ xs) e ys h p = rw h.0 (hit_entry xs e ys h.1 p)

  hit_removed : (xs : List (K × V)) (e : K × V) (ys : List (K × V)) → NonePasses xs → test e.0 ≡ true → remove_entry test (xs ++ e ∷ ys) ≡ xs ++ ys
  hit_removed [] e ys h p = rw p
  hit_removed (x ∷ xs) e ys h p = rw h.0 (ap (λ l. x ∷ l) (hit_removed xs e ys h.1 p))

  pub hit_set : (xs : List (K × V)) (e : K × V) (ys : List (K × V)) (w : V) → NonePasses xs → test e.0 ≡ true → set_value test (xs ++ e ∷ ys) w ≡ xs ++ (e.0, w) ∷ ys
  hit_set [] e ys w h p = rw p
  hit_set (x ∷ xs) e ys w h p = rw h.0 (ap (λ l. x ∷ l) (hit_set xs e ys w h.1 p))

  pub hit : (es xs : List (K × V)) (e : K × V) (ys : List (K × V)) → IsCut es xs e ys → Hit es xs e ys
  hit es xs e ys c =
      let value : lookup test es ≡ Some e.1 = ap (lookup test) c.parts ∙ hit_value xs e ys c.none c.passes in
      let entry : lookup_entry test es ≡ Some e = ap (lookup_entry test) c.parts ∙ hit_entry xs e ys c.none c.passes in
      let removed : remove_entry test es ≡ xs ++ ys = ap (remove_entry test) c.parts ∙ hit_removed xs e ys c.none c.passes in
      record { value = value; entry = entry; removed = removed; last = λ j. option_map_or (λ f. removed j ++ f ∷ []) (entry j) es }

  -- a list whose first passing key is at i, cut there
  abbrev pub CutAt : List (K × V) → ℕ → Type 0
  CutAt es i = (xs : List (K × V)) × (e : K × V) × (ys : List (K × V)) × IsCut es xs e ys × (length xs ≡ i)

  cut_or_len : (es : List (K × V)) (i : ℕ) → position_or_len test (keys_of es) ≡ i → i < length es → CutAt es i
  cut_or_len [] i p h = absurd (omega arith)
  cut_or_len (e ∷ es) i p h = (elim (test e.0) as (λ y. test e.0 ≡ y → CutAt (e ∷ es) i) [
    | true ↦ λ t. let q : 0 ≡ i = rw t at p in ([], e, es, record { parts = refl; none = tt; passes = t }, q)
    | false ↦ λ t. let q : 1 + position_or_len test (keys_of es) ≡ i = rw t at p in
        let on = cut_or_len es (position_or_len test (keys_of es)) refl (omega arith) in let c = on.3 in let long = on.4 in
        (e ∷ on.0, on.1, on.2, record { parts = ap (λ l. e ∷ l) c.parts; none = (t, c.none); passes = c.passes }, omega arith)
  ]) refl

  pub cut_position : (es : List (K × V)) (i : ℕ) → position test (keys_of es) ≡ Some i → CutAt es i
  cut_position es i p = let f = Found-position test es i p in cut_or_len es i f.or_len f.within

  -- a key that passes, by `lookup_key` and `lookup`
  pub entry_from_parts : (es : List (K × V)) (r : Option (K × V)) → option_map (λ p. p.0) r ≡ lookup_key test es → option_map (λ p. p.1) r ≡ lookup test es → r ≡ lookup_entry test es
  entry_from_parts [] None a b = refl
  entry_from_parts [] (Some r) a b = cc
  entry_from_parts (e ∷ es) r a b = (elim (test e.0) as (λ y. test e.0 ≡ y → r ≡ lookup_entry test (e ∷ es)) [
    | true ↦ λ t. rw t (by_some r e (rw t at a) (rw t at b))
    | false ↦ λ t. rw t (entry_from_parts es r (rw t at a) (rw t at b))
  ]) refl
    where
      by_some : (r : Option (K × V)) (e : K × V) → option_map (λ p. p.0) r ≡ Some e.0 → option_map (λ p. p.1) r ≡ Some e.1 → r ≡ Some e
      by_some None e a b = cc
      by_some (Some r) e a b = let x : r.0 ≡ e.0 = cc in let y : r.1 ≡ e.1 = cc in λ j. Some (x j, y j)

  -- no key passes
  pub none_from_lookup : (es : List (K × V)) → lookup test es ≡ None → NonePasses es
  none_from_lookup [] h = tt
  none_from_lookup (e ∷ es) h = (elim (test e.0) as (λ y. test e.0 ≡ y → NonePasses (e ∷ es)) [
    | true ↦ λ t. let h' = rw t at h in cc
    | false ↦ λ t. (t, none_from_lookup es (rw t at h))
  ]) refl

  pub record Missed (es : List (K × V)) : Type 0 where
    pub entry : lookup_entry test es ≡ None
    pub removed : remove_entry test es ≡ es
    pub last : touched test es ≡ es

  miss_entry : (es : List (K × V)) → NonePasses es → lookup_entry test es ≡ None
  miss_entry [] h = refl
  miss_entry (e ∷ es) h = rw h.0 (miss_entry es h.1)

  miss_removed : (es : List (K × V)) → NonePasses es → remove_entry test es ≡ es
  miss_removed [] h = refl
  miss_removed (e ∷ es) h = rw h.0 (ap (λ l. e ∷ l) (miss_removed es h.1))

  pub missed : (es : List (K × V)) → lookup test es ≡ None → Missed es
  missed es h = let n = none_from_lookup es h in let entry = miss_entry es n in
      record { entry = entry; removed = miss_removed es n; last = ap (λ o. option_map_or (λ f. remove_entry test es ++ f ∷ []) o es) entry }

  pub lookup_from_entry : (es : List (K × V)) → option_map (λ e. e.1) (lookup_entry test es) ≡ lookup test es
  lookup_from_entry [] = refl
  lookup_from_entry (e ∷ es) = elim (test e.0) as (λ y. option_map (λ f. f.1) (cond y (Some e) (lookup_entry test es)) ≡ cond y (Some e.1) (lookup test es)) [
    | true ↦ refl
    | false ↦ lookup_from_entry es
  ]

  none_value : (o : Option (K × V)) → o ≡ None → option_map (λ e. e.1) o ≡ None
  none_value None h = refl
  none_value (Some e) h = cc

  pub removed_none : (es : List (K × V)) → lookup_entry test es ≡ None → remove_entry test es ≡ es
  removed_none es h = (missed es (sym (lookup_from_entry es) ∙ none_value (lookup_entry test es) h)).removed
