-- Where a key's values stand, which is next, and how often a key was answered.
use Rattle.std.proofs.Common.{◌≡◌, ℕ, zero, suc, ◌+◌, ◌-◌, ◌^◌, ◌<◌, ◌≤◌, min, Bool, true, false, cond, if◌then◌else◌, List, [], ◌∷◌, ◌++◌, length, get_or, Option, Some, None, refl, ap, sym, ◌∙◌, arith, length-append}
use Rattle.std.specs.Global.{Vec}
use Rattle.std.specs.Prelude.{slice_get, unwrap_or}
use Rattle.std.specs.Option.{option_map_or}
use Rattle.std.specs.Cmp.Lexicographic.{slice_cmp, texts_ties}
use Rattle.std.specs.Ordering.{is_eq, nat_cmp}
use Rattle.std.specs.Str.{bytes_eq}
use Rattle.std.proofs.lemmas.Slice.Eq.{bytes_eq-Decides}
use Rattle.sc_compile_table.specs.Books.{count_of, next_of, places_from, values_of}
use Rattle.sc_compile_table.proofs.Places.{Stands, stands_first, stands_on}

-- ---- the next of a list

pub next_here : (ps : List ℕ) (n : ℕ) → n < length ps → Some (get_or ps n 0) ≡ next_of n ps
next_here [] n lt = absurd (omega arith)
next_here (p ∷ []) zero lt = refl
next_here (p ∷ []) (suc n) lt = absurd (omega arith)
next_here (p ∷ q ∷ ps) zero lt = refl
next_here (p ∷ q ∷ ps) (suc n) lt = next_here (q ∷ ps) n (omega arith)

pub next_last : (ps : List ℕ) (n : ℕ) → length ps ≤ n → slice_get ps (length ps - 1) ≡ next_of n ps
next_last [] n le = refl
next_last (p ∷ []) n le = refl
next_last (p ∷ q ∷ ps) zero le = absurd (omega arith)
next_last (p ∷ q ∷ ps) (suc n) le =
    let e : length (p ∷ q ∷ ps) - 1 ≡ suc (length (q ∷ ps) - 1) = omega arith in rw e (next_last (q ∷ ps) n (omega arith))

-- ---- a key's values and their places

module _ {T : Type 0} (key_of : T → List ℕ) where
  -- places and values, each at its place
  abbrev pub AllStand : List T → ℕ → List ℕ → List T → Type 0
  AllStand vs i [] [] = Unit {0}
  AllStand vs i [] (a ∷ rest) = ⊥
  AllStand vs i (p ∷ ps) [] = ⊥
  AllStand vs i (p ∷ ps) (a ∷ rest) = Stands key_of vs i p a × AllStand vs i ps rest

  all_on : (v : T) (vs : List T) (i : ℕ) (ps : List ℕ) (all : List T) → AllStand vs (suc i) ps all → AllStand (v ∷ vs) i ps all
  all_on v vs i [] [] s = tt
  all_on v vs i [] (a ∷ all) s = absurd s
  all_on v vs i (p ∷ ps) [] s = absurd s
  all_on v vs i (p ∷ ps) (a ∷ all) s = (stands_on key_of v vs i p a s.0, all_on v vs i ps all s.1)

  placed_if : (b : Bool) (v : T) (vs : List T) (i : ℕ) (ps : List ℕ) (all : List T) → AllStand vs (suc i) ps all → AllStand (v ∷ vs) i (if b then i ∷ ps else ps) (if b then v ∷ all else all)
  placed_if true v vs i ps all s = (stands_first key_of v vs i, all_on v vs i ps all s)
  placed_if false v vs i ps all s = all_on v vs i ps all s

  all_stand : (key : List ℕ) (vs : List T) (i : ℕ) → AllStand vs i (places_from key_of key i vs) (values_of key_of key vs)
  all_stand key [] i = tt
  all_stand key (v ∷ vs) i = placed_if (bytes_eq (key_of v) key) v vs i (places_from key_of key (suc i) vs) (values_of key_of key vs) (all_stand key vs (suc i))

  -- the next place, and the next value
  abbrev pub NextStand : List T → Option ℕ → Option T → Type 0
  NextStand vs None None = Unit {0}
  NextStand vs None (Some a) = ⊥
  NextStand vs (Some p) None = ⊥
  NextStand vs (Some p) (Some a) = Stands key_of vs 0 p a

  next_stands : (vs : List T) (n : ℕ) (ps : List ℕ) (all : List T) → AllStand vs 0 ps all → NextStand vs (next_of n ps) (next_of n all)
  next_stands vs n [] [] s = tt
  next_stands vs n [] (a ∷ all) s = absurd s
  next_stands vs n (p ∷ ps) [] s = absurd s
  next_stands vs n (p ∷ []) (a ∷ []) s = s.0
  next_stands vs n (p ∷ []) (a ∷ b ∷ all) s = absurd s.1
  next_stands vs n (p ∷ q ∷ ps) (a ∷ []) s = absurd s.1
  next_stands vs zero (p ∷ q ∷ ps) (a ∷ b ∷ all) s = s.0
  next_stands vs (suc n) (p ∷ q ∷ ps) (a ∷ b ∷ all) s = next_stands vs n (q ∷ ps) (b ∷ all) s.1

  none_of : (vs : List T) (o : Option ℕ) (r : Option T) → NextStand vs o r → o ≡ None → None ≡ r
  none_of vs None None s e = refl
  none_of vs None (Some a) s e = absurd s
  none_of vs (Some p) r s e = absurd (cc)

  pub record NextFound (vs : List T) (p : ℕ) (r : Option T) : Type 0 where
    pub high : p < length vs
    pub is : (v : T) → v ≡ get_or vs p v → Some v ≡ r

  found_of : (vs : List T) (o : Option ℕ) (r : Option T) (p : ℕ) → NextStand vs o r → o ≡ Some p → NextFound vs p r
  found_of vs None r p s e = absurd (cc)
  found_of vs (Some q) None p s e = absurd s
  found_of vs (Some q) (Some a) p s e =
      let same : q ≡ p = cc in
      let high = s.high in
      record { high = omega arith; is = λ v l. ap Some (s.is v (l ∙ at_zero q p v same)) }
    where
      at_zero : (q p : ℕ) (v : T) → q ≡ p → get_or vs p v ≡ get_or vs (q - 0) v
      at_zero q p v same = let e : q - 0 ≡ p = omega arith in rw e refl

  -- what the next place of a key says of its next value
  pub next_none : (key : List ℕ) (vs : List T) (n m : ℕ) (ps : List ℕ) → ps ≡ places_from key_of key 0 vs → n ≡ m → next_of n ps ≡ None → None ≡ next_of m (values_of key_of key vs)
  next_none key vs n m ps stand same e =
      none_of vs (next_of m (places_from key_of key 0 vs)) _ (next_stands vs m (places_from key_of key 0 vs) (values_of key_of key vs) (all_stand key vs 0)) (rw (← stand, ← same) e)

  pub next_found : (key : List ℕ) (vs : List T) (n m p : ℕ) (ps : List ℕ) → ps ≡ places_from key_of key 0 vs → n ≡ m → next_of n ps ≡ Some p → NextFound vs p (next_of m (values_of key_of key vs))
  next_found key vs n m p ps stand same e =
      found_of vs (next_of m (places_from key_of key 0 vs)) _ p (next_stands vs m (places_from key_of key 0 vs) (values_of key_of key vs) (all_stand key vs 0)) (rw (← stand, ← same) e)

-- ---- counting answers

if_suc : (b : Bool) (n : ℕ) (c : Bool) → (if b then suc (if c then suc n else n) else (if c then suc n else n)) ≡ (if c then suc (if b then suc n else n) else (if b then suc n else n))
if_suc true n true = refl
if_suc true n false = refl
if_suc false n c = refl

count_more : {A : Type 0} (key : List ℕ) (ds : List (List ℕ × A)) (k : List ℕ) (a : A) → count_of key (ds ++ (k, a) ∷ []) ≡ (if bytes_eq k key then suc (count_of key ds) else count_of key ds)
count_more key [] k a = refl
count_more key (d ∷ ds) k a =
    ap (λ (n : ℕ). if bytes_eq (d.0) key then suc n else n) (count_more key ds k a) ∙ if_suc (bytes_eq (d.0) key) (count_of key ds) (bytes_eq k key)

le_if : (b : Bool) (m n : ℕ) → m ≤ n → (if b then suc m else m) ≤ suc n
le_if true m n le = omega arith
le_if false m n le = omega arith

count_le : {A : Type 0} (key : List ℕ) (ds : List (List ℕ × A)) → count_of key ds ≤ length ds
count_le key [] = omega arith
count_le key (d ∷ ds) = le_if (bytes_eq (d.0) key) (count_of key ds) (length ds) (count_le key ds)

unwrap_if : (b : Bool) (n : ℕ) (o : Option ℕ) → unwrap_or (cond b (Some n) o) 0 ≡ (if b then n else unwrap_or o 0)
unwrap_if true n o = refl
unwrap_if false n o = refl

-- a count that was set at a key
pub set_count : (k key : List ℕ) (old new : Option ℕ) (n m : ℕ) → new ≡ cond (is_eq (slice_cmp nat_cmp k key)) (Some n) old → n ≡ m → unwrap_or new 0 ≡ (if bytes_eq k key then m else unwrap_or old 0)
set_count k key old new n m is same = rw (is, same, ← (texts_ties k key)) (unwrap_if (bytes_eq k key) m old)

counted_if : (b : Bool) (n m t u : ℕ) → (b ≡ true → t ≡ n) → u ≡ n → m ≡ (if b then min (t + 1) (2 ^ 64 - 1) else u) → n + 1 ≤ 2 ^ 64 - 1 → m ≡ (if b then suc n else n)
counted_if true n m t u at other is le = let same = at refl in omega arith
counted_if false n m t u at other is le = is ∙ other

same_key : (k key : List ℕ) → bytes_eq k key ≡ true → k ≡ key
same_key k key e = (bytes_eq-Decides k key).0 e

-- one answer more is counted, where the count has room
pub counts_on : {A : Type 0} (key k : List ℕ) (a : A) (ds more : List (List ℕ × A)) (at old new : ℕ) → more ≡ ds ++ (k, a) ∷ [] → at ≡ count_of k ds → old ≡ count_of key ds → length more ≤ 2 ^ 64 - 1
    → new ≡ (if bytes_eq k key then min (at + 1) (2 ^ 64 - 1) else old) → new ≡ count_of key more
counts_on key k a ds more at old new is taken before room set =
    let le = count_le key ds in
    let len : length more ≡ length ds + 1 = ap length is ∙ length-append ds ((k, a) ∷ []) in
    counted_if (bytes_eq k key) (count_of key ds) new at old (λ e. taken ∙ ap (λ (q : List ℕ). count_of q ds) (same_key k key e)) before set (omega arith)
    ∙ sym (count_more key ds k a) ∙ ap (count_of key) (sym is)

-- ---- a place more of a key

abbrev pub items_of : Option (Vec ℕ) → List ℕ
items_of o = option_map_or (λ v. v.items) o []

pushed_if : (b : Bool) (place : ℕ) (l : List ℕ) (at old mid new : Option (Vec ℕ)) (v : Vec ℕ) → new ≡ cond b (Some v) mid → mid ≡ cond b None old → v.items ≡ l ++ place ∷ [] → l ≡ items_of at → (b ≡ true → at ≡ old)
    → items_of new ≡ (if b then items_of old ++ place ∷ [] else items_of old)
pushed_if true place l at old mid new v set gone is same there = ap items_of set ∙ is ∙ ap (λ (ps : List ℕ). ps ++ place ∷ []) (same ∙ ap items_of (there refl))
pushed_if false place l at old mid new v set gone is same there = ap items_of (set ∙ gone)

-- a key's places were taken out, and put in again with one more
pub pushed : (k other : List ℕ) (place : ℕ) (l : List ℕ) (at : List ℕ → Option (Vec ℕ)) (mid new : Option (Vec ℕ)) (v : Vec ℕ) → new ≡ cond (is_eq (slice_cmp nat_cmp k other)) (Some v) mid → mid ≡ cond (is_eq (slice_cmp nat_cmp k other)) None (at other)
    → v.items ≡ l ++ place ∷ [] → l ≡ items_of (at k) → items_of new ≡ (if bytes_eq k other then items_of (at other) ++ place ∷ [] else items_of (at other))
pushed k other place l at mid new v set gone is same =
    pushed_if (bytes_eq k other) place l (at k) (at other) mid new v (rw (texts_ties k other) set) (rw (texts_ties k other) gone) is same (λ e. ap at (same_key k other e))
