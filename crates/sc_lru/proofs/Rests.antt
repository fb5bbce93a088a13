-- The pairs that an `IterMut` has left.
use Rattle.std.proofs.Common.{Bool, ◌≡◌, ℕ, zero, suc, ◌+◌, ◌-◌, ◌<◌, ◌≤◌, List, [], ◌∷◌, length, take, drop, slice_get, refl, sym, ap, ◌∙◌, arith, length-take, length-drop}
use Rattle.std.specs.Option.{option_map, option_map_or}
use Rattle.std.specs.List.{position_or_len}
use Rattle.std.specs.Map.{keys_of}
use Rattle.indexmap.specs.IndexMap.{set_value_at}
use Rattle.indexmap.specs.Layout.{length-set_value_at}
use Rattle.std_collections.proofs.Entries.{keys_set_value_at}
use Rattle.sc_lru.specs.Order.{position_at}
use Rattle.sc_lru.specs.declared.iter_mut.IterMut.{IterMut}
use Rattle.sc_lru.specs.IterMut.{first_written, last_written, rest, IsReady}

module _ {X : Type 0} where
  get-take : (n : ℕ) (xs : List X) (i : ℕ) → i < n → slice_get (take n xs) i ≡ slice_get xs i
  get-take zero xs i h = absurd (omega arith)
  get-take (suc n) [] i h = refl
  get-take (suc n) (x ∷ xs) zero h = refl
  get-take (suc n) (x ∷ xs) (suc i) h = get-take n xs i (omega arith)

  get-drop : (m : ℕ) (xs : List X) (i : ℕ) → slice_get (drop m xs) i ≡ slice_get xs (m + i)
  get-drop zero xs i = let same : i ≡ 0 + i = omega arith in ap (slice_get xs) same
  get-drop (suc m) [] i = refl
  get-drop (suc m) (x ∷ xs) i = let more : suc (m + i) ≡ suc m + i = omega arith in get-drop m xs i ∙ ap (slice_get (x ∷ xs)) more

  pub get_rest : (m n : ℕ) (xs : List X) (i : ℕ) → i < n → slice_get (take n (drop m xs)) i ≡ slice_get xs (m + i)
  get_rest m n xs i h = get-take n (drop m xs) i h ∙ get-drop m xs i

  pub length_rest : (m n : ℕ) (xs : List X) → m + n ≤ length xs → length (take n (drop m xs)) ≡ n
  length_rest m n xs h = omega (arith, h, length-take n (drop m xs), length-drop m xs)

  take-nil : (n : ℕ) → take {A = X} n [] ≡ []
  take-nil zero = refl
  take-nil (suc n) = refl

  drop-nil : (n : ℕ) → drop {A = X} n [] ≡ []
  drop-nil zero = refl
  drop-nil (suc n) = refl

module _ {K V : Type 0} where
  get-keys : (es : List (K × V)) (i : ℕ) → slice_get (keys_of es) i ≡ option_map (λ e. e.0) (slice_get es i)
  get-keys [] i = refl
  get-keys (e ∷ es) zero = refl
  get-keys (e ∷ es) (suc i) = get-keys es i

  pub rest_key : (m n : ℕ) (es : List (K × V)) (i : ℕ) → i < n → slice_get (keys_of (take n (drop m es))) i ≡ slice_get (keys_of es) (m + i)
  rest_key m n es i h = get-keys (take n (drop m es)) i ∙ ap (option_map (λ (e : K × V). e.0)) (get_rest m n es i h) ∙ sym (get-keys es (m + i))

  first_gone : (es : List (K × V)) (m k : ℕ) (v : V) → take k (drop (suc m) (set_value_at es m v)) ≡ drop 1 (take (suc k) (drop m es))
  first_gone [] m k v = take-nil k ∙ sym (ap (λ l. drop 1 (take (suc k) l)) (drop-nil m))
  first_gone (e ∷ es) zero k v = refl
  first_gone (e ∷ es) (suc m) k v = first_gone es m k v

  front_stays : (es : List (K × V)) (k : ℕ) (v : V) → take k (set_value_at es k v) ≡ take k (take (suc k) es)
  front_stays [] k v = take-nil k ∙ sym (take-nil k)
  front_stays (e ∷ es) zero v = refl
  front_stays (e ∷ es) (suc k) v = ap (λ l. e ∷ l) (front_stays es k v)

  last_gone : (es : List (K × V)) (m k : ℕ) (v : V) → take k (drop m (set_value_at es (m + k) v)) ≡ take k (take (suc k) (drop m es))
  last_gone es zero k v = let same : 0 + k ≡ k = omega arith in ap (λ i. take k (set_value_at es i v)) same ∙ front_stays es k v
  last_gone [] (suc m) k v = take-nil k ∙ sym (take-nil k)
  last_gone (e ∷ es) (suc m) k v = let more : suc m + k ≡ suc (m + k) = omega arith in ap (λ i. take k (drop (suc m) (set_value_at (e ∷ es) i v))) more ∙ last_gone es m k v

  position_same : (eq : K → K → Bool) (es fs : List (K × V)) (ks : List K) (i j : ℕ) → keys_of fs ≡ keys_of es → i ≡ j → position_at eq es ks i ≡ position_at eq fs ks j
  position_same eq es fs ks i j keys same = (λ t. option_map_or (λ k. position_or_len (eq k) ks) (slice_get (sym keys t) (same t)) 0)

module _ {K V S H : Type 0} (eq : K → K → Bool) (s : IterMut K V S H) (r : IsReady eq s) (some : 0 < length (rest s)) where
  pub left_is : length (rest s) ≡ s.left
  left_is = length_rest s.lent s.left s.cache.now.entries r.within

  pub first_place : s.lent < length s.cache.now.entries
  first_place = let n = left_is in let w = r.within in omega (arith, n, w, some)

  pub last_place : s.lent + s.left - 1 < length s.cache.now.entries
  last_place = let n = left_is in let w = r.within in omega (arith, n, w, some)

  pub first_ready : (v : V) → IsReady eq (first_written eq s v)
  first_ready v =
      let es = s.cache.now.entries in let ks = s.cache.now.slots in
      let n = left_is in let w = r.within in let f = r.fits in
      let long = length-set_value_at es s.lent v in let keys = keys_set_value_at es s.lent v in
      record {
        fits = omega (arith, n, f, some);
        within = omega (arith, n, w, some, long);
        front = position_same eq es (set_value_at es s.lent v) ks (s.lent + 1) (s.lent + 1) keys refl;
        back = r.back ∙ position_same eq es (set_value_at es s.lent v) ks (s.lent + s.left - 1) (s.lent + 1 + (s.left - 1) - 1) keys (omega (arith, n, some));
      }

  pub last_ready : (v : V) → IsReady eq (last_written eq s v)
  last_ready v =
      let es = s.cache.now.entries in let ks = s.cache.now.slots in let at = s.lent + s.left - 1 in
      let n = left_is in let w = r.within in let f = r.fits in
      let long = length-set_value_at es at v in let keys = keys_set_value_at es at v in
      record {
        fits = omega (arith, n, f, some);
        within = omega (arith, n, w, some, long);
        front = r.front ∙ position_same eq es (set_value_at es at v) ks s.lent s.lent keys refl;
        back = position_same eq es (set_value_at es at v) ks (s.lent + s.left - 1 - 1) (s.lent + (s.left - 1) - 1) keys (omega (arith, n, some));
      }

  pub first_rest : (v : V) → rest (first_written eq s v) ≡ drop 1 (rest s)
  first_rest v =
      let es = s.cache.now.entries in let n = left_is in
      let more : s.lent + 1 ≡ suc s.lent = omega arith in let all : suc (s.left - 1) ≡ s.left = omega (arith, n, some) in
      ap (λ m. take (s.left - 1) (drop m (set_value_at es s.lent v))) more ∙ first_gone es s.lent (s.left - 1) v ∙ ap (λ k. drop 1 (take k (drop s.lent es))) all

  pub last_rest : (v : V) → rest (last_written eq s v) ≡ take (length (rest s) - 1) (rest s)
  last_rest v =
      let es = s.cache.now.entries in let n = left_is in
      let at : s.lent + s.left - 1 ≡ s.lent + (s.left - 1) = omega (arith, n, some) in let all : suc (s.left - 1) ≡ s.left = omega (arith, n, some) in
      let less : s.left - 1 ≡ length (rest s) - 1 = omega (arith, n) in
      ap (λ i. take (s.left - 1) (drop s.lent (set_value_at es i v))) at ∙ last_gone es s.lent (s.left - 1) v ∙ (λ t. take (less t) (take (all t) (drop s.lent es)))
