-- Lists in strict order, which their elements determine.
use Rattle.std.proofs.Common.{◌≡◌, ◌⊎◌, inl, inr, ℕ, zero, suc, ◌+◌, ◌<◌, Bool, true, false, cond, List, [], ◌∷◌, length, take, drop, get_or, refl, sym, ap, ◌∙◌, subst, arith}
use Rattle.std.proofs.lemmas.List.Elements.{All-from_recursion, recursion_from_All}
use Rattle.std.proofs.lemmas.List.Sorted.{All-permutation, IsPermutation-sym, sorted_far}
use Rattle.std.specs.Cmp.{IsStrictWeakOrder}
use Rattle.std.specs.List.{AllByRecursion, filter}
use Rattle.std.specs.List.Sorted.{IsPermutation, IsSortedBy}

abbrev pub In : {X : Type 0} → X → List X → Type 0
In x [] = ⊥
In x (y ∷ ys) = (y ≡ x) ⊎ In x ys

abbrev pub Rises : {X : Type 0} → (X → X → Bool) → List X → Type 0
Rises lt [] = Unit {0}
Rises lt (x ∷ xs) = AllByRecursion (λ y. lt x y ≡ true) xs × Rises lt xs

pub true_false : (b : Bool) → b ≡ true → b ≡ false → ⊥
true_false true p q = cc
true_false false p q = cc

module _ {X : Type 0} where
  pub all-in : (P : X → Type 0) (xs : List X) (x : X) → AllByRecursion P xs → In x xs → P x
  all-in P [] x a i = absurd i
  all-in P (y ∷ ys) x a (inl e) = subst P e a.0
  all-in P (y ∷ ys) x a (inr i) = all-in P ys x a.1 i

  pub all-from : (P : X → Type 0) (xs : List X) → ((x : X) → In x xs → P x) → AllByRecursion P xs
  all-from P [] h = tt
  all-from P (x ∷ xs) h = (h x (inl refl), all-from P xs (λ y i. h y (inr i)))

  pub perm-in : (xs ys : List X) → IsPermutation xs ys → (z : X) → In z ys → In z xs
  perm-in xs ys p z i = all-in (λ e. In e xs) ys z (recursion_from_All (λ e. In e xs) ys (All-permutation (λ e. In e xs) xs ys p (All-from_recursion (λ e. In e xs) xs (all-from (λ e. In e xs) xs (λ x j. j))))) i

  pub in-perm : (xs ys : List X) → IsPermutation xs ys → (z : X) → In z xs → In z ys
  in-perm xs ys p z i = perm-in ys xs (IsPermutation-sym xs ys p) z i

  first-in : (p : X → Bool) (y : X) (ys : List X) (x : X) (b : Bool) → p y ≡ b → In x (cond b (y ∷ ys) ys) → ((p x ≡ true) × (y ≡ x)) ⊎ In x ys
  first-in p y ys x true is (inl e) = inl (subst (λ z. p z ≡ true) e is, e)
  first-in p y ys x true is (inr i) = inr i
  first-in p y ys x false is i = inr i

  pub in-filter : (p : X → Bool) (xs : List X) (x : X) → In x (filter p xs) → (p x ≡ true) × In x xs
  in-filter p [] x i = absurd i
  in-filter p (y ∷ ys) x i = elim (first-in p y (filter p ys) x (p y) refl i) [
    | inl h ↦ (h.0, inl h.1)
    | inr j ↦ let on = in-filter p ys x j in (on.0, inr on.1)
  ]

  kept-in : (b : Bool) (y : X) (ys : List X) (x : X) → In x ys → In x (cond b (y ∷ ys) ys)
  kept-in true y ys x i = inr i
  kept-in false y ys x i = i

  pub filter-in : (p : X → Bool) (xs : List X) (x : X) → p x ≡ true → In x xs → In x (filter p xs)
  filter-in p [] x t i = absurd i
  filter-in p (y ∷ ys) x t (inl e) = subst (λ b. In x (cond b (y ∷ filter p ys) (filter p ys))) (sym t ∙ ap p (sym e)) (inl e)
  filter-in p (y ∷ ys) x t (inr i) = kept-in (p y) y (filter p ys) x (filter-in p ys x t i)

  all-filter : (P : X → Type 0) (p : X → Bool) (xs : List X) → AllByRecursion P xs → AllByRecursion P (filter p xs)
  all-filter P p xs a = all-from P (filter p xs) (λ x i. all-in P xs x a (in-filter p xs x i).1)

  pub rises-filter : (lt : X → X → Bool) (p : X → Bool) (xs : List X) → Rises lt xs → Rises lt (filter p xs)
  rises-filter lt p [] r = tt
  rises-filter lt p (x ∷ xs) r = (elim (p x) as (λ b. Rises lt (cond b (x ∷ filter p xs) (filter p xs))) [
    | true ↦ (all-filter (λ y. lt x y ≡ true) p xs r.0, rises-filter lt p xs r.1)
    | false ↦ rises-filter lt p xs r.1
  ])

  pub rises-drop : (lt : X → X → Bool) (n : ℕ) (xs : List X) → Rises lt xs → Rises lt (drop n xs)
  rises-drop lt zero [] r = r
  rises-drop lt zero (x ∷ xs) r = r
  rises-drop lt (suc n) [] r = r
  rises-drop lt (suc n) (x ∷ xs) r = rises-drop lt n xs r.1

  abbrev pub OneWay : (X → X → Bool) → Type 0
  OneWay lt = (x y : X) → lt x y ≡ true → lt y x ≡ false

  not_itself : (lt : X → X → Bool) → OneWay lt → (x y : X) → x ≡ y → lt x y ≡ true → ⊥
  not_itself lt o x y e h = true_false (lt x x) (subst (λ z. lt x z ≡ true) (sym e) h) (o x x (subst (λ z. lt x z ≡ true) (sym e) h))

  strip : (lt : X → X → Bool) → OneWay lt → (x y : X) (xs ys : List X) → x ≡ y → AllByRecursion (λ z. lt x z ≡ true) xs → ((z : X) → In z (x ∷ xs) → In z (y ∷ ys)) → (z : X) → In z xs → In z ys
  strip lt o x y xs ys same a forth z i = elim (forth z (inr i)) [
    | inl e ↦ absurd (not_itself lt o x z (same ∙ e) (all-in (λ w. lt x w ≡ true) xs z a i))
    | inr j ↦ j
  ]

  heads : (lt : X → X → Bool) → OneWay lt → (x y : X) (xs ys : List X) → AllByRecursion (λ z. lt x z ≡ true) xs → AllByRecursion (λ z. lt y z ≡ true) ys → In x (y ∷ ys) → In y (x ∷ xs) → x ≡ y
  heads lt o x y xs ys a b (inl e) j = sym e
  heads lt o x y xs ys a b (inr i) (inl e) = e
  heads lt o x y xs ys a b (inr i) (inr j) = absurd (true_false (lt y x) (all-in (λ z. lt y z ≡ true) ys x b i) (o x y (all-in (λ z. lt x z ≡ true) xs y a j)))

  pub same-rising : (lt : X → X → Bool) → OneWay lt → (xs ys : List X) → Rises lt xs → Rises lt ys → ((z : X) → In z xs → In z ys) → ((z : X) → In z ys → In z xs) → xs ≡ ys
  same-rising lt o [] [] a b forth back = refl
  same-rising lt o [] (y ∷ ys) a b forth back = absurd (back y (inl refl))
  same-rising lt o (x ∷ xs) [] a b forth back = absurd (forth x (inl refl))
  same-rising lt o (x ∷ xs) (y ∷ ys) a b forth back =
      let same : x ≡ y = heads lt o x y xs ys a.0 b.0 (forth x (inl refl)) (back y (inl refl)) in
      let rest : xs ≡ ys = same-rising lt o xs ys a.1 b.1 (strip lt o x y xs ys same a.0 forth) (strip lt o y x ys xs (sym same) b.0 back) in
      (λ i. same i ∷ rest i)

  pub in-parts : (n : ℕ) (xs : List X) (x : X) → In x xs → In x (take n xs) ⊎ In x (drop n xs)
  in-parts zero [] x i = absurd i
  in-parts zero (y ∷ ys) x i = inr i
  in-parts (suc n) [] x i = absurd i
  in-parts (suc n) (y ∷ ys) x (inl e) = inl (inl e)
  in-parts (suc n) (y ∷ ys) x (inr i) = elim (in-parts n ys x i) [ inl j ↦ inl (inr j) | inr j ↦ inr j ]

  pub drop-in : (n : ℕ) (xs : List X) (x : X) → In x (drop n xs) → In x xs
  drop-in zero [] x i = i
  drop-in zero (y ∷ ys) x i = i
  drop-in (suc n) [] x i = i
  drop-in (suc n) (y ∷ ys) x i = inr (drop-in n ys x i)

  pub take-in : (n : ℕ) (xs : List X) (x : X) → In x (take n xs) → In x xs
  take-in zero [] x i = absurd i
  take-in zero (y ∷ ys) x i = absurd i
  take-in (suc n) [] x i = absurd i
  take-in (suc n) (y ∷ ys) x (inl e) = inl e
  take-in (suc n) (y ∷ ys) x (inr i) = inr (take-in n ys x i)

  -- nothing stands in both parts
  pub parts-apart : (lt : X → X → Bool) → OneWay lt → (n : ℕ) (xs : List X) (x : X) → Rises lt xs → In x (take n xs) → In x (drop n xs) → ⊥
  parts-apart lt o zero [] x r i j = i
  parts-apart lt o zero (y ∷ ys) x r i j = i
  parts-apart lt o (suc n) [] x r i j = i
  parts-apart lt o (suc n) (y ∷ ys) x r (inl e) j = not_itself lt o y x e (all-in (λ z. lt y z ≡ true) ys x r.0 (drop-in n ys x j))
  parts-apart lt o (suc n) (y ∷ ys) x r (inr i) j = parts-apart lt o n ys x r.1 i j

  every-of : (P : X → Type 0) (xs : List X) (d : X) → ((i : ℕ) → i < length xs → P (get_or xs i d)) → AllByRecursion P xs
  every-of P [] d h = tt
  every-of P (x ∷ xs) d h = (h 0 (omega arith), every-of P xs d (λ i p. h (suc i) (omega (arith, p))))

  -- no element of a sorted list is less than its first
  pub sorted-first : (lt : X → X → Bool) → IsStrictWeakOrder lt → (x : X) (xs : List X) → IsSortedBy lt (x ∷ xs) → AllByRecursion (λ y. lt y x ≡ false) xs
  sorted-first lt o x xs up = every-of (λ y. lt y x ≡ false) xs x (λ i p. sorted_far lt o (x ∷ xs) up 0 (suc i) x (omega arith) (omega (arith, p)))

  pub sorted-rest : (lt : X → X → Bool) (x : X) (xs : List X) → IsSortedBy lt (x ∷ xs) → IsSortedBy lt xs
  sorted-rest lt x xs up = λ k d a b. let n : suc k + 1 ≡ suc (k + 1) = omega arith in
      subst (λ (i : ℕ). lt (get_or (x ∷ xs) i d) (get_or xs k d) ≡ false) n (up (suc k) d (omega arith) (omega (arith, b)))
