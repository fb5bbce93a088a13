-- Pairs whose keys are borrowed, and the same pairs as their keys show them.
use Rattle.std.proofs.Common.{◌≡◌, ℕ, ◌+◌, ◌≤◌, Bool, true, false, cond, nat_le, is_some, if◌then◌else◌, List, [], ◌∷◌, ◌++◌, length, Option, Some, None, option_map, refl, sym, ap, ◌∙◌, arith}
use Rattle.std.specs.Borrow.{Bor}
use Rattle.std.specs.Option.{option_copied, option_map_or}
use Rattle.std.specs.Map.{lookup, lookup_entry, remove_entry}
use Rattle.sc_lru.specs.LruCache.{total, suffix_within, inserted}
use Rattle.sc_lru.specs.Order.{touched}
use Rattle.sc_lru.specs.DryRun.{shown}
use Rattle.sc_lru.proofs.Measures.{total-cons}

module _ {K V : Type 0} where
  -- an insert adds a pair, but where the key had one
  pub length-removed : (test : K → Bool) (es : List (K × V)) → length (remove_entry test es) + 1 ≡ length es + (if is_some (lookup test es) then 0 else 1)
  length-removed test [] = refl
  length-removed test (e ∷ es) = elim (test e.0) as (λ y. length (cond y es (e ∷ remove_entry test es)) + 1 ≡ length (e ∷ es) + (if is_some (cond y (Some e.1) (lookup test es)) then 0 else 1)) [
    | true ↦ omega arith
    | false ↦ let on = length-removed test es in omega (arith, on)
  ]

  pub length-suffix_within : (measure : K → V → ℕ) (n : ℕ) (es : List (K × V)) → length (suffix_within measure n es) ≤ length es
  length-suffix_within measure n [] = omega arith
  length-suffix_within measure n (e ∷ es) = elim (nat_le (total measure (e ∷ es)) n) as (λ y. length (if y then e ∷ es else suffix_within measure n es) ≤ length (e ∷ es)) [
    | true ↦ omega arith
    | false ↦ let on = length-suffix_within measure n es in omega (arith, on)
  ]

  pub length_one_more : (es : List (K × V)) (e : K × V) → length (es ++ e ∷ []) ≡ length es + 1
  length_one_more [] e = refl
  length_one_more (f ∷ es) e = let on = length_one_more es e in omega (arith, on)

  pub length-inserted : (measure : K → V → ℕ) (test : K → Bool) (n : ℕ) (es : List (K × V)) (k : K) (v : V) → length (inserted measure test n es k v) ≤ length (remove_entry test es) + 1
  length-inserted measure test n es k v = omega (arith, length-suffix_within measure n (remove_entry test es ++ (k, v) ∷ []), length_one_more (remove_entry test es) (k, v))

pub is_some_copied : {X : Type 0} (o : Option (Bor X)) → is_some (option_copied o) ≡ is_some o
is_some_copied None = refl
is_some_copied (Some x) = refl

module _ {K : Type 0} where
  abbrev of : Bor K × ℕ → K × ℕ
  of e = (e.0.now, e.1)

  shown_push : (es : List (Bor K × ℕ)) (e : Bor K × ℕ) → shown (es ++ e ∷ []) ≡ shown es ++ of e ∷ []
  shown_push [] e = refl
  shown_push (f ∷ es) e = ap (λ l. of f ∷ l) (shown_push es e)

  pub length-shown : (es : List (Bor K × ℕ)) → length (shown es) ≡ length es
  length-shown [] = refl
  length-shown (e ∷ es) = let on = length-shown es in omega (arith, on)

  total-shown : (es : List (Bor K × ℕ)) → total {K = K} {V = ℕ} (λ _ s. s) (shown es) ≡ total {K = Bor K} {V = ℕ} (λ _ s. s) es
  total-shown [] = refl
  total-shown (e ∷ es) = omega (arith, total-shown es, total-cons {K = K} {V = ℕ} (λ _ s. s) (of e) (shown es), total-cons {K = Bor K} {V = ℕ} (λ _ s. s) e es)

  suffix-shown : (n : ℕ) (es : List (Bor K × ℕ)) → suffix_within {K = K} {V = ℕ} (λ _ s. s) n (shown es) ≡ shown (suffix_within {K = Bor K} {V = ℕ} (λ _ s. s) n es)
  suffix-shown n [] = refl
  suffix-shown n (e ∷ es) =
      let more : List (K × ℕ) = suffix_within {K = K} {V = ℕ} (λ _ s. s) n (shown es) in
      let sum = total {K = Bor K} {V = ℕ} (λ _ s. s) (e ∷ es) in
      ap (λ t. if nat_le t n then shown (e ∷ es) else more) (total-shown (e ∷ es))
      ∙ (elim (nat_le sum n) as (λ y. (if y then shown (e ∷ es) else more) ≡ shown (if y then e ∷ es else suffix_within {K = Bor K} {V = ℕ} (λ _ s. s) n es)) [ true ↦ refl | false ↦ suffix-shown n es ])

  module _ (test : K → Bool) where
    abbrev under : Bor K → Bool
    under k = test k.now

    pub lookup-shown : (es : List (Bor K × ℕ)) → lookup test (shown es) ≡ lookup under es
    lookup-shown [] = refl
    lookup-shown (e ∷ es) = elim (test e.0.now) as (λ y. cond y (Some e.1) (lookup test (shown es)) ≡ cond y (Some e.1) (lookup under es)) [ true ↦ refl | false ↦ lookup-shown es ]

    pub remove_entry-shown : (es : List (Bor K × ℕ)) → remove_entry test (shown es) ≡ shown (remove_entry under es)
    remove_entry-shown [] = refl
    remove_entry-shown (e ∷ es) = elim (test e.0.now) as (λ y. cond y (shown es) (of e ∷ remove_entry test (shown es)) ≡ shown (cond y es (e ∷ remove_entry under es))) [
      | true ↦ refl
      | false ↦ ap (λ l. of e ∷ l) (remove_entry-shown es)
    ]

    entry-shown : (es : List (Bor K × ℕ)) → lookup_entry test (shown es) ≡ option_map of (lookup_entry under es)
    entry-shown [] = refl
    entry-shown (e ∷ es) = elim (test e.0.now) as (λ y. cond y (Some (of e)) (lookup_entry test (shown es)) ≡ option_map of (cond y (Some e) (lookup_entry under es))) [ true ↦ refl | false ↦ entry-shown es ]

    pub touched-shown : (es : List (Bor K × ℕ)) → touched test (shown es) ≡ shown (touched under es)
    touched-shown es = (λ i. option_map_or (λ e. remove_entry-shown es i ++ e ∷ []) (entry-shown es i) (shown es)) ∙ last (lookup_entry under es)
      where
        last : (o : Option (Bor K × ℕ)) → option_map_or (λ e. shown (remove_entry under es) ++ e ∷ []) (option_map of o) (shown es) ≡ shown (option_map_or (λ e. remove_entry under es ++ e ∷ []) o es)
        last None = refl
        last (Some e) = sym (shown_push (remove_entry under es) e)

    pub inserted-shown : (n : ℕ) (es : List (Bor K × ℕ)) (k : Bor K) (size : ℕ) → inserted {K = K} {V = ℕ} (λ _ s. s) test n (shown es) k.now size ≡ shown (inserted {K = Bor K} {V = ℕ} (λ _ s. s) under n es k size)
    inserted-shown n es k size = ap (suffix_within {K = K} {V = ℕ} (λ _ s. s) n) (ap (λ l. l ++ (k.now, size) ∷ []) (remove_entry-shown es) ∙ sym (shown_push (remove_entry under es) (k, size))) ∙ suffix-shown n (remove_entry under es ++ (k, size) ∷ [])
