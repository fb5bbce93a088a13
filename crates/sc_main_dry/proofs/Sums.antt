-- What uses come to at a capacity, against what they come to at any.
use Rattle.std.proofs.Common.{◌≡◌, ℕ, ◌+◌, ◌-◌, ◌≤◌, Bool, true, false, is_some, if◌then◌else◌, List, [], ◌∷◌, ◌++◌, length, refl, ap, ◌∙◌, arith}
use Rattle.std.proofs.lemmas.Bool.{le-leb}
use Rattle.std.specs.Map.{lookup, remove_entry}
use Rattle.sc_lru.specs.DryRun.{dropped, hit, missed, over, put_in, sum_uses, used}
use Rattle.sc_lru.specs.LruCache.{total}
use Rattle.sc_lru.specs.Order.{touched}
use Rattle.sc_lru.specs.declared.capacity_report.Use.{Use}
use Rattle.sc_lru.specs.declared.capacity_report.Use.TheVariants.{Get, Put}
use Rattle.sc_lru.proofs.Measures.{suffix_within-fits, total-cons, total-push, total-touched}
use Rattle.sc_lru.proofs.Shown.{length_one_more}
use Rattle.sc_main_dry.specs.Sums.{get_count, put_bytes}

module _ {K : Type 0} (eq : K → K → Bool) (n : ℕ) where
  one_of_two : (there : Bool) → (if there then 1 else 0) + (if there then 0 else 1) ≡ 1
  one_of_two true = refl
  one_of_two false = refl

  -- each get is a hit or a miss
  pub gets : (es : List (K × ℕ)) (us : List (Use K)) → sum_uses eq n (hit eq n) es us + sum_uses eq n (missed eq n) es us ≡ get_count us
  gets es [] = refl
  gets es (Get k ∷ us) =
      let one = one_of_two (is_some (lookup (eq k) es)) in
      let on = gets (touched (eq k) es) us in
      omega (arith, one, on)
  gets es (Put k bytes ∷ us) =
      let on = gets (used eq n es (Put k bytes)) us in
      omega (arith, on)

  -- what the pairs measure
  abbrev size : List (K × ℕ) → ℕ
  size es = total {K = K} {V = ℕ} (λ _ bytes. bytes) es

  size-removed : (test : K → Bool) (es : List (K × ℕ)) → size (remove_entry test es) ≤ size es
  size-removed test [] = omega arith
  size-removed test (e ∷ es) = elim (test e.0) as (λ y. size (if y then es else e ∷ remove_entry test es) ≤ size (e ∷ es)) [
    | true ↦ omega (arith, total-cons {K = K} {V = ℕ} (λ _ bytes. bytes) e es)
    | false ↦ let on = size-removed test es in
        omega (arith, on, total-cons {K = K} {V = ℕ} (λ _ bytes. bytes) e es, total-cons {K = K} {V = ℕ} (λ _ bytes. bytes) e (remove_entry test es))
  ]

  -- the pairs with one more, none of which goes
  abbrev beside : List (K × ℕ) → K → ℕ → List (K × ℕ)
  beside es k bytes = remove_entry (eq k) es ++ (k, bytes) ∷ []

  size-beside : (es : List (K × ℕ)) (k : K) (bytes : ℕ) → size (beside es k bytes) ≤ size es + bytes
  size-beside es k bytes = omega (arith, size-removed (eq k) es, total-push {K = K} {V = ℕ} (λ _ b. b) (remove_entry (eq k) es) (k, bytes))

  all_stay : (es : List (K × ℕ)) (k : K) (bytes : ℕ) → size es + bytes ≤ n → put_in eq n es k bytes ≡ beside es k bytes
  all_stay es k bytes fits = suffix_within-fits {K = K} {V = ℕ} (λ _ b. b) n (beside es k bytes) (omega (arith, size-beside es k bytes))

  used-fits : (es : List (K × ℕ)) (k : K) (bytes : ℕ) → size es + bytes ≤ n → used eq n es (Put k bytes) ≡ beside es k bytes
  used-fits es k bytes fits =
      let small : bytes ≤ n = omega arith in
      ap (λ (y : Bool). if y then put_in eq n es k bytes else es) (le-leb bytes n small) ∙ all_stay es k bytes fits

  dropped-fits : (es : List (K × ℕ)) (k : K) (bytes : ℕ) → size es + bytes ≤ n → dropped eq n es (Put k bytes) ≡ 0
  dropped-fits es k bytes fits =
      let small : bytes ≤ n = omega arith in
      let whole : length (put_in eq n es k bytes) ≡ length (remove_entry (eq k) es) + 1 =
      ap length (all_stay es k bytes fits) ∙ length_one_more (remove_entry (eq k) es) (k, bytes) in
      let none : (length (remove_entry (eq k) es) + 1) - length (put_in eq n es k bytes) ≡ 0 = omega (arith, whole) in
      ap (λ (y : Bool). if y then (length (remove_entry (eq k) es) + 1) - length (put_in eq n es k bytes) else 0) (le-leb bytes n small) ∙ none

  over-fits : (es : List (K × ℕ)) (k : K) (bytes : ℕ) → bytes ≤ n → over eq n es (Put k bytes) ≡ 0
  over-fits es k bytes small = ap (λ (y : Bool). if y then 0 else 1) (le-leb bytes n small)

  -- nothing goes where all that is there and all that comes fit
  pub none_dropped : (es : List (K × ℕ)) (us : List (Use K)) → size es + put_bytes us ≤ n → sum_uses eq n (dropped eq n) es us ≡ 0
  none_dropped es [] fits = refl
  none_dropped es (Get k ∷ us) fits =
      let same = total-touched {K = K} {V = ℕ} (λ _ b. b) (eq k) es in
      let on = none_dropped (touched (eq k) es) us (omega (arith, same)) in
      omega (arith, on)
  none_dropped es (Put k bytes ∷ us) fits =
      let here : size es + bytes ≤ n = omega arith in
      let is = used-fits es k bytes here in
      let on = none_dropped (used eq n es (Put k bytes)) us (omega (arith, ap size is, size-beside es k bytes)) in
      omega (arith, dropped-fits es k bytes here, on)

  pub none_over : (es : List (K × ℕ)) (us : List (Use K)) → put_bytes us ≤ n → sum_uses eq n (over eq n) es us ≡ 0
  none_over es [] fits = refl
  none_over es (Get k ∷ us) fits = let on = none_over (touched (eq k) es) us fits in omega (arith, on)
  none_over es (Put k bytes ∷ us) fits =
      let here : bytes ≤ n = omega arith in
      let on = none_over (used eq n es (Put k bytes)) us (omega arith) in
      omega (arith, over-fits es k bytes here, on)
