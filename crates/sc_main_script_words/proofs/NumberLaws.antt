-- A printed number is read as the number that it was made of.
use Rattle.std.proofs.Common.{◌≡◌, ℕ, zero, suc, ◌+◌, ◌*◌, ◌-◌, ◌/◌, ◌%◌, ◌^◌, ◌<◌, ◌==◌, List, [], ◌∷◌, ◌++◌, length, get_or, refl, arith, Bool, true, false, ◌&&◌, Some, None, ap, sym, ◌∙◌, nat_lt, nat_le, if◌then◌else◌}
use Rattle.std.proofs.lemmas.Bool.Decides.{nat_tests}
use Rattle.std.proofs.lemmas.Fmt.{decimal_by_steps, decimal_digit, decimal_nonempty, first_decimal}
use Rattle.std.specs.Fmt.{decimal}
use Rattle.sc_words.specs.Words.{◌>>=◌}
use Rattle.sc_main_script_words.specs.Fields.{digits_onto, number_of}

one_digit : (n m : ℕ) → m < 10 → n * 10 + m < 2 ^ 64 → digits_onto n ((48 + m) ∷ []) ≡ Some (n * 10 + m)
one_digit n m small fits = grind (arith, nat_tests)

then_by : (m c : ℕ) (ds : List ℕ) (good : Bool) → (if good then digits_onto m ds else None) >>= (λ k. digits_onto k (c ∷ [])) ≡ (if good then digits_onto m ds >>= (λ k. digits_onto k (c ∷ [])) else None)
then_by m c ds true = refl
then_by m c ds false = refl

digits_then : (m : ℕ) (ds : List ℕ) (c : ℕ) → digits_onto m (ds ++ c ∷ []) ≡ digits_onto m ds >>= (λ k. digits_onto k (c ∷ []))
digits_then m [] c = refl
digits_then m (d ∷ ds) c =
    rw (digits_then (m * 10 + (d - 48)) ds c) (sym (then_by (m * 10 + (d - 48)) c ds (nat_le 48 d && nat_le d 57 && nat_lt (m * 10 + (d - 48)) (2 ^ 64))))

read_one : (n : ℕ) → n < 10 → digits_onto 0 ((48 + n) ∷ []) ≡ Some n
read_one n small = grind (arith, nat_tests)

read_more : (n : ℕ) (ds : List ℕ) → digits_onto 0 ds ≡ Some (n / 10) → n < 2 ^ 64 → digits_onto 0 (ds ++ ((48 + n % 10) ∷ [])) ≡ Some n
read_more n ds front fits =
    let whole : n / 10 * 10 + n % 10 ≡ n = omega arith in
    digits_then 0 ds (48 + n % 10)
    ∙ rw front (one_digit (n / 10) (n % 10) (omega arith) (omega arith) ∙ ap (λ (k : ℕ). Some k) whole)

digits_again : (n : ℕ) → n < 2 ^ 64 → digits_onto 0 (decimal n) ≡ Some n
digits_again n fits =
    decimal_by_steps (λ k ds. k < 2 ^ 64 → digits_onto 0 ds ≡ Some k)
    (λ k small h. read_one k small)
    (λ k ds long front h. read_more k ds (front (omega arith)) h)
    n fits fits

not_zero : (c : ℕ) → 48 < c → (c == 48) ≡ false
not_zero c h = grind (arith, nat_tests)

number_again_by : (ds : List ℕ) → 0 < length ds → 48 < get_or ds 0 0 → number_of ds ≡ digits_onto 0 ds
unfolding number_of
number_again_by [] some first = absurd (omega arith)
number_again_by (c ∷ []) some first = refl
number_again_by (c ∷ d ∷ ds) some first = rw (not_zero c first) refl

number_again_zero : number_of (decimal 0) ≡ Some 0
unfolding number_of
number_again_zero = rw (decimal_digit 0 (omega arith)) refl

-- a printed number is read again
pub number_again : (n : ℕ) → n < 2 ^ 64 → number_of (decimal n) ≡ Some n
number_again zero fits = number_again_zero
number_again (suc n) fits =
    number_again_by (decimal (suc n)) (decimal_nonempty (suc n) fits) (first_decimal (suc n) (omega arith) fits) ∙ digits_again (suc n) fits
