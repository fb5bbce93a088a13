-- A printed token is read as the bytes that it was made of.
use Rattle.std.proofs.Common.{◌≡◌, ℕ, suc, ◌/◌, ◌%◌, ◌<◌, ◌≤◌, ◌==◌, List, [], ◌∷◌, ◌++◌, length, refl, arith, Bool, true, false, ◌&&◌, Some, ap, sym, ◌∙◌, append_assoc}
use Rattle.std.proofs.lemmas.Bool.Decides.{nat_tests}
use Rattle.std.proofs.lemmas.List.{append-nil}
use Rattle.std.specs.List.{All}
use Rattle.std.specs.Str.{bytes_eq}
use Rattle.std.proofs.lemmas.Slice.Eq.{bytes_eq-Decides}
use Rattle.sc_main_script_words.specs.Fields.{stands, hex_digit, byte_of, bytes_onto, bytes_of_token}
use Rattle.sc_main_script_words.specs.Tokens.{digit_text, byte_text, escaped, printed, token_of}

low_digit : (d : ℕ) → d < 10 → hex_digit (digit_text d) ≡ Some d
low_digit d h = grind (arith, nat_tests)

high_digit : (d : ℕ) → 10 ≤ d → d < 16 → hex_digit (digit_text d) ≡ Some d
high_digit d low h = grind (arith, nat_tests)

digit_again : (d : ℕ) → d < 16 → hex_digit (digit_text d) ≡ Some d
digit_again d h = grind (arith, nat_tests)

byte_again : (b : ℕ) → b < 256 → byte_of (digit_text (b / 16)) (digit_text (b % 16)) ≡ Some b
byte_again b small = rw (digit_again (b / 16) (omega arith), digit_again (b % 16) (omega arith)) (ap (λ (n : ℕ). Some n) (omega arith))

step_by : (sofar rest : List ℕ) (b : ℕ) (itself : Bool) → stands b ≡ itself → b < 256
    → bytes_onto sofar (byte_text false b ++ rest) ≡ bytes_onto (sofar ++ b ∷ []) rest
step_by sofar rest b true e small = rw e (rw e refl)
step_by sofar rest b false e small = rw e (rw (byte_again b small) refl)

step : (sofar rest : List ℕ) (b : ℕ) → b < 256 → bytes_onto sofar (byte_text false b ++ rest) ≡ bytes_onto (sofar ++ b ∷ []) rest
step sofar rest b small = step_by sofar rest b (stands b) refl small

rest_small : (b : ℕ) (bytes : List ℕ) → All (λ x. x < 256) (b ∷ bytes) → All (λ x. x < 256) bytes
rest_small b bytes small k d h = small (suc k) d (omega arith)

again_onto : (sofar bytes : List ℕ) → All (λ x. x < 256) bytes → bytes_onto sofar (escaped false bytes) ≡ Some (sofar ++ bytes)
again_onto sofar [] small = ap (λ (xs : List ℕ). Some xs) (sym (append-nil sofar))
again_onto sofar (b ∷ bytes) small =
    step sofar (escaped false bytes) b (small 0 0 (omega arith))
    ∙ again_onto (sofar ++ b ∷ []) bytes (rest_small b bytes small)
    ∙ ap (λ (xs : List ℕ). Some xs) (append_assoc sofar (b ∷ []) bytes)

not_empty : (n : ℕ) → (suc n == 0) ≡ false
not_empty n = grind (arith, nat_tests)

and_false : (a : Bool) → (a && false) ≡ false
and_false true = refl
and_false false = refl

-- what is printed of one byte at least is one byte at least, and a dash only where the bytes are one

some_by : (b : ℕ) (rest : List ℕ) (itself : Bool) → stands b ≡ itself → bytes_eq (byte_text false b ++ rest) [] ≡ false
some_by b rest true e = rw e refl
some_by b rest false e = rw e refl

no_dash_by : (b : ℕ) (bytes : List ℕ) (itself : Bool) → stands b ≡ itself → bytes_eq (b ∷ bytes) (45 ∷ []) ≡ false → bytes_eq (escaped false (b ∷ bytes)) (45 ∷ []) ≡ false
no_dash_by b bytes false e other = rw e refl
no_dash_by b [] true e other = rw e other
no_dash_by b (c ∷ bytes) true e other = rw (e, some_by c (escaped false bytes) (stands c) refl) (and_false (b == 45))

token_by : (b : ℕ) (bytes : List ℕ) (itself : Bool) → stands b ≡ itself → bytes_eq (escaped false (b ∷ bytes)) (45 ∷ []) ≡ false
    → bytes_of_token (escaped false (b ∷ bytes)) ≡ bytes_onto [] (escaped false (b ∷ bytes))
unfolding bytes_of_token
token_by b bytes true e dash = rw e (rw (rw e at dash) refl)
token_by b bytes false e dash = rw e refl

token_again_by : (b : ℕ) (bytes : List ℕ) (dash : Bool) → bytes_eq (b ∷ bytes) (45 ∷ []) ≡ dash → All (λ x. x < 256) (b ∷ bytes) → bytes_of_token (token_of (b ∷ bytes)) ≡ Some (b ∷ bytes)
unfolding printed bytes_of_token
token_again_by b bytes true e small = rw (not_empty (length bytes), e) (ap (λ (xs : List ℕ). Some xs) (sym ((bytes_eq-Decides (b ∷ bytes) (45 ∷ [])).0 e)))
token_again_by b bytes false e small =
    rw (not_empty (length bytes), e) (token_by b bytes (stands b) refl (no_dash_by b bytes (stands b) refl e) ∙ again_onto [] (b ∷ bytes) small)

-- a printed token is read again
pub token_again : (bytes : List ℕ) → All (λ x. x < 256) bytes → bytes_of_token (token_of bytes) ≡ Some bytes
unfolding printed bytes_of_token
token_again [] small = refl
token_again (b ∷ bytes) small = token_again_by b bytes (bytes_eq (b ∷ bytes) (45 ∷ [])) refl small
