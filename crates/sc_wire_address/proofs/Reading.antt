-- What is printed of an abstract name is read as that name.
use Rattle.std.proofs.Common.{◌≡◌, ℕ, suc, ◌/◌, ◌%◌, ◌<◌, ◌==◌, List, [], ◌∷◌, ◌++◌, refl, arith, Bool, true, false, ◌&&◌, ◌||◌, Some, ap, sym, ◌∙◌, append_assoc, nat_le}
use Rattle.std.proofs.lemmas.Bool.Decides.{nat_tests}
use Rattle.std.proofs.lemmas.List.{append-nil}
use Rattle.std.specs.List.{All}
use Rattle.sc_wire_address.specs.Addresses.{address_text, parsed}
use Rattle.sc_wire_address.specs.Escapes.{byte_of, escaped, hex_digit, hex_text, letter_byte, unescaped, unescaped_onto, written_byte}
use Rattle.sc_wire_address.specs.declared.socket_addr.SocketAddr.TheVariants.{UnixAbstract}

digit_again : (d : ℕ) → d < 16 → hex_digit (hex_text d) ≡ Some d
digit_again d h = grind (arith, nat_tests)

byte_again : (b : ℕ) → b < 256 → byte_of (hex_text (b / 16)) (hex_text (b % 16)) ≡ Some b
byte_again b small = rw (digit_again (b / 16) (omega arith), digit_again (b % 16) (omega arith)) (ap (λ (n : ℕ). Some n) (omega arith))

quoted_letter : (b : ℕ) → (b == 39 || b == 34 || b == 92) ≡ true → letter_byte b ≡ Some b
quoted_letter b h = grind (arith, nat_tests)

quoted_no_hex : (b : ℕ) → (b == 39 || b == 34 || b == 92) ≡ true → (b == 120) ≡ false
quoted_no_hex b h = grind (arith, nat_tests)

unquoted : (b : ℕ) → (b == 39 || b == 34 || b == 92) ≡ false → (b == 92) ≡ false
unquoted b h = grind (arith, nat_tests)

is_nine : (b n : ℕ) → (b == n) ≡ true → n ≡ b
is_nine b n h = grind (arith, nat_tests)

Steps : List ℕ → List ℕ → ℕ → Type 0
Steps sofar rest b = unescaped_onto sofar (written_byte b ++ rest) ≡ unescaped_onto (sofar ++ b ∷ []) rest

step_plain : (sofar rest : List ℕ) (b : ℕ) (plain : Bool) → (nat_le 32 b && nat_le b 126) ≡ plain → (b == 9) ≡ false → (b == 13) ≡ false → (b == 10) ≡ false
    → (b == 39 || b == 34 || b == 92) ≡ false → b < 256 → Steps sofar rest b
unfolding Steps
step_plain sofar rest b true p t r n q small = rw (t, r, n, q, p, unquoted b q) refl
step_plain sofar rest b false p t r n q small = rw (t, r, n, q, p) (rw (byte_again b small) refl)

step_quoted : (sofar rest : List ℕ) (b : ℕ) (quoted : Bool) → (b == 39 || b == 34 || b == 92) ≡ quoted → (b == 9) ≡ false → (b == 13) ≡ false → (b == 10) ≡ false
    → b < 256 → Steps sofar rest b
unfolding Steps
step_quoted sofar rest b true q t r n small = rw (t, r, n, q) (rw (quoted_no_hex b q, quoted_letter b q) refl)
step_quoted sofar rest b false q t r n small = step_plain sofar rest b (nat_le 32 b && nat_le b 126) refl t r n q small

step_line : (sofar rest : List ℕ) (b : ℕ) (line : Bool) → (b == 10) ≡ line → (b == 9) ≡ false → (b == 13) ≡ false → b < 256 → Steps sofar rest b
unfolding Steps
step_line sofar rest b true n t r small = rw (t, r, n) (ap (λ (k : ℕ). unescaped_onto (sofar ++ k ∷ []) rest) (is_nine b 10 n))
step_line sofar rest b false n t r small = step_quoted sofar rest b (b == 39 || b == 34 || b == 92) refl t r n small

step_return : (sofar rest : List ℕ) (b : ℕ) (is_return : Bool) → (b == 13) ≡ is_return → (b == 9) ≡ false → b < 256 → Steps sofar rest b
unfolding Steps
step_return sofar rest b true r t small = rw (t, r) (ap (λ (k : ℕ). unescaped_onto (sofar ++ k ∷ []) rest) (is_nine b 13 r))
step_return sofar rest b false r t small = step_line sofar rest b (b == 10) refl t r small

step_tab : (sofar rest : List ℕ) (b : ℕ) (tab : Bool) → (b == 9) ≡ tab → b < 256 → Steps sofar rest b
unfolding Steps
step_tab sofar rest b true t small = rw t (ap (λ (k : ℕ). unescaped_onto (sofar ++ k ∷ []) rest) (is_nine b 9 t))
step_tab sofar rest b false t small = step_return sofar rest b (b == 13) refl t small

rest_small : (b : ℕ) (bytes : List ℕ) → All (λ x. x < 256) (b ∷ bytes) → All (λ x. x < 256) bytes
rest_small b bytes small k d h = small (suc k) d (omega arith)

again_onto : (sofar bytes : List ℕ) → All (λ x. x < 256) bytes → unescaped_onto sofar (escaped bytes) ≡ Some (sofar ++ bytes)
unfolding Steps
again_onto sofar [] small = ap (λ (xs : List ℕ). Some xs) (sym (append-nil sofar))
again_onto sofar (b ∷ bytes) small =
    step_tab sofar (escaped bytes) b (b == 9) refl (small 0 0 (omega arith))
    ∙ again_onto (sofar ++ b ∷ []) bytes (rest_small b bytes small)
    ∙ ap (λ (xs : List ℕ). Some xs) (append_assoc sofar (b ∷ []) bytes)

-- a printed name is read again
pub name_again : (name : List ℕ) → All (λ b. b < 256) name → parsed (address_text (UnixAbstract name)) ≡ Some (UnixAbstract name)
unfolding unescaped
name_again name small = rw (again_onto [] name small) refl
