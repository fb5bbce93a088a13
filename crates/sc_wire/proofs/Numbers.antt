use Rattle.std.proofs.Common.{◌≡◌, ℕ, ◌^◌, ◌<◌, Bool, true, false, List, length, get_or, take, drop, Some, None, refl, sym, ap, ◌∙◌, arith}
use Rattle.std.specs.Int.{Width, w32, w64, byte_len, from_le_bytes, to_le_bytes}
use Rattle.std.specs.Str.{bytes_eq, is_utf8, IsUtf8}
use Rattle.std.proofs.lemmas.Str.{is_utf8-from_IsUtf8, IsUtf8-from_is_utf8}
use Rattle.std.proofs.lemmas.Bool.{lt-ltb}
use Rattle.std.proofs.lemmas.List.{length-take}
use Rattle.std.proofs.lemmas.Nat.{le_bytes_4, le_bytes_8}
use Rattle.std.proofs.lemmas.Slice.Eq.{bytes_eq-Decides}
use Rattle.sc_wire.specs.Numbers.{read_number, number_at}

abbrev pub IsBytes : List ℕ → Type 0
IsBytes bytes = (i : ℕ) → get_or bytes i 0 < 256

false_if : (b : Bool) → (b ≡ true → ⊥) → b ≡ false
false_if true h = absurd (h refl)
false_if false h = refl

pub number_short : (w : Width) (limit : ℕ) (bytes : List ℕ) → ((n : ℕ) → length (to_le_bytes w n) ≡ byte_len w) → length bytes < byte_len w → read_number w limit bytes ≡ None
unfolding read_number
number_short w limit bytes len short =
    let no : bytes_eq (to_le_bytes w (number_at w limit bytes)) (take (byte_len w) bytes) ≡ false =
    false_if _ (λ e. let same = ap length ((bytes_eq-Decides (to_le_bytes w (number_at w limit bytes)) (take (byte_len w) bytes)).0 e) in omega (arith, same, len (number_at w limit bytes), length-take (byte_len w) bytes)) in
    rw no refl

pub number_is : (w : Width) (limit : ℕ) (bytes front : List ℕ) (n : ℕ) → front ≡ take (byte_len w) bytes → n ≡ from_le_bytes w front → to_le_bytes w n ≡ front → n < limit
    → read_number w limit bytes ≡ Some (n, drop (byte_len w) bytes)
unfolding read_number
number_is w limit bytes front n front-is n-is back lt =
    let e : number_at w limit bytes ≡ n = ap (from_le_bytes w) (sym front-is) ∙ sym n-is in
    let same : bytes_eq (to_le_bytes w n) (take (byte_len w) bytes) ≡ true = (bytes_eq-Decides (to_le_bytes w n) (take (byte_len w) bytes)).1 (back ∙ front-is) in
    rw (e, same, lt-ltb n limit lt) refl

pub number32_short : (bytes : List ℕ) → length bytes < 4 → read_number w32 (2 ^ 32) bytes ≡ None
number32_short bytes short = number_short w32 (2 ^ 32) bytes (λ n. refl) short

pub number64_short : (bytes : List ℕ) → length bytes < 8 → read_number w64 (2 ^ 64) bytes ≡ None
number64_short bytes short = number_short w64 (2 ^ 64) bytes (λ n. refl) short

pub back32 : (bytes : List ℕ) (n : ℕ) → length bytes ≡ 4 → IsBytes bytes → n ≡ from_le_bytes w32 bytes → to_le_bytes w32 n ≡ bytes
back32 bytes n len fits e = le_bytes_4 bytes n len fits e

pub back64 : (bytes : List ℕ) (n : ℕ) → length bytes ≡ 8 → IsBytes bytes → n ≡ from_le_bytes w64 bytes → to_le_bytes w64 n ≡ bytes
back64 bytes n len fits e = le_bytes_8 bytes n len fits e

pub utf8_true : (bs : List ℕ) → IsUtf8 bs → is_utf8 bs ≡ true
utf8_true bs h = is_utf8-from_IsUtf8 bs h

pub utf8_false : (bs : List ℕ) → ¬ (IsUtf8 bs) → is_utf8 bs ≡ false
utf8_false bs h = false_if _ (λ e. h (IsUtf8-from_is_utf8 bs e))
