-- How parts of an entry are read by code.
use Rattle.std.proofs.Common.{◌≡◌, ℕ, ◌^◌, ◌<◌, ◌≤◌, Bool, true, false, List, [], ◌∷◌, length, take, drop, Some, None, refl, sym, ap, ◌∙◌, arith}
use Rattle.std.specs.Int.{Width, w16, w32, w64, byte_len, from_le_bytes, to_le_bytes}
use Rattle.std.specs.Str.{bytes_eq, is_utf8, IsUtf8}
use Rattle.std.proofs.lemmas.Str.{is_utf8-from_IsUtf8, IsUtf8-from_is_utf8}
use Rattle.std.proofs.lemmas.Bool.{lt-ltb, le-ltb}
use Rattle.std.proofs.lemmas.List.{length-take}
use Rattle.std.proofs.lemmas.Slice.Eq.{bytes_eq-Decides}
use Rattle.sc_entry.specs.Entries.{is_object_name, spell_number, read_number, number_at, read_front}

pub front_none : (n : ℕ) (bytes : List ℕ) → length bytes < n → read_front n bytes ≡ None
unfolding read_front
front_none n bytes short = rw (lt-ltb (length bytes) n short) refl

pub front_some : (n : ℕ) (bytes : List ℕ) → n ≤ length bytes → read_front n bytes ≡ Some (take n bytes, drop n bytes)
unfolding read_front
front_some n bytes long = rw (le-ltb (length bytes) n long) refl

false_if : (b : Bool) → (b ≡ true → ⊥) → b ≡ false
false_if true h = absurd (h refl)
false_if false h = refl

number_short : (w : Width) (limit : ℕ) (bytes : List ℕ) → ((n : ℕ) → length (to_le_bytes w n) ≡ byte_len w) → length bytes < byte_len w → read_number w limit bytes ≡ None
unfolding read_number spell_number
number_short w limit bytes len short =
    let no : bytes_eq (to_le_bytes w (number_at w bytes)) (take (byte_len w) bytes) ≡ false =
    false_if _ (λ e. let same = ap length ((bytes_eq-Decides (to_le_bytes w (number_at w bytes)) (take (byte_len w) bytes)).0 e) in omega (arith, same, len (number_at w bytes), length-take (byte_len w) bytes)) in
    rw no refl

pub number_is : (w : Width) (limit : ℕ) (bytes front : List ℕ) (n : ℕ) → front ≡ take (byte_len w) bytes → n ≡ from_le_bytes w front → to_le_bytes w n ≡ front → n < limit
    → read_number w limit bytes ≡ Some (n, drop (byte_len w) bytes)
unfolding read_number spell_number
number_is w limit bytes front n front-is n-is back lt =
    let e : number_at w bytes ≡ n = ap (from_le_bytes w) (sym front-is) ∙ sym n-is in
    let same : bytes_eq (to_le_bytes w n) (take (byte_len w) bytes) ≡ true = (bytes_eq-Decides (to_le_bytes w n) (take (byte_len w) bytes)).1 (back ∙ front-is) in
    rw (e, same, lt-ltb n limit lt) refl

pub number16_short : (bytes : List ℕ) → length bytes < 2 → read_number w16 (2 ^ 16) bytes ≡ None
number16_short bytes short = number_short w16 (2 ^ 16) bytes (λ n. refl) short

pub number32_short : (bytes : List ℕ) → length bytes < 4 → read_number w32 (2 ^ 32) bytes ≡ None
number32_short bytes short = number_short w32 (2 ^ 32) bytes (λ n. refl) short

pub number64_short : (bytes : List ℕ) → length bytes < 8 → read_number w64 (2 ^ 64) bytes ≡ None
number64_short bytes short = number_short w64 (2 ^ 64) bytes (λ n. refl) short

pub utf8_true : (bytes : List ℕ) → IsUtf8 bytes → is_utf8 bytes ≡ true
utf8_true bytes h = is_utf8-from_IsUtf8 bytes h

pub utf8_false : (bytes : List ℕ) → ¬ (IsUtf8 bytes) → is_utf8 bytes ≡ false
utf8_false bytes h = false_if _ (λ e. h (IsUtf8-from_is_utf8 bytes e))

pub name_short : (bytes : List ℕ) → length bytes ≡ 0 → is_object_name bytes ≡ false
name_short [] none = refl
name_short (b ∷ bytes) none = absurd (omega arith)

pub name_utf8 : (bytes : List ℕ) → 0 < length bytes → length bytes < 65536 → IsUtf8 bytes → is_object_name bytes ≡ true
name_utf8 bytes some short utf8 = rw (lt-ltb 0 (length bytes) some, lt-ltb (length bytes) 65536 short) (utf8_true bytes utf8)

pub name_bad : (bytes : List ℕ) → 0 < length bytes → length bytes < 65536 → ¬ (IsUtf8 bytes) → is_object_name bytes ≡ false
name_bad bytes some short utf8 = rw (lt-ltb 0 (length bytes) some, lt-ltb (length bytes) 65536 short) (utf8_false bytes utf8)
