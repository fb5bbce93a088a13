-- An escape of two hexadecimal digits takes three bytes behind its backslash.
use Rattle.std.proofs.Common.{◌≡◌, ℕ, ◌-◌, ◌≤◌, List, [], ◌∷◌, ◌++◌, length, take, drop, get_or, refl, arith, Some}
use Rattle.std.proofs.Math.Seq.{take-length}
use Rattle.sc_wire_address.specs.Escapes.{byte_of, escape_onto, unescaped_onto}

pub hex_taken : (sofar text : List ℕ) (byte : ℕ) → 3 ≤ length text → get_or text 0 0 ≡ 120 → byte_of (get_or text 1 0) (get_or text 2 0) ≡ Some byte
    → unescaped_onto (sofar ++ byte ∷ []) (take (length text - 3) (drop 3 text)) ≡ escape_onto sofar text
hex_taken sofar [] byte long x b = absurd (omega arith)
hex_taken sofar (x1 ∷ []) byte long x b = absurd (omega arith)
hex_taken sofar (x1 ∷ x2 ∷ []) byte long x b = absurd (omega arith)
hex_taken sofar (x1 ∷ x2 ∷ x3 ∷ text) byte long x b =
    let e : take (length (x1 ∷ x2 ∷ x3 ∷ text) - 3) text ≡ text =
    let n : length (x1 ∷ x2 ∷ x3 ∷ text) - 3 ≡ length text = omega arith in rw n (take-length text) in
    rw (e, x, b) refl
