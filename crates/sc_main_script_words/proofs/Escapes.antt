-- An escape takes three bytes behind its backslash.
use Rattle.std.proofs.Common.{◌≡◌, ℕ, ◌-◌, ◌≤◌, List, [], ◌∷◌, ◌++◌, length, take, drop, get_or, refl, arith, Some}
use Rattle.std.proofs.Math.Seq.{take-length}
use Rattle.sc_main_script_words.specs.Fields.{byte_of, bytes_onto, escape_onto}

pub escape_taken : (sofar text : List ℕ) (first byte : ℕ) → 3 ≤ length text → first ≡ 92 → get_or text 0 0 ≡ 120
    → byte_of (get_or text 1 0) (get_or text 2 0) ≡ Some byte
    → bytes_onto (sofar ++ byte ∷ []) (take (length text - 3) (drop 3 text)) ≡ escape_onto sofar first text
escape_taken sofar [] first byte long f x b = absurd (omega arith)
escape_taken sofar (x1 ∷ []) first byte long f x b = absurd (omega arith)
escape_taken sofar (x1 ∷ x2 ∷ []) first byte long f x b = absurd (omega arith)
escape_taken sofar (x1 ∷ x2 ∷ x3 ∷ text) first byte long f x b =
    let e : take (length (x1 ∷ x2 ∷ x3 ∷ text) - 3) text ≡ text =
    let n : length (x1 ∷ x2 ∷ x3 ∷ text) - 3 ≡ length text = omega arith in rw n (take-length text) in
    rw (e, f, x, b) refl
