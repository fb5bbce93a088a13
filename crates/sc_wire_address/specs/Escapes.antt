-- The bytes of an abstract name as a text.
use Rattle.std.specs.Option.{option_and_then}
use Rattle.std.specs.Prelude.{ℕ, ◌+◌, ◌-◌, ◌*◌, ◌/◌, ◌%◌, List, [], ◌∷◌, ◌++◌, Option, option_map, Some, None, ◌&&◌, ◌||◌, ◌==◌, nat_le, nat_lt, if◌then◌else◌, flat_map}

-- a hexadecimal digit of either case
abbrev pub hex_digit : ℕ → Option ℕ
hex_digit c =
    if nat_le 48 c && nat_le c 57 then Some (c - 48)
    else if nat_le 97 c && nat_le c 102 then Some (c - 87)
    else if nat_le 65 c && nat_le c 70 then Some (c - 55)
    else None

-- the byte of two hexadecimal digits
abbrev pub byte_of : ℕ → ℕ → Option ℕ
byte_of high low = option_and_then (λ h. option_map (λ l. 16 * h + l) (hex_digit low)) (hex_digit high)

-- the byte that a letter behind a backslash stands for: a tab, a return, the end of a line; a quote, a double quote and a backslash
-- stand for themselves
abbrev pub letter_byte : ℕ → Option ℕ
letter_byte c =
    if c == 116 then Some 9
    else if c == 114 then Some 13
    else if c == 110 then Some 10
    else if c == 39 || c == 34 || c == 92 then Some c
    else None

-- The bytes that an escaped text stands for, behind those so far: an escape is a backslash with a letter, or with an x and two
-- hexadecimal digits; every other byte stands for itself.
abbrev mutual
  pub unescaped_onto : List ℕ → List ℕ → Option (List ℕ)
  unescaped_onto sofar [] = Some sofar
  unescaped_onto sofar (c ∷ text) = if c == 92 then escape_onto sofar text else unescaped_onto (sofar ++ c ∷ []) text

  pub escape_onto : List ℕ → List ℕ → Option (List ℕ)
  escape_onto sofar [] = None
  escape_onto sofar (c ∷ text) =
      if c == 120 then hex_onto sofar text
      else option_and_then (λ b. unescaped_onto (sofar ++ b ∷ []) text) (letter_byte c)

  pub hex_onto : List ℕ → List ℕ → Option (List ℕ)
  hex_onto sofar (h ∷ l ∷ text) = option_and_then (λ b. unescaped_onto (sofar ++ b ∷ []) text) (byte_of h l)
  hex_onto sofar _ = None

-- the same, behind one more byte
abbrev pub byte_after : List ℕ → Option (ℕ × List ℕ) → Option (List ℕ)
byte_after sofar None = None
byte_after sofar (Some p) = unescaped_onto (sofar ++ p.0 ∷ []) p.1

unfoldable pub unescaped : List ℕ → Option (List ℕ)
unescaped text = unescaped_onto [] text

-- a hexadecimal digit, in lower case
abbrev pub hex_text : ℕ → ℕ
hex_text d = if nat_lt d 10 then d + 48 else d + 87

abbrev pub hex_pair : ℕ → List ℕ
hex_pair b = hex_text (b / 16) ∷ hex_text (b % 16) ∷ []

-- a byte as it is printed
abbrev pub written_byte : ℕ → List ℕ
written_byte b =
    if b == 9 then 92 ∷ 116 ∷ []
    else if b == 13 then 92 ∷ 114 ∷ []
    else if b == 10 then 92 ∷ 110 ∷ []
    else if b == 39 || b == 34 || b == 92 then 92 ∷ b ∷ []
    else if nat_le 32 b && nat_le b 126 then b ∷ []
    else 92 ∷ 120 ∷ hex_pair b

abbrev pub escaped : List ℕ → List ℕ
escaped bytes = flat_map written_byte bytes
