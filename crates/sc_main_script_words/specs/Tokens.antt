-- How bytes are printed as one word, and as the end of a line.
use Rattle.std.specs.Prelude.{ℕ, ◌+◌, ◌/◌, ◌%◌, List, [], ◌∷◌, ◌++◌, length, Bool, true, false, ◌||◌, ◌&&◌, ◌==◌, nat_lt, if◌then◌else◌, codes, bytes_eq}
use Rattle.sc_main_script_words.specs.Fields.{stands}

-- a hexadecimal digit
abbrev pub digit_text : ℕ → ℕ
digit_text d = if nat_lt d 10 then d + 48 else d + 87

-- a byte stands for itself where it may, else it is an escape; in a line a space may too
abbrev pub byte_text : Bool → ℕ → List ℕ
byte_text spaces b =
    if stands b || spaces && b == 32 then b ∷ []
    else 92 ∷ 120 ∷ digit_text (b / 16) ∷ digit_text (b % 16) ∷ []

abbrev pub escaped : Bool → List ℕ → List ℕ
escaped spaces [] = []
escaped spaces (b ∷ bytes) = byte_text spaces b ++ escaped spaces bytes

-- no bytes are a dash, and a lone dash is an escape
unfoldable pub printed : Bool → List ℕ → List ℕ
printed spaces bytes =
    if length bytes == 0 then codes "-"
    else if bytes_eq bytes (codes "-") then codes "\\x2d"
    else escaped spaces bytes

-- bytes as a token
abbrev pub token_of : List ℕ → List ℕ
token_of bytes = printed false bytes

-- the same with spaces standing
abbrev pub line_of : List ℕ → List ℕ
line_of bytes = printed true bytes
