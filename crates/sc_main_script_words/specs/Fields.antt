-- What a word says.
use Rattle.std.specs.Prelude.{ℕ, ◌+◌, ◌-◌, ◌*◌, ◌^◌, List, [], ◌∷◌, ◌++◌, length, Option, Some, None, Result, Ok, Err, Bool, not, ◌&&◌, ◌==◌, nat_le, nat_lt, if◌then◌else◌, codes, bytes_eq}
use Rattle.std.specs.Str.{is_utf8}
use Rattle.hex.specs.Hex.{decode_of}
use Rattle.sc_entry.specs.Keys.{is_store_key}
use Rattle.sc_entry.specs.declared.object.Object.{Object}
use Rattle.sc_model.specs.declared.event.Status.{Status}
use Rattle.sc_model.specs.declared.event.Status.TheVariants.{Code, Signal}
use Rattle.sc_model.specs.declared.message.Variable.{Variable}
use Rattle.sc_words.specs.Words.{◌>>=◌, only_if, cut_at}

-- a number below 2^64 in decimal, behind the digits so far
abbrev pub digits_onto : ℕ → List ℕ → Option ℕ
digits_onto n [] = Some n
digits_onto n (c ∷ word) =
    if nat_le 48 c && nat_le c 57 && nat_lt (n * 10 + (c - 48)) (2 ^ 64) then digits_onto (n * 10 + (c - 48)) word
    else None

-- no needless zeros
unfoldable pub number_of : List ℕ → Option ℕ
number_of [] = None
number_of (c ∷ []) = digits_onto 0 (c ∷ [])
number_of (c ∷ d ∷ word) = if c == 48 then None else digits_onto 0 (c ∷ d ∷ word)

-- a number from low to high
unfoldable pub number_in : ℕ → ℕ → List ℕ → Option ℕ
number_in low high word = do
  n ← number_of word
  only_if (nat_le low n && nat_le n high) n

-- in a token 0x21 to 0x7e but the backslash stand for themselves
abbrev pub stands : ℕ → Bool
stands c = nat_le 33 c && nat_le c 126 && not (c == 92)

abbrev pub hex_digit : ℕ → Option ℕ
hex_digit c =
    if nat_le 48 c && nat_le c 57 then Some (c - 48)
    else if nat_le 97 c && nat_le c 102 then Some (c - 87)
    else None

-- the byte of two hexadecimal digits
abbrev pub byte_of : ℕ → ℕ → Option ℕ
byte_of high low = do
  a ← hex_digit high
  b ← hex_digit low
  Some (16 * a + b)

-- the bytes of a token, behind those so far; an escape is a backslash, an x and two lower-case digits
abbrev mutual
  pub bytes_onto : List ℕ → List ℕ → Option (List ℕ)
  bytes_onto sofar [] = Some sofar
  bytes_onto sofar (c ∷ word) = if stands c then bytes_onto (sofar ++ c ∷ []) word else escape_onto sofar c word

  pub escape_onto : List ℕ → ℕ → List ℕ → Option (List ℕ)
  escape_onto sofar c (x ∷ h ∷ l ∷ word) =
      if c == 92 && x == 120 then byte_of h l >>= (λ b. bytes_onto (sofar ++ b ∷ []) word) else None
  escape_onto sofar c _ = None

-- the same, behind one more byte
abbrev pub bytes_after : List ℕ → Option (ℕ × List ℕ) → Option (List ℕ)
bytes_after sofar None = None
bytes_after sofar (Some p) = bytes_onto (sofar ++ p.0 ∷ []) p.1

-- the bytes of a token: a lone dash is no bytes
unfoldable pub bytes_of_token : List ℕ → Option (List ℕ)
bytes_of_token [] = None
bytes_of_token (c ∷ word) = if bytes_eq (c ∷ word) (45 ∷ []) then Some [] else bytes_onto [] (c ∷ word)

-- bytes that are UTF-8
unfoldable pub text_of_bytes : List ℕ → Option (List ℕ)
text_of_bytes bytes = only_if (is_utf8 bytes) bytes

-- a token whose bytes are UTF-8
unfoldable pub text_of_token : List ℕ → Option (List ℕ)
text_of_token word = do
  bytes ← bytes_of_token word
  text_of_bytes bytes

-- a token whose bytes are a store key
unfoldable pub store_key_of : List ℕ → Option (List ℕ)
store_key_of word = do
  key ← text_of_token word
  only_if (is_store_key key) key

-- a token whose bytes are a name, the first =, and data
unfoldable pub pair_of : List ℕ → Option (List ℕ × List ℕ)
pair_of word = do
  bytes ← bytes_of_token word
  cut_at 61 bytes

unfoldable pub variable_of : List ℕ → Option Variable
variable_of word = do
  pair ← pair_of word
  Some (record { name = pair.0; value = pair.1 })

-- the name of an object that a run leaves: 1 to 65,535 bytes, neither stdout nor stderr
abbrev pub is_object_name : List ℕ → Bool
is_object_name name =
    nat_le 1 (length name) && nat_le (length name) 65535 && not (bytes_eq name (codes "stdout")) && not (bytes_eq name (codes "stderr"))

-- an object that a run leaves, without mode
unfoldable pub object_of : List ℕ → Option Object
object_of word = do
  pair ← pair_of word
  name ← text_of_bytes pair.0
  only_if (is_object_name name) (record { name = name; mode = None; bytes = pair.1 })

-- a code, or an s and a signal
unfoldable pub status_of : List ℕ → Option Status
status_of [] = None
status_of (c ∷ word) =
    if c == 115 then number_in 1 126 word >>= (λ n. Some (Signal n))
    else number_in 0 255 (c ∷ word) >>= (λ n. Some (Code n))

abbrev pub decoded : {E : Type 0} → Result (List ℕ) E → Option (List ℕ)
decoded (Ok bytes) = Some bytes
decoded (Err e) = None

-- hexadecimal digits of either case, of one byte at least
unfoldable pub hex_of : List ℕ → Option (List ℕ)
hex_of [] = None
hex_of (c ∷ word) = decoded (decode_of (c ∷ word))
