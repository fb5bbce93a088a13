-- Numbers of a fixed width, the lowest byte first, and flags of one byte.
use Rattle.std.specs.Prelude.{◌≡◌, ℕ, ◌<◌, ◌^◌, Bool, true, false, cond, ◌&&◌, ◌==◌, List, [], ◌∷◌, ◌++◌, length, take, drop, Option, Some, None, ℤ, FitsSigned, IfSome, refl}
use Rattle.std.specs.Str.{bytes_eq}
use Rattle.std.specs.Int.{Width, w32, w64, byte_len, from_le_bytes, to_le_bytes, cast_signed, cast_unsigned}
use Rattle.std.proofs.Common.{sym, ap, ltb}
use Rattle.std.proofs.lemmas.Int.{of_z-to_z, to_z-of_z}
use Rattle.std.proofs.Math.Facts.{sfits_to_z, Fits-of_lt, Fits-of_z, Fits-lt-pow}
use Rattle.std.specs.Cmp.{first_so, second_so}
use Rattle.std.proofs.lemmas.Bool.{ltb-true, lt-ltb, eqb-true}
use Rattle.std.proofs.lemmas.List.{take_at, drop_at, take-append-drop}
use Rattle.std.proofs.lemmas.Nat.{from_le_bytes-to_le_bytes_4, from_le_bytes-to_le_bytes_8}
use Rattle.std.proofs.lemmas.Slice.Eq.{bytes_eq-Decides}
use Rattle.sc_wire.specs.Codec.{◌>>=◌, Codec, Took, between}

-- what the numbers of a width need
pub record IsWide (w : Width) (limit : ℕ) : Type 0 where
  pub len : (n : ℕ) → length (to_le_bytes w n) ≡ byte_len w
  pub again : (n : ℕ) → n < limit → from_le_bytes w (to_le_bytes w n) ≡ n

pub wide32 : IsWide w32 (2 ^ 32)
wide32 = record { len = λ n. refl; again = from_le_bytes-to_le_bytes_4 }

pub wide64 : IsWide w64 (2 ^ 64)
wide64 = record { len = λ n. refl; again = from_le_bytes-to_le_bytes_8 }

module _ (w : Width) (limit : ℕ) where
  -- the number that the bytes at the front stand for
  abbrev pub number_at : List ℕ → ℕ
  number_at bytes = from_le_bytes w (take (byte_len w) bytes)

  -- the bytes at the front are those of their number
  abbrev pub has_number : List ℕ → Bool
  has_number bytes = bytes_eq (to_le_bytes w (number_at bytes)) (take (byte_len w) bytes) && ltb (number_at bytes) limit

  unfoldable pub read_number : List ℕ → Option (ℕ × List ℕ)
  read_number bytes = cond (has_number bytes) (Some (number_at bytes, drop (byte_len w) bytes)) None

  unfoldable pub spell_number : ℕ → List ℕ
  spell_number n = to_le_bytes w n

  pub number_took : (bytes : List ℕ) (b : Bool) → has_number bytes ≡ b → IfSome (cond b (Some (number_at bytes, drop (byte_len w) bytes)) None) (Took (λ n. n < limit) (λ n. to_le_bytes w n) bytes)
  number_took bytes true e =
      let same : to_le_bytes w (number_at bytes) ≡ take (byte_len w) bytes = (bytes_eq-Decides _ _).0 (first_so _ _ e) in
      (rw same (sym (take-append-drop (byte_len w) bytes)), ltb-true _ _ (second_so _ _ e))
  number_took bytes false e = tt

  pub takes_number : (bytes : List ℕ) → IfSome (read_number bytes) (Took (λ n. n < limit) spell_number bytes)
  unfolding read_number spell_number
  takes_number bytes = number_took bytes (has_number bytes) refl

  pub again_number : IsWide w limit → (n : ℕ) (rest : List ℕ) → n < limit → read_number (spell_number n ++ rest) ≡ Some (n, rest)
  unfolding read_number spell_number
  again_number wide n rest lt =
      let len = wide.len n in
      let same : bytes_eq (to_le_bytes w n) (to_le_bytes w n) ≡ true = (bytes_eq-Decides (to_le_bytes w n) (to_le_bytes w n)).1 refl in
      rw (take_at (to_le_bytes w n) rest (byte_len w) len, drop_at (to_le_bytes w n) rest (byte_len w) len, wide.again n lt, same, lt-ltb n limit lt) refl

abbrev pub u32 : Codec ℕ
u32 = record { Fits = λ n. n < 2 ^ 32; spell = spell_number w32 (2 ^ 32); read = read_number w32 (2 ^ 32); takes = takes_number w32 (2 ^ 32); again = again_number w32 (2 ^ 32) wide32 }

abbrev pub u64 : Codec ℕ
u64 = record { Fits = λ n. n < 2 ^ 64; spell = spell_number w64 (2 ^ 64); read = read_number w64 (2 ^ 64); takes = takes_number w64 (2 ^ 64); again = again_number w64 (2 ^ 64) wide64 }

-- signed numbers: the bits of their two's complement

pub signed_back : (n : ℕ) → n < 2 ^ 32 → (cast_unsigned w32 (cast_signed w32 n) ≡ n) × FitsSigned w32 (cast_signed w32 n)
signed_back n lt = (of_z-to_z w32 n lt, sfits_to_z (Fits-of_lt lt))

abbrev pub i32 : Codec ℤ
i32 = between (cast_signed w32) (cast_unsigned w32) u32 (FitsSigned w32) signed_back (λ z fits. (to_z-of_z w32 z fits, Fits-lt-pow (Fits-of_z fits)))

-- a flag of one byte

abbrev pub flag_of : ℕ → Option Bool
flag_of n = cond (n == 0) (Some false) (cond (n == 1) (Some true) None)

abbrev pub spell_flag : Bool → List ℕ
spell_flag true = 1 ∷ []
spell_flag false = 0 ∷ []

abbrev pub read_flag : List ℕ → Option (Bool × List ℕ)
read_flag [] = None
read_flag (n ∷ rest) = flag_of n >>= λ b. Some (b, rest)

pub flag_took : (n : ℕ) (rest : List ℕ) (zero_test one_test : Bool) → (n == 0) ≡ zero_test → (n == 1) ≡ one_test
    → IfSome (cond zero_test (Some false) (cond one_test (Some true) None) >>= λ b. Some (b, rest)) (Took (λ b. Unit {0}) spell_flag (n ∷ rest))
flag_took n rest true t e f = (ap (λ (k : ℕ). k ∷ rest) (eqb-true n 0 e), tt)
flag_took n rest false true e f = (ap (λ (k : ℕ). k ∷ rest) (eqb-true n 1 f), tt)
flag_took n rest false false e f = tt

pub takes_flag : (bytes : List ℕ) → IfSome (read_flag bytes) (Took (λ b. Unit {0}) spell_flag bytes)
takes_flag [] = tt
takes_flag (n ∷ rest) = flag_took n rest (n == 0) (n == 1) refl refl

pub again_flag : (b : Bool) (rest : List ℕ) → Unit {0} → read_flag (spell_flag b ++ rest) ≡ Some (b, rest)
again_flag true rest fits = refl
again_flag false rest fits = refl

abbrev pub flag : Codec Bool
flag = record { Fits = λ b. Unit {0}; spell = spell_flag; read = read_flag; takes = takes_flag; again = again_flag }
