-- The bytes of store keys, and their folders.
use Rattle.std.proofs.Common.{◌≡◌, ℕ, zero, suc, ◌<◌, Bool, true, false, ◌&&◌, List, [], ◌∷◌, length, nat_lt, slice_index_or, refl, arith, ap, sym, ◌∙◌}
use Rattle.std.proofs.lemmas.Bool.Decides.{nat_tests}
use Rattle.std.specs.List.{list_all}
use Rattle.sc_entry.specs.Keys.{IsStoreKey, are_key_bytes, is_key_byte, is_store_key}
use Rattle.sc_disk.proofs.Names.{both}

ascii_key_byte : (b : ℕ) → is_key_byte b ≡ true → b < 128
ascii_key_byte b h = grind (arith, nat_tests)

ascii_at : (k : List ℕ) (i : ℕ) → are_key_bytes k ≡ true → i < length k → slice_index_or k i 0 < 128
ascii_at [] i h l = absurd (omega arith)
ascii_at (b ∷ bs) zero h l = ascii_key_byte b (both (is_key_byte b) (are_key_bytes bs) h).0
ascii_at (b ∷ bs) (suc i) h l = ascii_at bs i (both (is_key_byte b) (are_key_bytes bs) h).1 (omega arith)

pub key_is_long : (k : List ℕ) → IsStoreKey k → 2 < length k
key_is_long k h = let l = (both (nat_lt 2 (length k)) (are_key_bytes k) h).0 in grind (arith, nat_tests)

pub ascii_key : (k : List ℕ) (i : ℕ) → IsStoreKey k → i < 3 → slice_index_or k i 0 < 128
ascii_key k i h l = let long = key_is_long k h in ascii_at k i (both (nat_lt 2 (length k)) (are_key_bytes k) h).1 (omega arith)

all_key_bytes : (k : List ℕ) → are_key_bytes k ≡ list_all is_key_byte k
all_key_bytes [] = refl
all_key_bytes (b ∷ bs) = ap (λ t. is_key_byte b && t) (all_key_bytes bs)

-- a long text is a key where each byte is a key's
pub long_key : (k : List ℕ) (t : Bool) → 2 < length k → t ≡ list_all is_key_byte k → t ≡ is_store_key k
long_key [] t l h = absurd (omega arith)
long_key (a ∷ []) t l h = absurd (omega arith)
long_key (a ∷ b ∷ []) t l h = absurd (omega arith)
long_key (a ∷ b ∷ c ∷ k) t l h = h ∙ sym (all_key_bytes (a ∷ b ∷ c ∷ k)) ∙ grind (arith, nat_tests)
