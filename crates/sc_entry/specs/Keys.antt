-- Keys of stores and of files, and the paths at which stores keep what stands under a key.
use Rattle.std.specs.Prelude.{◌≡◌, ℕ, Bool, true, false, ◌==◌, ◌&&◌, ◌||◌, not, List, [], ◌∷◌, ◌++◌, length, take, drop, codes, bytes_eq, nat_lt}

-- an ASCII letter, a digit, `-` or `_`
abbrev pub is_key_byte : ℕ → Bool
is_key_byte b = (nat_lt 47 b && nat_lt b 58) || (nat_lt 64 b && nat_lt b 91) || (nat_lt 96 b && nat_lt b 123) || (b == 45) || (b == 95)

abbrev pub are_key_bytes : List ℕ → Bool
are_key_bytes [] = true
are_key_bytes (b ∷ bs) = is_key_byte b && are_key_bytes bs

-- a store key: at least three such bytes
abbrev pub is_store_key : List ℕ → Bool
is_store_key k = nat_lt 2 (length k) && are_key_bytes k

abbrev pub IsStoreKey : List ℕ → Type 0
IsStoreKey k = is_store_key k ≡ true

-- first byte, `/`, second byte, `/`, key: where disk entries stand
abbrev pub make_key_path : List ℕ → List ℕ
make_key_path k = take 1 k ++ 47 ∷ take 1 (drop 1 k) ++ 47 ∷ k

-- three one-byte parts, then the key: where preprocessor entries and entries of remote stores stand
abbrev pub normalize_key : List ℕ → List ℕ
normalize_key k = take 1 k ++ 47 ∷ take 1 (drop 1 k) ++ 47 ∷ take 1 (drop 2 k) ++ 47 ∷ k

-- the parts of a path, between its slashes: one at least
abbrev pub join_part : ℕ → List (List ℕ) → List (List ℕ)
join_part b [] = (b ∷ []) ∷ []
join_part b (p ∷ ps) = (b ∷ p) ∷ ps

abbrev pub parts_by : Bool → ℕ → List (List ℕ) → List (List ℕ)
parts_by true b ps = [] ∷ ps
parts_by false b ps = join_part b ps

abbrev pub parts_of : List ℕ → List (List ℕ)
parts_of [] = [] ∷ []
parts_of (b ∷ bs) = parts_by (b == 47) b (parts_of bs)

-- no NUL
abbrev pub has_no_nul : List ℕ → Bool
has_no_nul [] = true
has_no_nul (b ∷ bs) = not (b == 0) && has_no_nul bs

-- a part of a file key: not empty, neither `.` nor `..`, without NUL
abbrev pub is_file_part : List ℕ → Bool
is_file_part p = not (bytes_eq p []) && not (bytes_eq p (codes ".")) && not (bytes_eq p (codes "..")) && has_no_nul p

-- a name that a temporary may have begins so
abbrev pub is_temporary : List ℕ → Bool
is_temporary name = bytes_eq (take 11 name) (codes ".sccachetmp")

-- every part is one, and the last is no temporary's name
abbrev pub are_file_parts : List (List ℕ) → Bool
are_file_parts [] = false
are_file_parts (p ∷ []) = is_file_part p && not (is_temporary p)
are_file_parts (p ∷ q ∷ ps) = is_file_part p && are_file_parts (q ∷ ps)

-- a file key: parts joined by `/`
abbrev pub is_file_key : List ℕ → Bool
is_file_key k = are_file_parts (parts_of k)

abbrev pub IsFileKey : List ℕ → Type 0
IsFileKey k = is_file_key k ≡ true
