-- The paths of store keys are file keys.
use Rattle.std.proofs.Common.{◌≡◌, ℕ, nat_lt, ◌==◌, Bool, true, false, ◌&&◌, not, List, [], ◌∷◌, ◌++◌, length, take, bytes_eq, codes, refl, arith, ap, ◌∙◌}
use Rattle.std.proofs.lemmas.Bool.Decides.{nat_tests}
use Rattle.sc_entry.specs.Keys.{IsStoreKey, are_file_parts, are_key_bytes, has_no_nul, is_file_key, is_file_part, is_key_byte, is_temporary, join_part, make_key_path, normalize_key, parts_by, parts_of}

both : (a b : Bool) → (a && b) ≡ true → (a ≡ true) × (b ≡ true)
both true b h = (refl, h)
both false b h = absurd (cc)

no_slash : (b : ℕ) → is_key_byte b ≡ true → (b == 47) ≡ false
no_slash b h = grind (arith, nat_tests)

no_nul : (b : ℕ) → is_key_byte b ≡ true → (b == 0) ≡ false
no_nul b h = grind (arith, nat_tests)

no_dot : (b : ℕ) → is_key_byte b ≡ true → (b == 46) ≡ false
no_dot b h = grind (arith, nat_tests)

-- a key is one part, and so is a byte before a slash
key_part : (k : List ℕ) → are_key_bytes k ≡ true → parts_of k ≡ k ∷ []
key_part [] h = refl
key_part (b ∷ bs) h =
    let each = both (is_key_byte b) (are_key_bytes bs) h in
    ap (λ t. parts_by t b (parts_of bs)) (no_slash b each.0) ∙ ap (join_part b) (key_part bs each.1)

folder_part : (b : ℕ) (path : List ℕ) → is_key_byte b ≡ true → parts_of (b ∷ 47 ∷ path) ≡ (b ∷ []) ∷ parts_of path
folder_part b path h = ap (λ t. parts_by t b (parts_of (47 ∷ path))) (no_slash b h)

no_nuls : (k : List ℕ) → are_key_bytes k ≡ true → has_no_nul k ≡ true
no_nuls [] h = refl
no_nuls (b ∷ bs) h =
    let each = both (is_key_byte b) (are_key_bytes bs) h in
    ap (λ t. not t && has_no_nul bs) (no_nul b each.0) ∙ no_nuls bs each.1

no_dots : (t x y z : Bool) → t ≡ false → z ≡ true → (not (t && x) && not (t && y) && z) ≡ true
no_dots true x y z h k = absurd (cc)
no_dots false x y z h k = k

file_part : (b : ℕ) (bs : List ℕ) → are_key_bytes (b ∷ bs) ≡ true → is_file_part (b ∷ bs) ≡ true
file_part b bs h =
    let each = both (is_key_byte b) (are_key_bytes bs) h in
    no_dots (b == 46) (bytes_eq bs []) (bytes_eq bs (46 ∷ [])) (has_no_nul (b ∷ bs)) (no_dot b each.0) (no_nuls (b ∷ bs) h)

plain_name : (b : ℕ) (bs : List ℕ) → is_key_byte b ≡ true → not (is_temporary (b ∷ bs)) ≡ true
plain_name b bs h = ap (λ t. not (t && bytes_eq (take 10 bs) (codes "sccachetmp"))) (no_dot b h)

and_true : (a b : Bool) → a ≡ true → b ≡ true → (a && b) ≡ true
and_true true b p q = q
and_true false b p q = absurd (cc)

one_key_byte : (b : ℕ) → is_key_byte b ≡ true → are_key_bytes (b ∷ []) ≡ true
one_key_byte b h = and_true (is_key_byte b) true h refl

key_last : (b : ℕ) (bs : List ℕ) → are_key_bytes (b ∷ bs) ≡ true → are_file_parts ((b ∷ bs) ∷ []) ≡ true
key_last b bs h = and_true (is_file_part (b ∷ bs)) (not (is_temporary (b ∷ bs))) (file_part b bs h) (plain_name b bs (both (is_key_byte b) (are_key_bytes bs) h).0)

folder_first : (b : ℕ) (p : List ℕ) (ps : List (List ℕ)) → is_key_byte b ≡ true → are_file_parts (p ∷ ps) ≡ true → are_file_parts ((b ∷ []) ∷ p ∷ ps) ≡ true
folder_first b p ps h rest = and_true (is_file_part (b ∷ [])) (are_file_parts (p ∷ ps)) (file_part b [] (one_key_byte b h)) rest

entry_parts : (a b : ℕ) (k : List ℕ) → is_key_byte a ≡ true → is_key_byte b ≡ true → are_key_bytes k ≡ true → parts_of (a ∷ 47 ∷ b ∷ 47 ∷ k) ≡ (a ∷ []) ∷ (b ∷ []) ∷ k ∷ []
entry_parts a b k p q h = folder_part a (b ∷ 47 ∷ k) p ∙ ap (λ ps. (a ∷ []) ∷ ps) (folder_part b k q ∙ ap (λ ps. (b ∷ []) ∷ ps) (key_part k h))

pub entry_key : (k : List ℕ) → IsStoreKey k → is_file_key (make_key_path k) ≡ true
entry_key [] h = absurd (cc)
entry_key (a ∷ []) h = absurd (cc)
entry_key (a ∷ b ∷ k) h =
    let all : are_key_bytes (a ∷ b ∷ k) ≡ true = (both (nat_lt 2 (length (a ∷ b ∷ k))) (are_key_bytes (a ∷ b ∷ k)) h).1 in
    let first = both (is_key_byte a) (are_key_bytes (b ∷ k)) all in
    let second = both (is_key_byte b) (are_key_bytes k) first.1 in
    ap are_file_parts (entry_parts a b (a ∷ b ∷ k) first.0 second.0 all) ∙ folder_first a (b ∷ []) ((a ∷ b ∷ k) ∷ []) first.0 (folder_first b (a ∷ b ∷ k) [] second.0 (key_last a (b ∷ k) all))

pub pre_key : (k : List ℕ) → IsStoreKey k → is_file_key (normalize_key k) ≡ true
pre_key [] h = absurd (cc)
pre_key (a ∷ []) h = absurd (cc)
pre_key (a ∷ b ∷ []) h = absurd (cc)
pre_key (a ∷ b ∷ c ∷ k) h =
    let all : are_key_bytes (a ∷ b ∷ c ∷ k) ≡ true = (both (nat_lt 2 (length (a ∷ b ∷ c ∷ k))) (are_key_bytes (a ∷ b ∷ c ∷ k)) h).1 in
    let first = both (is_key_byte a) (are_key_bytes (b ∷ c ∷ k)) all in
    let second = both (is_key_byte b) (are_key_bytes (c ∷ k)) first.1 in
    let third = both (is_key_byte c) (are_key_bytes k) second.1 in
    let whole = a ∷ b ∷ c ∷ k in
    ap are_file_parts (folder_part a (b ∷ 47 ∷ c ∷ 47 ∷ whole) first.0 ∙ ap (λ ps. (a ∷ []) ∷ ps) (entry_parts b c whole second.0 third.0 all))
    ∙ folder_first a (b ∷ []) ((c ∷ []) ∷ whole ∷ []) first.0 (folder_first b (c ∷ []) (whole ∷ []) second.0 (folder_first c whole [] third.0 (key_last a (b ∷ c ∷ k) all)))
