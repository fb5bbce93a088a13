-- Paths of temporaries.
use Rattle.std.proofs.Common.{◌≡◌, ◌≢◌, ℕ, zero, suc, ◌+◌, ◌<◌, ◌/◌, ◌%◌, ◌^◌, ◌==◌, nat_lt, if◌then◌else◌, Bool, true, false, bytes_eq, List, [], ◌∷◌, ◌++◌, drop, refl, sym, ap, ◌∙◌, arith}
use Rattle.std.proofs.lemmas.Bool.Decides.{nat_tests}
use Rattle.std.proofs.lemmas.Fmt.{decimal_injective}
use Rattle.std.specs.Fmt.{decimal, digits, digits_onto, digit_glyph}
use Rattle.sc_entry.specs.Keys.{parts_of, parts_by, join_part, is_temporary}
use Rattle.sc_disk.specs.Names.{file_name, first_part, is_temporary_path, last_of, temporary, temporary_name}
use Rattle.sc_disk.proofs.Files.{same_path}
use Rattle.sc_disk.proofs.Names.{last-cons, neq-eqb}

-- no byte is a slash
abbrev NoSlash : List ℕ → Type 0
NoSlash [] = Unit {0}
NoSlash (b ∷ bs) = ((b == 47) ≡ false) × NoSlash bs

glyph_no_slash : (d : ℕ) → d < 10 → (digit_glyph false d == 47) ≡ false
glyph_no_slash d h = neq-eqb (digit_glyph false d) 47 (λ e. let is : digit_glyph false d ≡ 48 + d = ap (λ t. if t then 48 + d else 87 + d) (small d h) in absurd (omega (arith, is, e)))
  where
    small : (d : ℕ) → d < 10 → nat_lt d 10 ≡ true
    small d h = grind (arith, nat_tests)

last_digit : (n : ℕ) → n % 10 < 10
last_digit n = omega arith

onto_no_slash : (k n : ℕ) (acc : List ℕ) → NoSlash acc → NoSlash (digits_onto k 10 false n acc)
onto_no_slash zero n acc h = h
onto_no_slash (suc k) n acc h = (elim (n / 10 == 0) as (λ t. NoSlash (if t then digit_glyph false (n % 10) ∷ acc else digits_onto k 10 false (n / 10) (digit_glyph false (n % 10) ∷ acc))) [
  | true ↦ (glyph_no_slash (n % 10) (last_digit n), h)
  | false ↦ onto_no_slash k (n / 10) (digit_glyph false (n % 10) ∷ acc) (glyph_no_slash (n % 10) (last_digit n), h)
])

decimal_no_slash : (n : ℕ) → NoSlash (decimal n)
unfolding digits
decimal_no_slash n = onto_no_slash 64 n [] tt

one_part : (path : List ℕ) → NoSlash path → parts_of path ≡ path ∷ []
one_part [] h = refl
one_part (b ∷ bs) h = ap (λ t. parts_by t b (parts_of bs)) h.0 ∙ ap (join_part b) (one_part bs h.1)

name_no_slash : (n : ℕ) → NoSlash (temporary_name n)
unfolding temporary_name
name_no_slash n = (refl, (refl, (refl, (refl, (refl, (refl, (refl, (refl, (refl, (refl, (refl, decimal_no_slash n)))))))))))

-- the parts of a path in a folder end as those of the path
behind_by : (t : Bool) (b : ℕ) (a : List ℕ) (ps xs ys : List (List ℕ)) → xs ≡ a ∷ (ps ++ ys) → (c : List ℕ) × (qs : List (List ℕ)) × (parts_by t b xs ≡ c ∷ (qs ++ ys))
behind_by true b a ps xs ys h = ([], a ∷ ps, ap (λ l. [] ∷ l) h)
behind_by false b a ps xs ys h = (b ∷ a, ps, ap (join_part b) h)

behind : (p q : List ℕ) → (c : List ℕ) × (qs : List (List ℕ)) × (parts_of (p ++ 47 ∷ q) ≡ c ∷ (qs ++ parts_of q))
behind [] q = ([], [], refl)
behind (b ∷ bs) q = let h = behind bs q in behind_by (b == 47) b h.0 h.1 (parts_of (bs ++ 47 ∷ q)) (parts_of q) h.2

last_behind : (c : List ℕ) (qs : List (List ℕ)) (q : List ℕ) → last_of (c ∷ (qs ++ parts_of q)) ≡ last_of (parts_of q)
last_behind c [] q = last-cons c q
last_behind c (r ∷ qs) q = last_behind r qs q

-- a folder in front leaves the name of a path's file
pub name-behind : (p q : List ℕ) → file_name (p ++ 47 ∷ q) ≡ file_name q
name-behind p q = let h = behind p q in ap last_of h.2 ∙ last_behind h.0 h.1 q

pub temporary_named : (d : Bool) (k : List ℕ) (n : ℕ) → file_name (temporary d k n) ≡ temporary_name n
temporary_named false k n = ap last_of (one_part (temporary_name n) (name_no_slash n))
temporary_named true k n = name-behind (first_part k) (temporary_name n) ∙ ap last_of (one_part (temporary_name n) (name_no_slash n))

pub temporary_is : (d : Bool) (k : List ℕ) (n : ℕ) → is_temporary_path (temporary d k n) ≡ true
unfolding temporary_name is_temporary_path
temporary_is d k n = ap is_temporary (temporary_named d k n)

not_same : (b : Bool) → (b ≡ true → ⊥) → b ≡ false
not_same true h = absurd (h refl)
not_same false h = refl

true_false : (b : Bool) → b ≡ true → b ≡ false → ⊥
true_false true p q = cc
true_false false p q = cc

-- a key's path and a temporary's differ
pub apart : (q k : List ℕ) → is_temporary_path q ≡ false → is_temporary_path k ≡ true → bytes_eq q k ≡ false
apart q k h t = not_same (bytes_eq q k) (λ e. true_false (is_temporary_path k) t (ap is_temporary_path (sym (same_path q k e)) ∙ h))

pub apart-back : (q k : List ℕ) → is_temporary_path q ≡ true → is_temporary_path k ≡ false → bytes_eq q k ≡ false
apart-back q k h t = not_same (bytes_eq q k) (λ e. true_false (is_temporary_path k) (ap is_temporary_path (sym (same_path q k e)) ∙ h) t)

-- two numbers' temporaries differ
same_name : (n m : ℕ) → n < 2 ^ 64 → m < 2 ^ 64 → temporary_name n ≡ temporary_name m → n ≡ m
unfolding temporary_name
same_name n m p q e = decimal_injective n m p q (ap (drop 11) e)

pub numbers-apart : (d : Bool) (k : List ℕ) (n : ℕ) (d2 : Bool) (k2 : List ℕ) (m : ℕ) → n < 2 ^ 64 → m < 2 ^ 64 → n ≢ m → bytes_eq (temporary d k n) (temporary d2 k2 m) ≡ false
numbers-apart d k n d2 k2 m p q off = not_same (bytes_eq (temporary d k n) (temporary d2 k2 m))
    (λ e. off (same_name n m p q (sym (temporary_named d k n) ∙ ap file_name (same_path (temporary d k n) (temporary d2 k2 m) e) ∙ temporary_named d2 k2 m)))
