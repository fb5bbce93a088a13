-- The parts of a path, and the names of temporaries.
use Rattle.std.proofs.Common.{◌≡◌, ◌≢◌, ℕ, zero, suc, ◌+◌, ◌-◌, ◌<◌, ◌==◌, Bool, true, false, ◌&&◌, not, List, [], ◌∷◌, ◌++◌, length, take, drop, get_or, is_some, Option, Some, None, refl, sym, ap, ◌∙◌, arith, eq-eqb, add-one}
use Rattle.std.proofs.Math.Seq.{take-length}
use Rattle.std.proofs.lemmas.List.{length-drop}
use Rattle.std.proofs.lemmas.Grind.{common_steps}
use Rattle.sc_entry.specs.Keys.{parts_of, parts_by, join_part, has_no_nul, is_file_part, are_file_parts, is_file_key, is_temporary}
use Rattle.memchr.specs.Find.{IsFirstByte, is_byte}
use Rattle.sc_disk.specs.Names.{last_of, is_temporary_path}

pub neq-eqb : (a b : ℕ) → a ≢ b → (a == b) ≡ false
neq-eqb a b h = grind (arith, common_steps)

pub eq_from_test : (a b : ℕ) → (a == b) ≡ true → a ≡ b
eq_from_test a b h = grind (arith, common_steps)

pub parts_none : (path : List ℕ) → ((j : ℕ) → j < length path → get_or path j 0 ≢ 47) → parts_of path ≡ path ∷ []
parts_none [] none = refl
parts_none (x ∷ xs) none =
    ap (λ t. parts_by t x (parts_of xs)) (neq-eqb x 47 (none 0 (omega arith))) ∙ ap (join_part x) (parts_none xs (λ j h. none (suc j) (omega arith)))

pub parts_here : (path : List ℕ) (k : ℕ) → k < length path → ((j : ℕ) → j < k → get_or path j 0 ≢ 47) → get_or path k 0 ≡ 47
    → parts_of path ≡ take k path ∷ parts_of (drop (suc k) path)
parts_here [] k lt none at = absurd (omega arith)
parts_here (x ∷ xs) zero lt none at = ap (λ t. parts_by t x (parts_of xs)) (eq-eqb x 47 at)
parts_here (x ∷ xs) (suc k) lt none at =
    ap (λ t. parts_by t x (parts_of xs)) (neq-eqb x 47 (none 0 (omega arith)))
    ∙ ap (join_part x) (parts_here xs k (omega arith) (λ j h. none (suc j) (omega arith)) at)

pub rest_of : (k : ℕ) (path : List ℕ) → take (length path - (k + 1)) (drop (k + 1) path) ≡ drop (k + 1) path
rest_of k path = rw (← (length-drop (k + 1) path), take-length) refl

pub nul_none : (part : List ℕ) → ((j : ℕ) → j < length part → get_or part j 0 ≢ 0) → has_no_nul part ≡ true
nul_none [] none = refl
nul_none (x ∷ xs) none = ap (λ t. not t && has_no_nul xs) (neq-eqb x 0 (none 0 (omega arith))) ∙ nul_none xs (λ j h. none (suc j) (omega arith))

pub nul_here : (part : List ℕ) (k : ℕ) → k < length part → get_or part k 0 ≡ 0 → has_no_nul part ≡ false
nul_here [] k lt at = absurd (omega arith)
nul_here (x ∷ xs) zero lt at = ap (λ t. not t && has_no_nul xs) (eq-eqb x 0 at)
nul_here (x ∷ xs) (suc k) lt at = ap (λ t. not (x == 0) && t) (nul_here xs k (omega arith) at) ∙ no_more (not (x == 0))
  where
    no_more : (b : Bool) → (b && false) ≡ false
    no_more true = refl
    no_more false = refl

pub nul_from_first : (part : List ℕ) (r : Option ℕ) (b : Bool) → IsFirstByte (is_byte 0) part r → is_some r ≡ not b → b ≡ has_no_nul part
nul_from_first part None true none e = sym (nul_none part (λ j h f. none j (omega arith) h (eq-eqb _ _ f)))
nul_from_first part None false none e = absurd (cc)
nul_from_first part (Some k) true first e = absurd (cc)
nul_from_first part (Some k) false first e = sym (nul_here part k first.0.high (eq_from_test _ _ first.1))

-- no key's file has a temporary's name
pub both : (a b : Bool) → (a && b) ≡ true → (a ≡ true) × (b ≡ true)
both true b h = (refl, h)
both false b h = absurd (cc)

pub not-true : (a : Bool) → not a ≡ true → a ≡ false
not-true true h = cc
not-true false h = refl

last_not_temporary : (ps : List (List ℕ)) → are_file_parts ps ≡ true → is_temporary (last_of ps) ≡ false
last_not_temporary [] h = cc
last_not_temporary (p ∷ []) h = not-true (is_temporary p) (both (is_file_part p) (not (is_temporary p)) h).1
last_not_temporary (p ∷ q ∷ ps) h = last_not_temporary (q ∷ ps) (both (is_file_part p) (are_file_parts (q ∷ ps)) h).1

pub key_not_temporary : (k : List ℕ) → is_file_key k ≡ true → is_temporary_path k ≡ false
unfolding is_temporary_path
key_not_temporary k h = last_not_temporary (parts_of k) h

joined : (t : Bool) (b : ℕ) (ps : List (List ℕ)) → (q : List ℕ) × (qs : List (List ℕ)) × (parts_by t b ps ≡ q ∷ qs)
joined true b ps = ([], ps, refl)
joined false b [] = (b ∷ [], [], refl)
joined false b (p ∷ ps) = (b ∷ p, ps, refl)

-- a path has a part
has_part : (path : List ℕ) → (q : List ℕ) × (qs : List (List ℕ)) × (parts_of path ≡ q ∷ qs)
has_part [] = ([], [], refl)
has_part (b ∷ bs) = joined (b == 47) b (parts_of bs)

-- a part more in front leaves the last one
pub last-cons : (p path : List ℕ) → last_of (p ∷ parts_of path) ≡ last_of (parts_of path)
last-cons p path = let h = has_part path in ap (λ l. last_of (p ∷ l)) h.2 ∙ sym (ap last_of h.2)

pub file_parts-cons : (p path : List ℕ) → are_file_parts (p ∷ parts_of path) ≡ (is_file_part p && are_file_parts (parts_of path))
file_parts-cons p path = let h = has_part path in ap (λ l. are_file_parts (p ∷ l)) h.2 ∙ sym (ap (λ l. is_file_part p && are_file_parts l) h.2)

-- where the first part is good, the path is a key where what follows is one
pub good_first : (p others path : List ℕ) → parts_of path ≡ p ∷ parts_of others → is_file_part p ≡ true → are_file_parts (parts_of others) ≡ are_file_parts (parts_of path)
good_first p others path cut good = sym (ap are_file_parts cut ∙ file_parts-cons p others ∙ ap (λ t. t && are_file_parts (parts_of others)) good)
