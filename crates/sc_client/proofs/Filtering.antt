-- What is left behind a sequence, and of bytes that are none.
use Rattle.std.proofs.Common.{◌≡◌, ℕ, zero, suc, ◌-◌, Bool, false, ◌==◌, if◌then◌else◌, List, [], ◌∷◌, ◌++◌, length, take, drop, Option, Some, None, refl, ap, sym, ◌∙◌}
use Rattle.std.proofs.Math.Seq.{take-length}
use Rattle.std.proofs.lemmas.List.{length-drop}
use Rattle.std.specs.Option.{option_map_or}
use Rattle.sc_client.specs.Escapes.{HasNoEscape, behind, filtered, sequence, skipped}

-- what goes is what is dropped
pub behind_drop : (n : ℕ) (bs : List ℕ) → behind n bs ≡ filtered (drop n bs)
behind_drop zero bs = refl
behind_drop (suc n) [] = refl
behind_drop (suc n) (b ∷ bs) = behind_drop n bs

pub filtered_step : (b : ℕ) (bs : List ℕ) (s : Option ℕ) → skipped b bs ≡ s → filtered (b ∷ bs) ≡ option_map_or (λ n. behind n bs) s (b ∷ filtered bs)
filtered_step b bs s is = ap (λ (o : Option ℕ). option_map_or (λ n. behind n bs) o (b ∷ filtered bs)) is

plain_step : (b : ℕ) (bs : List ℕ) → (b == 27) ≡ false → filtered (b ∷ bs) ≡ b ∷ filtered bs
plain_step b bs none = filtered_step b bs None (ap (λ (t : Bool). if t then sequence bs else None) none)

pub plain_stay : (front rest : List ℕ) → HasNoEscape front → filtered (front ++ rest) ≡ front ++ filtered rest
plain_stay [] rest none = refl
plain_stay (b ∷ front) rest none = plain_step b (front ++ rest) none.0 ∙ ap (λ (bs : List ℕ). b ∷ bs) (plain_stay front rest none.1)

behind_length : (within rest : List ℕ) → behind (length within) (within ++ rest) ≡ filtered rest
behind_length [] rest = refl
behind_length (b ∷ within) rest = behind_length within rest

pub sequence_goes : (within rest : List ℕ) → sequence (within ++ rest) ≡ Some (length within) → filtered (27 ∷ (within ++ rest)) ≡ filtered rest
sequence_goes within rest is = filtered_step 27 (within ++ rest) (Some (length within)) is ∙ behind_length within rest

-- what is left of some bytes behind so many of them
all_behind : (n : ℕ) (bs : List ℕ) → take (length bs - n) (drop n bs) ≡ drop n bs
all_behind n bs = rw (← (length-drop n bs)) (take-length (drop n bs))

pub filtered_skip : (kept : List ℕ) (b : ℕ) (bs : List ℕ) (n : ℕ) → skipped b bs ≡ Some n → kept ++ filtered (take (length bs - n) (drop n bs)) ≡ kept ++ filtered (b ∷ bs)
filtered_skip kept b bs n is = ap (λ (left : List ℕ). kept ++ left) (ap filtered (all_behind n bs) ∙ sym (behind_drop n bs) ∙ sym (filtered_step b bs (Some n) is))
