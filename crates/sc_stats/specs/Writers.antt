-- Writing line by line.
use Rattle.std.specs.Prelude.{◌≡◌, ℕ, List, [], ◌∷◌}

-- each line is written, in order
abbrev pub WritesEach : {W : Type 0} → (W → List ℕ → W → Type 0) → W → List (List ℕ) → W → Type 0
WritesEach writes old [] new = new ≡ old
WritesEach {W} writes old (l ∷ ls) new = (mid : W) × writes old l mid × WritesEach writes mid ls new
