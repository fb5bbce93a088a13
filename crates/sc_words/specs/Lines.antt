-- The words of a line.
use Rattle.std.specs.Prelude.{◌≡◌, ℕ, List, [], ◌∷◌, Option, Some, None, ◌==◌}
use Rattle.std.specs.List.{slice_split}

-- words are parted by one space: where two stand together, or one at an end, a word is empty
abbrev pub words_of : List ℕ → List (List ℕ)
words_of line = slice_split (λ b. b == 32) line

-- what is left of a line once its last word is taken
abbrev pub words_left : Option (List ℕ) → List (List ℕ)
words_left None = []
words_left (Some line) = words_of line

-- what cutting says of all the parts
abbrev pub CutAt : ℕ → List ℕ → Option (List ℕ × List ℕ) → Type 0
CutAt at text None = slice_split (λ b. b == at) text ≡ text ∷ []
CutAt at text (Some p) = slice_split (λ b. b == at) text ≡ p.0 ∷ slice_split (λ b. b == at) p.1
