-- What a clock tells: the moments that are left for it to tell, and the pauses that it was handed.
use Rattle.std.specs.Prelude.{ℕ, List, [], ◌∷◌, ◌++◌}

-- the moment that is told next: the first that is left, and 0 of a clock that was given none
abbrev pub next_moment : List ℕ → ℕ
next_moment [] = 0
next_moment (first ∷ later) = first

-- the moments that are left once one was told: the last stands for ever
abbrev pub moments_after : List ℕ → List ℕ
moments_after [] = []
moments_after (last ∷ []) = last ∷ []
moments_after (first ∷ (next ∷ later)) = next ∷ later

-- the pauses so far, and one more
abbrev pub with_pause : ℕ → List ℕ → List ℕ
with_pause nanoseconds pauses = pauses ++ nanoseconds ∷ []
