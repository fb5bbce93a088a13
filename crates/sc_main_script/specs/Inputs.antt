-- What comes on each connection.
use Rattle.std.specs.Prelude.{ℕ, zero, suc, List, [], ◌∷◌, ◌++◌}

-- the bytes of each connection, where some more come on one of them
abbrev pub appended : List (List ℕ) → ℕ → List ℕ → List (List ℕ)
appended [] c bytes = []
appended (t ∷ inputs) zero bytes = (t ++ bytes) ∷ inputs
appended (t ∷ inputs) (suc c) bytes = t ∷ appended inputs c bytes
