-- Readers of words, one after another.
use Rattle.std.specs.Prelude.{ℕ, List, Option, Some}
use Rattle.sc_words.specs.Words.{Reader, word}
use Rattle.sc_words.specs.Words.{◌>>=◌ as ◌then◌}

-- one reader after another
infixl 10 ◌>>=◌
abbrev pub ◌>>=◌ : {A B : Type 0} → Reader A → (A → Reader B) → Reader B
(r >>= f) ws = r ws then (λ p. f p.0 p.1)

abbrev pub gives : {A : Type 0} → A → Reader A
gives x ws = Some (x, ws)

-- the next word, of which there must be one
abbrev pub field : {A : Type 0} → (List ℕ → Option A) → Reader A
field f ws = word ws then (λ p. f p.0 then (λ x. Some (x, p.1)))
