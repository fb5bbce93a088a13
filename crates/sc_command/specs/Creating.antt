-- What a creator answers.
use Rattle.std.specs.Prelude.{◌≡◌, ℕ, Bool, List, [], ◌∷◌, Option, Some, None, Result, Ok, Err, IsTrue}
use Rattle.sc_entry.specs.Causes.{Rose}
use Rattle.sc_command.specs.declared.refusal.NewCommandError.{NewCommandError}
use Rattle.sc_command.specs.declared.refusal.NewCommandError.TheVariants.{NoMemory, NoChild}

-- A creator that tells its commands gives the first and keeps the others. `NoChild` comes exactly where none is left,
-- and nothing is taken then, nor where memory ran out. A creator that doesn't tell stays so.
abbrev pub NewAnswer : {C : Type 0} → Option (List C) → Result C NewCommandError → Option (List C) → Type 0
NewAnswer None result after = after ≡ None
NewAnswer (Some []) (Ok command) after = ⊥
NewAnswer (Some []) (Err error) after = after ≡ Some []
NewAnswer (Some (first ∷ rest)) (Ok command) after = (command ≡ first) × (after ≡ Some rest)
NewAnswer (Some (first ∷ rest)) (Err NoMemory) after = after ≡ Some (first ∷ rest)
NewAnswer (Some (first ∷ rest)) (Err NoChild) after = ⊥

-- A creator's count over a call that makes a command: it rises where that is refused, and nowhere else. Only a creator
-- that has a list of children refuses.
abbrev pub NewCause : {C : Type 0} → Bool → ℕ → ℕ → Result C NewCommandError → Type 0
NewCause listed before now (Ok command) = now ≡ before
NewCause listed before now (Err NoMemory) = now ≡ before
NewCause listed before now (Err NoChild) = IsTrue listed × Rose before now
