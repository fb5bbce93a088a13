-- The calls of a disk's device, where it tells them.
use Rattle.std.specs.Prelude.{◌≡◌, ℕ, ◌<◌, ◌≤◌, true, Option, Some, None}
use Rattle.sc_entry.specs.Causes.{Rose}
use Rattle.sc_entry.specs.Failing.{fails_at}
use Rattle.sc_entry.specs.declared.calls.Calls.{Calls}

-- Calls were made. Those that are to fail stay so, and at each such call the count of faults, f before and g now, rises.
pub record Counts (before now : Calls) (f g : ℕ) : Type 0 where
  pub failing : (number : ℕ) → fails_at now number ≡ fails_at before number
  pub made : before.made ≤ now.made
  pub fails : (number : ℕ) → before.made < number → number ≤ now.made → fails_at before number ≡ true → Rose f g

-- Calls were made, and the count of faults rises at those that are to fail alone.
pub record Makes (before now : Calls) (f g : ℕ) : Type 0 where
  pub counts : Counts before now f g
  pub fault : f < g → (number : ℕ) × Rose before.made number × (number ≤ now.made) × (fails_at before number ≡ true)

-- what a device tells of its calls stays told
abbrev pub CountsOn : Option Calls → Option Calls → ℕ → ℕ → Type 0
CountsOn None now f g = now ≡ None
CountsOn (Some before) now f g = (c : Calls) × (now ≡ Some c) × Counts before c f g

abbrev pub MakesOn : Option Calls → Option Calls → ℕ → ℕ → Type 0
MakesOn None now f g = now ≡ None
MakesOn (Some before) now f g = (c : Calls) × (now ≡ Some c) × Makes before c f g
