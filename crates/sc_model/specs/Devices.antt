-- The calls of a level's device, where it tells them.
use Rattle.std.specs.Prelude.{◌≡◌, ℕ, zero, suc, ◌+◌, ◌<◌, ◌≤◌, true, false, Bool, List, Option, Some, None}
use Rattle.std.specs.FinSet as set
use Rattle.std.specs.Ordering.{nat_cmp}
use Rattle.sc_entry.specs.Causes.{Rose}
use Rattle.sc_entry.specs.Failing.{one_more}

-- numbers of calls, counted from 1
abbrev pub Numbers : Type 0
Numbers = set.FinSet nat_cmp

abbrev pub numbers_of : List ℕ → Numbers
numbers_of numbers = set.from_list numbers

abbrev pub is_listed : ℕ → Numbers → Bool
is_listed number numbers = set.contains numbers number

-- which calls are to fail, and how many were made
pub record Calls : Type 0 where
  pub failing : Numbers
  pub made : ℕ

-- no call was made, and those of these numbers are to fail
abbrev pub calls_failing : List ℕ → Calls
calls_failing numbers = record { failing = numbers_of numbers; made = 0 }

-- Calls were made. The count of faults, f before and g now, rises only at a call that is to fail, and at each such call.
pub record Makes (before now : Calls) (f g : ℕ) : Type 0 where
  pub failing : now.failing ≡ before.failing
  pub made : before.made ≤ now.made
  pub fault : f < g → (number : ℕ) × Rose before.made number × (number ≤ now.made) × (is_listed number before.failing ≡ true)
  pub fails : (number : ℕ) → before.made < number → number ≤ now.made → is_listed number before.failing ≡ true → Rose f g

-- what a device tells of its calls stays told
abbrev pub MakesOn : Option Calls → Option Calls → ℕ → ℕ → Type 0
MakesOn None now f g = now ≡ None
MakesOn (Some before) now f g = (c : Calls) × (now ≡ Some c) × Makes before c f g

-- one call more, and so many more; their number stops at the end of u64
abbrev pub called : Calls → Calls
called c = record { failing = c.failing; made = one_more c.made }

abbrev pub calls_on : ℕ → Calls → Calls
calls_on zero c = c
calls_on (suc n) c = called (calls_on n c)

-- the call that was made last is to fail
abbrev pub is_to_fail : Calls → Bool
is_to_fail c = is_listed c.made c.failing

-- of so many calls more none is to fail
abbrev pub ArePassed : ℕ → Calls → Type 0
ArePassed zero c = Unit {0}
ArePassed (suc n) c = ArePassed n c × (is_to_fail (calls_on (suc n) c) ≡ false)

-- What an event made of a device's calls: so many that passed; or so many that passed, one that was refused, and so many behind it
-- that clean up.
pub data Made : Type 0 where
  Passed : (calls : ℕ) → Made
  Failed : (calls behind : ℕ) → Made

-- Where a device tells its calls, a call is refused exactly where it is to fail; and no fault is counted but of such a call.
abbrev pub MakesJust : Made → Calls → Calls → ℕ → ℕ → Type 0
MakesJust (Passed n) before now f g = ArePassed n before × (now ≡ calls_on n before) × (g ≡ f)
MakesJust (Failed n behind) before now f g = ArePassed n before × (is_to_fail (calls_on (suc n) before) ≡ true) × (now ≡ calls_on (behind + suc n) before) × Rose f g

-- the same, of what is told
abbrev pub MakesMade : Made → Option Calls → Option Calls → ℕ → ℕ → Type 0
MakesMade made None now f g = now ≡ None
MakesMade made (Some before) now f g = (c : Calls) × (now ≡ Some c) × MakesJust made before c f g

-- a device that tells its calls loses nothing
abbrev pub Loses : Option Calls → ℕ → ℕ → Type 0
Loses None before now = before ≤ now
Loses (Some calls) before now = now ≡ before
