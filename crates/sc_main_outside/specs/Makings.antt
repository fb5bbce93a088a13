-- Why the outside makes a part, or doesn't.
use Rattle.std.specs.Prelude.{◌≡◌, ℕ, Bool, true, false, List, [], ◌∷◌, Result, Ok, Err}
use Rattle.sc_entry.specs.Causes.{Rose}
use Rattle.sc_main_outside.specs.declared.make_error.MakeError.{MakeError}
use Rattle.sc_main_outside.specs.declared.make_error.MakeError.TheVariants.{MakeFault, NoMemory}

-- The count of faults over a call: it rises where the call was refused, and nowhere else.
abbrev pub MakeCause : {M : Type 0} → ℕ → ℕ → Result M MakeError → Type 0
MakeCause before now (Ok made) = now ≡ before
MakeCause before now (Err NoMemory) = now ≡ before
MakeCause before now (Err MakeFault) = Rose before now

-- What is made is the first of a list's parts. A call that is to fail, and one where none is left, are refused.
abbrev pub part_answer : {M : Type 0} → Bool → List M → Result M MakeError
part_answer true parts = Err MakeFault
part_answer false [] = Err MakeFault
part_answer false (part ∷ parts) = Ok part

-- What is made is taken off the list; a refused call takes nothing.
abbrev pub TakesFirst : {M : Type 0} → Result M MakeError → List M → List M → Type 0
TakesFirst (Ok part) before now = before ≡ part ∷ now
TakesFirst (Err error) before now = now ≡ before
