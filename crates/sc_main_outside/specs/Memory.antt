-- What the calls of an outside in memory come to.
use Rattle.std.specs.Prelude.{◌≡◌, ℕ, Bool, true, false, List, [], Result, Ok, Err}
use Rattle.sc_disk.specs.Memory.{Memory}
use Rattle.sc_entry.specs.Failing.{fails_at, one_more}
use Rattle.sc_entry.specs.declared.calls.Calls.{Calls}
use Rattle.sc_main_outside.specs.Makings.{TakesFirst, part_answer}
use Rattle.sc_main_outside.specs.declared.make_error.MakeError.{MakeError}
use Rattle.sc_main_outside.specs.declared.make_error.MakeError.TheVariants.{MakeFault, NoMemory}

-- whether the next call is to fail
abbrev pub fails_next : Calls → Bool
fails_next calls = fails_at calls (one_more calls.made)

-- a call came, and the same ones are to fail
abbrev pub Counts : Calls → Calls → Type 0
Counts before now = (now.made ≡ one_more before.made) × ((number : ℕ) → fails_at now number ≡ fails_at before number)

-- Each call is counted, but for one that ends for want of memory.
abbrev pub CallsOnce : {M : Type 0} → Result M MakeError → Calls → Calls → Type 0
CallsOnce (Ok made) before now = Counts before now
CallsOnce (Err NoMemory) before now = now ≡ before
CallsOnce (Err MakeFault) before now = Counts before now

-- A call that takes no part is refused where it is to fail, and nowhere else; one that ends for want of memory is neither.
abbrev pub RefusesWhere : {M : Type 0} → Bool → Result M MakeError → Type 0
RefusesWhere fails (Ok made) = fails ≡ false
RefusesWhere fails (Err NoMemory) = Unit {0}
RefusesWhere fails (Err MakeFault) = fails ≡ true

-- the first of a list's parts is given, and taken off it
abbrev pub GivesPart : {M : Type 0} → Bool → Result M MakeError → List M → List M → Type 0
GivesPart fails result before now = (result ≡ part_answer fails before) × TakesFirst result before now

-- a disk that holds nothing, was not changed, and refuses no call
abbrev pub IsNew : Memory → Type 0
IsNew disk = (disk.outside ≡ []) × (disk.done ≡ []) × (disk.calls.faults ≡ 0) × ((number : ℕ) → fails_at disk.calls number ≡ false)
