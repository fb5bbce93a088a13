use Rattle.std.specs.Prelude.{◌≡◌, ℕ, List, Option, Some, None, Result, Ok, Err}
use Rattle.sc_wire.specs.declared.error.DecodeError.{DecodeError}
use Rattle.sc_wire.specs.declared.error.DecodeError.TheVariants.{NoMemory, BadFrame}

-- how a reader fails: it says nothing where memory ran out
abbrev pub Fails : {A : Type 0} → DecodeError → Option A → Type 0
Fails NoMemory read = Unit {0}
Fails BadFrame read = read ≡ None

-- What a reader returned, and what it left, is what reading gives.
abbrev pub Gives : {A : Type 0} → Result A DecodeError → List ℕ → Option (A × List ℕ) → Type 0
Gives (Ok x) rest read = read ≡ Some (x, rest)
Gives (Err e) rest read = Fails e read

-- a fact where the bytes are at fault
abbrev pub IfBadFrame : DecodeError → Type 0 → Type 0
IfBadFrame NoMemory P = Unit {0}
IfBadFrame BadFrame P = P

-- What a decoder returned is what the bytes spell, unless memory ran out.
abbrev pub Decodes : {A : Type 0} → Result A DecodeError → Option A → Type 0
Decodes (Ok x) read = read ≡ Some x
Decodes (Err e) read = Fails e read
