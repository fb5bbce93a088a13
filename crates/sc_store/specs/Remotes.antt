-- What a call of a store behind a network does to what the store holds, and why it is refused.
use Rattle.std.specs.Prelude.{◌≡◌, ℕ, Bool, true, false, List, Option, Some, None, ◌⊎◌}
use Rattle.sc_entry.specs.Causes.{IfTold, Rose}
use Rattle.sc_model.specs.Devices.{Calls, Failed, MakesMade, Passed}
use Rattle.sc_model.specs.Levels.{Files, IsPart, and_one, find_file, put_file}
use Rattle.sc_model.specs.declared.level.RemoteFault.TheVariants.{Other}
use Rattle.sc_store.specs.declared.remote.RemoteRead.{RemoteRead}
use Rattle.sc_store.specs.declared.remote.RemoteRead.TheVariants.{Found, NotFound, Refused as ReadRefused}
use Rattle.sc_store.specs.declared.remote.RemoteWrite.{RemoteWrite}
use Rattle.sc_store.specs.declared.remote.RemoteWrite.TheVariants.{Done, Refused as WriteRefused}

-- All that is held stays, but for what the store may find lost where its count of losses rose.
abbrev pub Keeps : ℕ → ℕ → Files → Files → Type 0
Keeps losses later before now = (now ≡ before) ⊎ (IsPart now before × Rose losses later)

-- A done write leaves its bytes at its path; others may be found lost where the count of losses rose.
abbrev pub Puts : ℕ → ℕ → List ℕ → List ℕ → Files → Files → Type 0
Puts losses later path bytes before now =
    (now ≡ put_file before path bytes) ⊎ (IsPart now (put_file before path bytes) × (find_file now path ≡ Some bytes) × Rose losses later)

-- a read's answer, by what is held after it
abbrev pub ReadAnswer : RemoteRead → List ℕ → Files → Type 0
ReadAnswer (Found bytes) path now = find_file now path ≡ Some bytes
ReadAnswer NotFound path now = find_file now path ≡ None
ReadAnswer (ReadRefused fault) path now = Unit {0}

-- what a read leaves
abbrev pub Reads : RemoteRead → ℕ → ℕ → List ℕ → Files → Files → Type 0
Reads answer losses later path before now = Keeps losses later before now × ReadAnswer answer path now

-- what a write leaves
abbrev pub Writes : RemoteWrite → ℕ → ℕ → List ℕ → List ℕ → Files → Files → Type 0
Writes Done losses later path bytes before now = Puts losses later path bytes before now
Writes (WriteRefused fault) losses later path bytes before now = Keeps losses later before now

-- A refusal comes only where the count of faults rose.
abbrev pub ReadCause : RemoteRead → ℕ → ℕ → Type 0
ReadCause (ReadRefused fault) before now = Rose before now
ReadCause _ before now = Unit {0}

abbrev pub WriteCause : RemoteWrite → ℕ → ℕ → Type 0
WriteCause (WriteRefused fault) before now = Rose before now
WriteCause Done before now = Unit {0}

-- One call was made. Where calls are told it is refused exactly where it is to fail, and a refusal has no kind of its own.
abbrev pub ReadCalls : RemoteRead → Option Calls → Option Calls → ℕ → ℕ → Type 0
ReadCalls (ReadRefused fault) before now f g = IfTold before (λ calls. fault ≡ Other) × MakesMade (Failed 0 0) before now f g
ReadCalls _ before now f g = MakesMade (Passed 1) before now f g

abbrev pub WriteCalls : RemoteWrite → Option Calls → Option Calls → ℕ → ℕ → Type 0
WriteCalls (WriteRefused fault) before now f g = IfTold before (λ calls. fault ≡ Other) × MakesMade (Failed 0 0) before now f g
WriteCalls Done before now f g = MakesMade (Passed 1) before now f g

-- What a write adds to what reached what is behind a store, where that is told: its bytes, which a refused one may have brought there
-- or not.
abbrev pub ReachesBy : RemoteWrite → List ℕ → List ℕ → Option (List (List ℕ × List ℕ)) → Option (List (List ℕ × List ℕ)) → Type 0
ReachesBy Done path bytes before now = now ≡ and_one before (path, bytes)
ReachesBy (WriteRefused fault) path bytes before now = (now ≡ before) ⊎ (now ≡ and_one before (path, bytes))

-- What a store in memory answers: it refuses the calls that are to fail, and no others. Its faults have no kind of their own.
abbrev pub read_found : Option (List ℕ) → RemoteRead
read_found None = NotFound
read_found (Some bytes) = Found bytes

abbrev pub read_of : Bool → Option (List ℕ) → RemoteRead
read_of true found = ReadRefused Other
read_of false found = read_found found

abbrev pub write_of : Bool → RemoteWrite
write_of true = WriteRefused Other
write_of false = Done
