-- What is read from a source and written to a sink, and why a call of one fails.
use Rattle.std.specs.Prelude.{◌≡◌, ℕ, ◌+◌, ◌-◌, ◌<◌, ◌≤◌, List, [], ◌++◌, length, take, drop, Result, Ok, Err}
use Rattle.sc_entry.specs.Causes.{Rose}
use Rattle.sc_entry.specs.declared.stream_error.ReadError.{ReadError}
use Rattle.sc_entry.specs.declared.stream_error.ReadError.TheVariants as read_errors
use Rattle.sc_entry.specs.declared.stream_error.WriteError.{WriteError}
use Rattle.sc_entry.specs.declared.stream_error.WriteError.TheVariants as write_errors

-- One read of n bytes: they stand at the front of the buffer, and came from the front of what was left. Of a buffer
-- that has room, 0 is the end.
abbrev pub ReadsOnce : ℕ → List ℕ → List ℕ → List ℕ → Type 0
ReadsOnce n buffer before after = (before ≡ take n buffer ++ after) × (n ≡ 0 → 0 < length buffer → after ≡ [])

-- One write took the first n bytes.
abbrev pub WritesOnce : ℕ → List ℕ → List ℕ → List ℕ → Type 0
WritesOnce n bytes before after = after ≡ before ++ take n bytes

-- A source was read to its end, or until more than a limit came: the bytes are all that it had left, or the first of it.
abbrev pub ReadsToEnd : ℕ → List ℕ → List ℕ → List ℕ → Type 0
ReadsToEnd limit bytes before after = (before ≡ bytes ++ after) × (length bytes ≤ limit → after ≡ [])

-- Some bytes may have been read: what is left is an end of what was left before.
abbrev pub ReadsSome : List ℕ → List ℕ → Type 0
ReadsSome before after = after ≡ drop (length before - length after) before

-- All the bytes were written.
abbrev pub WritesAll : List ℕ → List ℕ → List ℕ → Type 0
WritesAll bytes before after = after ≡ before ++ bytes

-- A front of the bytes was written, and not all of them.
abbrev pub WritesFront : List ℕ → List ℕ → List ℕ → Type 0
WritesFront bytes before after = (after ≡ before ++ take (length after - length before) bytes) × (length after < length before + length bytes)

-- A source's count of faults over a call: it rises where a read was refused, and nowhere else.
abbrev pub ReadCause : {A : Type 0} → ℕ → ℕ → Result A ReadError → Type 0
ReadCause before now (Ok a) = now ≡ before
ReadCause before now (Err read_errors.NoMemory) = now ≡ before
ReadCause before now (Err read_errors.ReadFault) = Rose before now

-- A sink's count of faults over a call: it rises where a write was refused, and nowhere else.
abbrev pub WriteCause : {A : Type 0} → ℕ → ℕ → Result A WriteError → Type 0
WriteCause before now (Ok a) = now ≡ before
WriteCause before now (Err write_errors.NoMemory) = now ≡ before
WriteCause before now (Err write_errors.WriteFault) = Rose before now
