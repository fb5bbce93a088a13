-- What the calls on entries answer, and why.
use Rattle.std.specs.Prelude.{◌≡◌, ℕ, cond, List, [], ◌∷◌, length, nat_lt, Option, Some, None, Result, Ok, Err}
use Rattle.sc_entry.specs.Causes.{Rose, Told}
use Rattle.sc_entry.specs.Streams.{WritesAll, WritesFront}
use Rattle.sc_entry.specs.Entries.{is_object_name, has_name}
use Rattle.sc_entry.specs.declared.object.Object.{Object}
use Rattle.sc_entry.specs.declared.stream_error.WriteError.{WriteError}
use Rattle.sc_entry.specs.declared.stream_error.WriteError.TheVariants as write_errors
use Rattle.sc_entry.specs.declared.entry_error.PutError.{PutError}
use Rattle.sc_entry.specs.declared.entry_error.PutError.TheVariants as put_errors
use Rattle.sc_entry.specs.declared.entry_error.ReadEntryError.{ReadEntryError}
use Rattle.sc_entry.specs.declared.entry_error.ReadEntryError.TheVariants as read_errors
use Rattle.sc_entry.specs.declared.entry_error.GetError.{GetError}
use Rattle.sc_entry.specs.declared.entry_error.GetError.TheVariants as get_errors

-- why an object of this name can't be put after these objects, where it can't
abbrev pub put_refusal : List ℕ → List Object → Option PutError
put_refusal name os =
    cond (has_name name os) (Some put_errors.NameTaken)
    (cond (is_object_name name) (cond (nat_lt (length os) 65535) None (Some put_errors.TooManyObjects)) (Some put_errors.BadName))

-- A put is refused for that cause and no other; want of memory is free.
abbrev pub PutAnswer : Option PutError → Result (Unit {0}) PutError → Type 0
PutAnswer refusal (Ok done) = refusal ≡ None
PutAnswer refusal (Err put_errors.NoMemory) = Unit {0}
PutAnswer refusal (Err error) = refusal ≡ Some error

-- Bytes are read as the list that they spell, and refused exactly where they spell none; want of memory is free.
abbrev pub ReadAnswer : Option (List Object) → Result (List Object) ReadEntryError → Type 0
ReadAnswer listed (Ok os) = listed ≡ Some os
ReadAnswer listed (Err read_errors.NoMemory) = Unit {0}
ReadAnswer listed (Err read_errors.BadEntry) = listed ≡ None

abbrev pub get_error_of : WriteError → GetError
get_error_of write_errors.NoMemory = get_errors.NoMemory
get_error_of write_errors.WriteFault = get_errors.WriteFault

-- An object's mode is answered; DecompressionFailure exactly where there is no such object.
abbrev pub GetAnswer : Option Object → Result (Option ℕ) GetError → Type 0
GetAnswer None (Err get_errors.DecompressionFailure) = Unit {0}
GetAnswer None result = ⊥
GetAnswer (Some o) (Ok mode) = mode ≡ o.mode
GetAnswer (Some o) (Err get_errors.DecompressionFailure) = ⊥
GetAnswer (Some o) (Err error) = Unit {0}

-- the bytes of an object that may be absent
abbrev pub bytes_of : Option Object → List ℕ
bytes_of None = []
bytes_of (Some o) = o.bytes

-- What the sink took: all the object's bytes, a front of them where a write was refused, nothing where there is none.
abbrev pub GetWrites : List ℕ → Result (Option ℕ) GetError → Option (List ℕ) → Option (List ℕ) → Type 0
GetWrites bytes (Ok mode) before now = Told (WritesAll bytes) before now
GetWrites bytes (Err get_errors.DecompressionFailure) before now = now ≡ before
GetWrites bytes (Err error) before now = Told (WritesFront bytes) before now

-- The sink's count of faults rises where a write was refused, and nowhere else.
abbrev pub GetCause : ℕ → ℕ → Result (Option ℕ) GetError → Type 0
GetCause before now (Ok mode) = now ≡ before
GetCause before now (Err get_errors.WriteFault) = Rose before now
GetCause before now (Err error) = now ≡ before

-- the object of what a compiler wrote to a stream; none where it wrote nothing
abbrev pub stream_object : List ℕ → List ℕ → List Object
stream_object name [] = []
stream_object name (b ∷ bytes) = record { name = name; mode = None; bytes = b ∷ bytes } ∷ []

-- why it isn't put; nothing is always put
abbrev pub stream_refusal : List ℕ → List ℕ → List Object → Option PutError
stream_refusal name [] os = None
stream_refusal name (b ∷ bytes) os = put_refusal name os
