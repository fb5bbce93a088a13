-- How an entry is made from files, and at which files its objects are placed.
use Rattle.std.specs.Prelude.{◌≡◌, ℕ, suc, ◌≤◌, Bool, true, false, cond, not, ◌&&◌, ◌||◌, ◌⊎◌, List, [], ◌∷◌, ◌++◌, length, take, slice_get, codes, Option, Some, None, Result, Ok, Err}
use Rattle.std.specs.Str.{bytes_eq}
use Rattle.sc_entry.specs.Causes.{Rose, Told}
use Rattle.sc_entry.specs.Entries.{find_object, has_name}
use Rattle.sc_entry.specs.EntryAnswers.{put_refusal}
use Rattle.sc_entry.specs.FileMaps.{FileMap, ReadsFile, with_file}
use Rattle.sc_entry.specs.declared.object.Object.{Object}
use Rattle.sc_entry.specs.declared.object.FileObjectSource.{FileObjectSource}
use Rattle.sc_entry.specs.declared.entry_error.PutError.{PutError}
use Rattle.sc_entry.specs.declared.entry_error.PutError.TheVariants as put_errors
use Rattle.sc_entry.specs.declared.file_error.FileError.{FileError}
use Rattle.sc_entry.specs.declared.file_error.FileError.TheVariants as file_errors
use Rattle.sc_entry.specs.declared.entry_files.FromObjectsError.{FromObjectsError}
use Rattle.sc_entry.specs.declared.entry_files.FromObjectsError.TheVariants as from_errors
use Rattle.sc_entry.specs.declared.entry_files.ExtractError.{ExtractError}
use Rattle.sc_entry.specs.declared.entry_files.ExtractError.TheVariants as extract_errors

-- ---- from files to an entry

-- an object has its source's name, and holds what stands at its path
abbrev pub ReadsAs : Option FileMap → FileObjectSource → Object → Type 0
ReadsAs held s o = (o.name ≡ s.key) × ReadsFile held s.path (record { bytes = o.bytes; mode = o.mode })

-- The objects of the first sources: each source in its order gives its object, and an optional one may give none.
pub data Gathered (held : Option FileMap) (sources : List FileObjectSource) : ℕ → List Object → Type 0 where
  begun : Gathered held sources 0 []
  read : {i : ℕ} {os : List Object} → Gathered held sources i os → (s : FileObjectSource) → (o : Object) → slice_get sources i ≡ Some s → ReadsAs held s o
      → Gathered held sources (suc i) (os ++ (o ∷ []))
  skipped : {i : ℕ} {os : List Object} → Gathered held sources i os → (s : FileObjectSource) → slice_get sources i ≡ Some s → s.optional ≡ true → Gathered held sources (suc i) os

abbrev pub from_put_error : PutError → FromObjectsError
from_put_error put_errors.NoMemory = from_errors.NoMemory
from_put_error put_errors.NameTaken = from_errors.NameTaken
from_put_error put_errors.BadName = from_errors.BadName
from_put_error put_errors.TooManyObjects = from_errors.TooManyObjects

abbrev pub from_file_error : FileError → FromObjectsError
from_file_error file_errors.NoMemory = from_errors.NoMemory
from_file_error file_errors.FileFault = from_errors.FileFault

abbrev pub extract_file_error : FileError → ExtractError
extract_file_error file_errors.NoMemory = extract_errors.NoMemory
extract_file_error file_errors.FileFault = extract_errors.FileFault

-- a source's object can't be put after those of the sources before it
abbrev pub IsRefusedPut : Option FileMap → List FileObjectSource → PutError → Type 0
IsRefusedPut held sources error =
    (i : ℕ) × (os : List Object) × (s : FileObjectSource) × Gathered held sources i os × (slice_get sources i ≡ Some s) × (put_refusal s.key os ≡ Some error)

-- Why no entry is made.
abbrev pub FromCause : Option FileMap → List FileObjectSource → ℕ → ℕ → FromObjectsError → Type 0
FromCause held sources before now from_errors.NoMemory = Unit {0}
FromCause held sources before now from_errors.NameTaken = IsRefusedPut held sources put_errors.NameTaken
FromCause held sources before now from_errors.BadName = IsRefusedPut held sources put_errors.BadName
FromCause held sources before now from_errors.TooManyObjects = IsRefusedPut held sources put_errors.TooManyObjects
FromCause held sources before now from_errors.FileFault = Rose before now

-- A source gave its object, or it is optional, the files refused and it is passed over.
abbrev pub TakesSource : Option FileMap → FileObjectSource → List Object → List Object → ℕ → ℕ → Type 0
TakesSource held s before after faults faults' =
    ((o : Object) × ReadsAs held s o × (after ≡ before ++ (o ∷ [])) × (faults' ≡ faults))
    ⊎ ((s.optional ≡ true) × (after ≡ before) × Rose faults faults')

-- Why one source gives no object.
abbrev pub SourceCause : FileObjectSource → List Object → ℕ → ℕ → FromObjectsError → Type 0
SourceCause s os before now from_errors.NoMemory = Unit {0}
SourceCause s os before now from_errors.NameTaken = put_refusal s.key os ≡ Some put_errors.NameTaken
SourceCause s os before now from_errors.BadName = put_refusal s.key os ≡ Some put_errors.BadName
SourceCause s os before now from_errors.TooManyObjects = put_refusal s.key os ≡ Some put_errors.TooManyObjects
SourceCause s os before now from_errors.FileFault = Rose before now × (s.optional ≡ false)

-- ---- from an entry to files

abbrev pub is_null_path : List ℕ → Bool
is_null_path path = bytes_eq path (codes "/dev/null")

-- a required object that isn't there; nothing is required for `/dev/null`
abbrev pub is_lacking : List Object → FileObjectSource → Bool
is_lacking os s = not (is_null_path s.path) && (not s.optional && not (has_name s.key os))

abbrev pub lacks_any : List Object → List FileObjectSource → Bool
lacks_any os [] = false
lacks_any os (s ∷ ss) = is_lacking os s || lacks_any os ss

-- the object that is placed for a source
abbrev pub object_to_place : List Object → FileObjectSource → Option Object
object_to_place os s = cond (is_null_path s.path) None (find_object s.key os)

abbrev pub place_object : Option Object → List ℕ → FileMap → FileMap
place_object None path files = files
place_object (Some o) path files = with_file files path (record { bytes = o.bytes; mode = o.mode })

-- the files after the objects of the sources were placed in their order
abbrev pub place_each : List Object → List FileObjectSource → FileMap → FileMap
place_each os [] files = files
place_each os (s ∷ ss) files = place_each os ss (place_object (object_to_place os s) s.path files)

-- DecompressionFailure exactly where a required object lacks.
abbrev pub ExtractAnswer : Bool → Result (Unit {0}) ExtractError → Type 0
ExtractAnswer true (Err extract_errors.DecompressionFailure) = Unit {0}
ExtractAnswer true result = ⊥
ExtractAnswer false (Err extract_errors.DecompressionFailure) = ⊥
ExtractAnswer false result = Unit {0}

-- the objects of some first sources were placed
abbrev pub PlacesSome : List Object → List FileObjectSource → FileMap → FileMap → Type 0
PlacesSome os sources before after = (n : ℕ) × (after ≡ place_each os (take n sources) before)

-- Every object is placed; nothing where a required one lacks; those of some first sources where the files refused.
abbrev pub ExtractPlaces : List Object → List FileObjectSource → Result (Unit {0}) ExtractError → Option FileMap → Option FileMap → Type 0
ExtractPlaces os sources (Ok done) before now = Told (λ old new. new ≡ place_each os sources old) before now
ExtractPlaces os sources (Err extract_errors.DecompressionFailure) before now = now ≡ before
ExtractPlaces os sources (Err error) before now = Told (PlacesSome os sources) before now

-- The files' count of faults rises where they refused, and nowhere else.
abbrev pub ExtractCause : ℕ → ℕ → Result (Unit {0}) ExtractError → Type 0
ExtractCause before now (Ok done) = now ≡ before
ExtractCause before now (Err extract_errors.FileFault) = Rose before now
ExtractCause before now (Err error) = now ≡ before
