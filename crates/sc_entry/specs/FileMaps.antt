-- What files hold, what is placed at them, and why a call on them fails.
use Rattle.std.specs.Prelude.{◌≡◌, ℕ, List, Option, Some, None, Result, Ok, Err}
use Rattle.std.specs.FinMap as map
use Rattle.std.specs.Ordering.{nat_cmp}
use Rattle.std.specs.Cmp.Lexicographic.{slice_cmp}
use Rattle.sc_entry.specs.Causes.{Rose, IfTold}
use Rattle.sc_entry.specs.declared.files.FileContent.{FileContent}
use Rattle.sc_entry.specs.declared.file_error.FileError.{FileError}
use Rattle.sc_entry.specs.declared.file_error.FileError.TheVariants as file_errors

-- what stands at each path
abbrev pub FileMap : Type 0
FileMap = map.FinMap (slice_cmp nat_cmp) FileContent

abbrev pub file_map_of : List (List ℕ × FileContent) → FileMap
file_map_of entries = map.from_entries entries

abbrev pub file_at : FileMap → List ℕ → Option FileContent
file_at files path = map.get files path

abbrev pub with_file : FileMap → List ℕ → FileContent → FileMap
with_file files path content = map.insert files path content

-- A read answers what stands at the path, where the files tell it.
abbrev pub ReadsFile : Option FileMap → List ℕ → FileContent → Type 0
ReadsFile held path content = IfTold held (λ files. file_at files path ≡ Some content)

-- a file is placed, and nothing else changes
abbrev pub Places : List ℕ → FileContent → FileMap → FileMap → Type 0
Places path content before after = after ≡ with_file before path content

-- The files' count of faults rises where a call was refused, and nowhere else.
abbrev pub FileCause : {A : Type 0} → ℕ → ℕ → Result A FileError → Type 0
FileCause before now (Ok a) = now ≡ before
FileCause before now (Err file_errors.NoMemory) = now ≡ before
FileCause before now (Err file_errors.FileFault) = Rose before now
