-- Where a program of some name is.
use Rattle.std.specs.Prelude.{◌≡◌, ℕ, ◌-◌, Bool, true, false, ◌==◌, ◌||◌, if◌then◌else◌, List, [], ◌∷◌, ◌++◌, map, length, slice_index_or, is_some, find, Option, Some, None, Result, Ok, Err, Contains, ◌⊎◌}
use Rattle.sc_entry.specs.Causes.{IfTold}
use Rattle.sc_compile.specs.Tools.{moment_of}
use Rattle.sc_compile.specs.declared.tool.Tool.{Tool}
use Rattle.sc_client.specs.declared.client_error.ClientError.{ClientError}
use Rattle.sc_client.specs.declared.client_error.ClientError.TheVariants as client_errors

abbrev pub has_slash : List ℕ → Bool
has_slash [] = false
has_slash (b ∷ bs) = (b == 47) || has_slash bs

abbrev pub is_absolute : List ℕ → Bool
is_absolute [] = false
is_absolute (b ∷ bs) = b == 47

-- a folder's path with one slash at its end
abbrev pub with_slash : List ℕ → List ℕ
with_slash folder = if slice_index_or folder (length folder - 1) 0 == 47 then folder else folder ++ 47 ∷ []

-- the path of a name in a folder
abbrev pub in_folder : List ℕ → List ℕ → List ℕ
in_folder name folder = with_slash folder ++ name

-- Where a name is looked for, in order: one that begins with a slash is the one path itself, another with a slash is looked for in
-- the working folder alone, any other in each of the folders.
abbrev pub paths_of : List ℕ → List (List ℕ) → List ℕ → List (List ℕ)
paths_of name folders cwd =
    if is_absolute name then name ∷ []
    else if has_slash name then in_folder name cwd ∷ []
    else map (in_folder name) folders

-- whether a table has a tool at a path
abbrev pub is_there : List Tool → List ℕ → Bool
is_there tools path = is_some (moment_of tools path)

-- the first of some paths that has a tool, else that there is none of this name
abbrev pub found_or : List ℕ → Option (List ℕ) → Result (List ℕ) ClientError
found_or name None = Err (client_errors.NotFound name)
found_or name (Some path) = Ok path

-- the answer is this one, unless memory ran out
abbrev pub AnswersTo : {A : Type 0} → Result A ClientError → Result A ClientError → Type 0
AnswersTo due (Ok a) = due ≡ Ok a
AnswersTo due (Err error) = (error ≡ client_errors.NoMemory) ⊎ (due ≡ Err error)

-- a path of these, or that none of them has the name
abbrev pub IsOneOf : List ℕ → List (List ℕ) → Result (List ℕ) ClientError → Type 0
IsOneOf name paths (Ok path) = Contains paths path
IsOneOf name paths (Err error) = (error ≡ client_errors.NoMemory) ⊎ (error ≡ client_errors.NotFound name)

-- What is found is one of the paths, and by a told table the first that has a tool.
pub record Finds (table : Option (List Tool)) (name : List ℕ) (paths : List (List ℕ)) (result : Result (List ℕ) ClientError) : Type 0 where
  pub one : IsOneOf name paths result
  pub told : IfTold table (λ tools. AnswersTo (found_or name (find (is_there tools) paths)) result)
