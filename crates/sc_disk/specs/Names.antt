-- Names of files: which are keys, and which are of temporaries.
use Rattle.std.specs.Prelude.{◌≡◌, ℕ, ◌==◌, Bool, true, false, List, [], ◌∷◌, ◌++◌, codes, Option, Some, None}
use Rattle.std.specs.List.{before_first}
use Rattle.std.specs.Fmt.{decimal}
use Rattle.sc_entry.specs.Keys.{parts_of, is_temporary}

abbrev pub last_of : List (List ℕ) → List ℕ
last_of [] = []
last_of (p ∷ []) = p
last_of (p ∷ q ∷ ps) = last_of (q ∷ ps)

-- the name of a path's file: its last part
abbrev pub file_name : List ℕ → List ℕ
file_name path = last_of (parts_of path)

-- the name of the path's file begins as that of a temporary
unfoldable pub is_temporary_path : List ℕ → Bool
is_temporary_path path = is_temporary (file_name path)

-- the name of the temporary with this number
unfoldable pub temporary_name : ℕ → List ℕ
temporary_name number = codes ".sccachetmp" ++ decimal number

-- what stands before a path's first slash; without one all of it
abbrev pub first_part : List ℕ → List ℕ
first_part path = before_first (λ b. b == 47) path

-- The path of the temporary with this number, of an entry for this key. On a divided disk it stands in the key's first
-- part, so that its file is moved on one device.
abbrev pub temporary : Bool → List ℕ → ℕ → List ℕ
temporary false key number = temporary_name number
temporary true key number = first_part key ++ 47 ∷ temporary_name number

-- a path cut behind its first part, if another follows
abbrev pub PartsBy : List ℕ → Option (List ℕ × List ℕ) → Type 0
PartsBy path None = parts_of path ≡ path ∷ []
PartsBy path (Some p) = parts_of path ≡ p.0 ∷ parts_of p.1
