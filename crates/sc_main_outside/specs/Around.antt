-- What a program reads off what is around it.
use Rattle.std.specs.Prelude.{ℕ, Bool, false, List, [], ◌∷◌, ◌++◌, ◌==◌, if◌then◌else◌, bytes_eq, codes, map, Option, Some, None}
use Rattle.std.specs.List.{slice_split}
use Rattle.sc_client.specs.declared.outlet.Outlets.{Outlets}
use Rattle.sc_main_outside.specs.declared.surroundings.Surroundings.{Surroundings}
use Rattle.sc_model.specs.declared.message.Variable.{Variable}

-- the value of the first variable of a name
abbrev pub value_in : List ℕ → List Variable → Option (List ℕ)
value_in name [] = None
value_in name (v ∷ vs) = if bytes_eq v.name name then Some v.value else value_in name vs

abbrev pub is_value : Option (List ℕ) → List ℕ → Bool
is_value None text = false
is_value (Some value) text = bytes_eq value text

-- A part of `PATH` as a folder. One that doesn't begin with `/` is in the working folder, and an empty one is that itself.
abbrev pub folder_of : List ℕ → List ℕ → List ℕ
folder_of cwd [] = cwd
folder_of cwd (byte ∷ rest) = if byte == 47 then byte ∷ rest else cwd ++ 47 ∷ byte ∷ rest

-- the folders of a `PATH`, in order: its parts stand between colons
abbrev pub folders_of : List ℕ → List ℕ → List (List ℕ)
folders_of cwd path = map (folder_of cwd) (slice_split (λ b. b == 58) path)

-- there are none where there is no `PATH`
abbrev pub folders_in : List ℕ → Option (List ℕ) → List (List ℕ)
folders_in cwd None = []
folders_in cwd (Some path) = folders_of cwd path

-- whether terminals show no colors
abbrev pub is_dumb : List Variable → Bool
is_dumb variables = is_value (value_in (codes "TERM") variables) (codes "dumb")

-- where the two streams go, which are terminals or not
abbrev pub outlets_of : List Variable → (out err : Bool) → Outlets
outlets_of variables out err = record {
  out = record { is_terminal = out; is_dumb = is_dumb variables };
  err = record { is_terminal = err; is_dumb = is_dumb variables };
}

-- What is around a program in this working folder, with these variables, whose two streams are terminals or not.
abbrev pub around_of : List ℕ → List Variable → (out err : Bool) → Surroundings
around_of cwd variables out err = record {
  cwd = cwd;
  folders = folders_in cwd (value_in (codes "PATH") variables);
  ignores_server_errors = is_value (value_in (codes "SCCACHE_IGNORE_SERVER_IO_ERROR") variables) (codes "1");
  outlets = outlets_of variables out err;
  variables = variables;
}
