-- Bytes by path, as a map in memory holds them.
use Rattle.std.specs.Prelude.{ℕ, ◌-◌, ◌^◌, min, List, [], ◌∷◌}
use Rattle.std.specs.Coded.{Coded, coded_ℕ, coded_list}
use Rattle.std.specs.FinMap as map
use Rattle.sc_model.specs.Levels.{Files, put_file, size_of}

abbrev pub files_code : Coded Files
files_code = map.code (coded_list coded_ℕ) (coded_list coded_ℕ)

abbrev pub files_of : List (List ℕ × List ℕ) → Files
files_of entries = map.from_entries entries

-- bytes put under their paths one after another: of two with one path the later stays
abbrev pub put_all : Files → List (List ℕ × List ℕ) → Files
put_all files [] = files
put_all files (e ∷ es) = put_all (put_file files e.0 e.1) es

-- each path with its bytes, the paths ascending by their bytes
abbrev pub entries_of : Files → List (List ℕ × List ℕ)
entries_of files = map.entries files

-- the sum of all bytes, no more than u64's greatest value
abbrev pub told_size : Files → ℕ
told_size files = min (size_of files) (2 ^ 64 - 1)
