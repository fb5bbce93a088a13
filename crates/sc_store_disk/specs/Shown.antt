-- What a store of two folders holds, part by part.
use Rattle.std.specs.Prelude.{ℕ, cond, is_some, bytes_eq, List, [], ◌∷◌, Option, Some, None}
use Rattle.std.specs.Map.{lookup}
use Rattle.std.specs.Option.{option_map}
use Rattle.sc_disk.specs.Disks.{DiskFiles, disk_file_at}
use Rattle.sc_model.specs.Levels.{Files, no_files, put_file}
use Rattle.sc_disk_pair.specs.Pairs.{own_key}
use Rattle.sc_disk_pair.specs.Parts.{cut_part}
use Rattle.sc_disk_pair.specs.declared.part.Part.{Part}

-- each path with its file's size, the least recently used first
abbrev pub Index : Type 0
Index = List (List ℕ × ℕ)

-- the bytes at a path
abbrev pub bytes_at : DiskFiles → List ℕ → Option (List ℕ)
bytes_at f q = option_map (λ file. file.bytes) (disk_file_at f q)

-- the bytes at a path that is indexed
abbrev pub shown : Index → DiskFiles → List ℕ → Option (List ℕ)
shown index f q = cond (is_some (lookup (bytes_eq q) index)) (bytes_at f q) None

-- with these bytes under this path, if there are both
abbrev pub with_shown : Option (List ℕ) → Option (List ℕ) → Files → Files
with_shown None bytes files = files
with_shown (Some path) None files = files
with_shown (Some path) (Some bytes) files = put_file files path bytes

-- the indexed files of a part, by their paths in it
abbrev pub files_of : Part → Index → DiskFiles → Files
files_of part [] f = no_files
files_of part (e ∷ es) f = with_shown (own_key part (cut_part e.0)) (bytes_at f e.0) (files_of part es f)
