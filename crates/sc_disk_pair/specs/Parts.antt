-- The two parts of a pair of folders, and how their paths, files and changes are told as those of one folder.
use Rattle.std.specs.Prelude.{◌≡◌, ℕ, ◌==◌, Bool, ◌&&◌, cond, bytes_eq, List, [], ◌∷◌, ◌++◌, map as each, Option, Some, None}
use Rattle.std.specs.FinMap as map
use Rattle.std.specs.Cmp.Lexicographic.{pointwise}
use Rattle.sc_disk.specs.Disks.{DiskFiles, OutsideFiles, disk_file_at}
use Rattle.sc_disk.specs.declared.change.Change.{Change}
use Rattle.sc_disk.specs.declared.change.Change.TheVariants.{Made, Added, Touched, Moved, Gone}
use Rattle.sc_disk.specs.declared.disk.Listed.{Listed}
use Rattle.sc_disk.specs.declared.disk_file.DiskFile.{DiskFile}
use Rattle.sc_disk_pair.specs.declared.part.Part.{Part}
use Rattle.sc_disk_pair.specs.declared.part.Part.TheVariants.{Main, Pre}

-- the letter that the paths of a part begin with: `m` or `p`
abbrev pub letter_of : Part → ℕ
letter_of Main = 109
letter_of Pre = 112

-- the path of a part's file, or its key, among those of both: the letter, `/`, and what it is in its part
abbrev pub in_part : Part → List ℕ → List ℕ
in_part part path = letter_of part ∷ 47 ∷ path

abbrev pub part_by : ℕ → List ℕ → Option (Part × List ℕ)
part_by letter rest = cond (letter == 109) (Some (Main, rest)) (cond (letter == 112) (Some (Pre, rest)) None)

-- the part of a path and what it is in that part, if it has one
abbrev pub cut_part : List ℕ → Option (Part × List ℕ)
cut_part [] = None
cut_part (b ∷ []) = None
cut_part (b ∷ c ∷ rest) = cond (c == 47) (part_by b rest) None

-- a part's change as one of both
abbrev pub change_in : Part → Change → Change
change_in part (Made path now) = Made (in_part part path) now
change_in part (Added path bytes) = Added (in_part part path) bytes
change_in part (Touched path now) = Touched (in_part part path) now
change_in part (Moved from to) = Moved (in_part part from) (in_part part to)
change_in part (Gone path) = Gone (in_part part path)

abbrev pub changes_in : Part → List Change → List Change
changes_in part xs = each (change_in part) xs

abbrev pub files_in : Part → List (List ℕ × DiskFile) → List (List ℕ × DiskFile)
files_in part es = each (λ e. (in_part part e.0, e.1)) es

-- the files of both
unfoldable pub joined : DiskFiles → DiskFiles → DiskFiles
joined main pre = map.from_sorted (files_in Main (map.entries main) ++ files_in Pre (map.entries pre))

-- a part's file as a listing of both has it
abbrev pub listed_in : Part → Listed → Listed
listed_in part e = record { moment = e.moment; path = in_part part e.path; size = e.size }

abbrev pub all_in : Part → List Listed → List Listed
all_in part es = each (listed_in part) es

-- the file at a path of a part, among the files of both
abbrev pub file_of : Part → DiskFiles → List ℕ → Option DiskFile
file_of part f path = disk_file_at f (in_part part path)

abbrev pub same_pair : List ℕ × List ℕ → List ℕ × List ℕ → Bool
same_pair a b = bytes_eq a.0 b.0 && bytes_eq a.1 b.1

-- the same bytes stand outside
unfoldable pub same_outside : OutsideFiles → OutsideFiles → Bool
same_outside a b = pointwise same_pair (map.entries a) (map.entries b)

-- each file is of one of the parts
abbrev pub ArePlaced : DiskFiles → Type 0
ArePlaced f = (q : List ℕ) → cut_part q ≡ None → disk_file_at f q ≡ None
