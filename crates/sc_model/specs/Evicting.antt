-- Which files of a disk level go.
use Rattle.std.specs.Prelude.{◌≡◌, ℕ, suc, ◌+◌, ◌<◌, Bool, true, false, cond, is_some, List, [], ◌∷◌, Option}
use Rattle.sc_model.specs.Levels.{find_file, drop_file, size_of, Level}

-- files of both maps go one by one, each only while all that counts exceeds the capacity
abbrev pub part_size : Level → ℕ
part_size v = size_of v.main + size_of v.pre

abbrev pub drop_part : Bool → List ℕ → Level → Level
drop_part true p v = record v { main = drop_file v.main p }
drop_part false p v = record v { pre = drop_file v.pre p }

abbrev pub part_file : Bool → List ℕ → Level → Option (List ℕ)
part_file true p v = find_file v.main p
part_file false p v = find_file v.pre p

abbrev pub Evicts : ℕ → ℕ → List (Bool × List ℕ) → Level → Level → Type 0
Evicts capacity more [] v w = (w.main ≡ v.main) × (w.pre ≡ v.pre)
Evicts capacity more (p ∷ ps) v w = (capacity < part_size v + more) × (is_some (part_file (p.0) (p.1) v) ≡ true) × Evicts capacity more ps (drop_part (p.0) (p.1) v) w

-- how many main files are among these
abbrev pub main_count : List (Bool × List ℕ) → ℕ
main_count [] = 0
main_count (p ∷ ps) = cond (p.0) (suc (main_count ps)) (main_count ps)
