-- What levels hold, in numbers.
use Rattle.std.specs.Prelude.{ℕ, suc, ◌+◌, ◌-◌, ◌^◌, min, List, [], ◌∷◌}
use Rattle.sc_store_disk.specs.DiskStores.{count_of}
use Rattle.sc_model.specs.Evicting.{part_size}
use Rattle.sc_model.specs.Levels.{Level}
use Rattle.sc_main_script.specs.declared.level_size.LevelSize.{LevelSize}

-- All bytes that it holds together and that are reserved at it, no more than u64's greatest value, and at how many paths it
-- holds some. Of a disk store that isn't opened these are the files that an opening would keep.
abbrev pub size_of : ℕ → Level → LevelSize
size_of reserved level = record { bytes = min (part_size level + reserved) (2 ^ 64 - 1); entries = count_of level.main + count_of level.pre }

-- each level's, where so much is reserved at each
abbrev pub sizes_of : (ℕ → ℕ) → List Level → List LevelSize
sizes_of reserved [] = []
sizes_of reserved (l ∷ levels) = size_of (reserved 0) l ∷ sizes_of (λ n. reserved (suc n)) levels
