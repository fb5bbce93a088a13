-- Keys of parts as keys of both.
use Rattle.std.proofs.Common.{◌≡◌, ℕ, List, [], ◌∷◌}
use Rattle.sc_entry.specs.Keys.{is_file_key}
use Rattle.sc_disk.proofs.Names.{file_parts-cons}
use Rattle.sc_disk_pair.specs.Parts.{in_part}
use Rattle.sc_disk_pair.specs.declared.part.Part.{Part}
use Rattle.sc_disk_pair.specs.declared.part.Part.TheVariants.{Main, Pre}

-- a part's key is a file key among those of both exactly where it is one by itself
pub good-part : (part : Part) (key : List ℕ) → is_file_key (in_part part key) ≡ is_file_key key
good-part Main key = file_parts-cons (109 ∷ []) key
good-part Pre key = file_parts-cons (112 ∷ []) key
