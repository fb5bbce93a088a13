-- What each part of a store of two folders is that is opened on what a stop left.
use Rattle.std.specs.Prelude.{◌≡◌, ℕ, false, bytes_eq, cond, length, List, [], ◌∷◌, ◌++◌, Option, Some, None}
use Rattle.std.specs.Map.{lookup}
use Rattle.std.specs.Option.{option_map}
use Rattle.sc_disk.specs.Disks.{DiskFiles, DiskRecord, DiskState, files_now}
use Rattle.sc_disk.specs.Lazy.{IsOpened}
use Rattle.sc_disk.specs.Names.{is_temporary_path}
use Rattle.sc_disk.specs.Sound.{IsSound}
use Rattle.sc_disk.specs.Store.{Store}
use Rattle.sc_disk_pair.specs.Pairs.{index_of, own_key}
use Rattle.sc_disk_pair.specs.Parts.{cut_part, file_of}
use Rattle.sc_disk_pair.specs.declared.part.Part.{Part}
use Rattle.sc_disk_reopen.specs.Moments.{Calls, Effect, Moments, Removed, Standing, Stored, Used, effects_of, stood}
use Rattle.sc_disk_reopen.specs.Reopening.{HasTold, StopsAt}

-- an effect on a key of both is one on a part's key, if the key is of the part
abbrev pub with_effect : (List ℕ → Effect) → Option (List ℕ) → List Effect → List Effect
with_effect make None es = es
with_effect make (Some key) es = make key ∷ es

-- the effects on a part's files, by the part's own keys
abbrev pub effects_in : Part → List Effect → List Effect
effects_in part [] = []
effects_in part (Removed k ∷ es) = with_effect Removed (own_key part (cut_part k)) (effects_in part es)
effects_in part (Used k now ∷ es) = with_effect (λ key. Used key now) (own_key part (cut_part k)) (effects_in part es)
effects_in part (Stored k now bytes ∷ es) = with_effect (λ key. Stored key now bytes) (own_key part (cut_part k)) (effects_in part es)

-- what stands in a part after these effects on the files of both, from what a record tells
abbrev pub stood_in : Part → DiskRecord → List Effect → Standing
stood_in part r es = stood (file_of part (files_now r)) (effects_in part es)

-- A part's files are those that stand, and no temporary is left. Its indexed keys are theirs, with their sizes.
pub record ResumesPart (part : Part) (standing : Standing) (t : Store) : Type 0 where
  pub after : DiskRecord
  pub told : t.disk.told ≡ Some after
  pub files : (q : List ℕ) → file_of part (files_now after) q ≡ cond (is_temporary_path q) None (standing q)
  pub index : (q : List ℕ) → is_temporary_path q ≡ false → lookup (bytes_eq q) (index_of part t.index) ≡ option_map (λ file. length file.bytes) (standing q)

-- A store of both was opened on disks that tell, calls followed, and a stop came between two of them. Then a store of the
-- same capacity is opened on the files that were left.
abbrev pub ReopensParts : Type 0
ReopensParts = (part : Part) (s t : Store) (r : DiskRecord) (calls : List (List Effect)) (b d : DiskState) (c : DiskFiles)
    → IsSound s → s.disk.told ≡ Some r → Calls s.capacity calls s.disk b → HasTold c b → HasTold c d → IsOpened s.capacity d t → IsSound t
    → ResumesPart part (stood_in part r (effects_of calls)) t

-- The same where the stop came at some moment inside one more call: of its effects the oldest were had, in both parts.
abbrev pub ReopensPartsInside : Type 0
ReopensPartsInside = (s t : Store) (r : DiskRecord) (calls : List (List Effect)) (es : List Effect) (a b d : DiskState) (c : DiskFiles)
    → IsSound s → s.disk.told ≡ Some r → Calls s.capacity calls s.disk a → Moments s.capacity es a b → StopsAt a b c → HasTold c d → IsOpened s.capacity d t → IsSound t
    → (rest : List Effect) × (had : List Effect) × (rest ++ had ≡ es) × ((part : Part) → ResumesPart part (stood_in part r (had ++ effects_of calls)) t)
