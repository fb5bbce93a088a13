-- What a stop inside an opening leaves, and what a store is that is opened on it.
use Rattle.std.specs.Prelude.{◌≡◌, ℕ, List, Some}
use Rattle.sc_disk.specs.Disks.{DiskFiles, DiskRecord, DiskState, files_now}
use Rattle.sc_disk.specs.Lazy.{IsOpened}
use Rattle.sc_disk.specs.Opening.{IsReopened, RefusesOpening, Reopens}
use Rattle.sc_disk.specs.Store.{Store}
use Rattle.sc_disk_reopen.specs.Moments.{HasHad, removals}
use Rattle.sc_disk_reopen.specs.Reopening.{HasTold, StopsAt}

-- files went, and nothing else changed, whatever a stop on the way left
abbrev pub Lost : DiskRecord → DiskFiles → Type 0
Lost r c = (paths : List (List ℕ)) × HasHad (removals paths) (files_now r) c

abbrev pub StopsOpening : Type 0
StopsOpening = (capacity : ℕ) (index : List (List ℕ × ℕ)) (a b : DiskState) (r : DiskRecord) (c : DiskFiles) → a.told ≡ Some r → Reopens capacity index a b → StopsAt a b c → Lost r c

abbrev pub StopsRefusedOpening : Type 0
StopsRefusedOpening = (capacity : ℕ) (a b : DiskState) (r : DiskRecord) (c : DiskFiles) → a.told ≡ Some r → RefusesOpening capacity a b → StopsAt a b c → Lost r c

-- A second opening, on what the stop left, indexes what the first would have: of the files that stood before the first.
abbrev pub ReopensOpening : Type 0
ReopensOpening = (capacity : ℕ) (index : List (List ℕ × ℕ)) (a b d : DiskState) (r : DiskRecord) (c : DiskFiles) (t : Store)
    → a.told ≡ Some r → Reopens capacity index a b → StopsAt a b c → HasTold c d → IsOpened capacity d t → IsReopened capacity (files_now r) t.index

abbrev pub ReopensRefusedOpening : Type 0
ReopensRefusedOpening = (capacity : ℕ) (a b d : DiskState) (r : DiskRecord) (c : DiskFiles) (t : Store)
    → a.told ≡ Some r → RefusesOpening capacity a b → StopsAt a b c → HasTold c d → IsOpened capacity d t → IsReopened capacity (files_now r) t.index
