-- What a store is that is opened when it is first needed.
use Rattle.std.specs.Prelude.{◌≡◌, ℕ, []}
use Rattle.sc_entry.specs.Causes.{IfTold}
use Rattle.sc_disk.specs.Disks.{DiskState, files_now}
use Rattle.sc_disk.specs.Opening.{IsReopened, Reopens}
use Rattle.sc_disk.specs.Store.{IsTidy, Store}

-- a store was opened on a disk, with this capacity
pub record IsOpened (capacity : ℕ) (old : DiskState) (s : Store) : Type 0 where
  pub reopened : IfTold old.told (λ r. IsReopened capacity (files_now r) s.index)
  pub opened : Reopens capacity s.index old s.disk
  pub limit : s.capacity ≡ capacity
  pub pending : s.pending.slots ≡ []
  pub tidy : IsTidy s
