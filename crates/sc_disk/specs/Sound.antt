-- What every store of files keeps.
use Rattle.std.specs.Prelude.{◌≡◌, ◌+◌, ◌≤◌}
use Rattle.sc_entry.specs.Causes.{IfTold}
use Rattle.sc_disk.specs.Disks.{files_now}
use Rattle.sc_disk.specs.Store.{AreKeys, HasFiles, HaveKeys, Store, indexed, reserved}

-- Its files and reservations take at most its capacity, and where its disk tells, the files that are no temporaries are the
-- indexed ones, and each open entry has its temporary.
pub record IsSound (s : Store) : Type 0 where
  pub fits : indexed s + reserved s ≤ s.capacity
  pub keys : AreKeys s.index
  pub opened : HaveKeys s.pending.slots
  pub files : IfTold s.disk.told (λ r. HasFiles s.disk.divided s.index s.pending.slots (files_now r))
