use Rattle.std.proofs.Common.{◌≡◌, true, ap, subst}
use Rattle.sc_entry.specs.Causes.{IfTold}
use Rattle.sc_disk.specs.Disks.{DiskRecord, files_now, has_place}
use Rattle.std.specs.Prelude.{Option}
use Rattle.sc_disk_pair.specs.Parts.{ArePlaced, in_part}
use Rattle.sc_disk_pair.proofs.Placed.{has-part, placed-told}
use Rattle.sc_disk_pair.proofs.pair_cache.PairCache.keeps.Goals as goal

pub returns-clause-placed : goal.returns-clause-placed
returns-clause-placed g c = subst (λ (t : Option DiskRecord). IfTold t (λ r. ArePlaced (files_now r))) (ap (λ d. d.told) c.disks-disks.ensures)
    (placed-told c.disks-disks.result.now.told c.disks-disks.result.now.main.told c.disks-disks.result.now.pre.told c.disk-joint.ensures.joint)

pub returns-clause-places : goal.returns-clause-places
returns-clause-places g c = λ part key. subst (λ d. has_place d (in_part part key) ≡ true) c.disks-disks.ensures (has-part c.disks-disks.result.now part key)
