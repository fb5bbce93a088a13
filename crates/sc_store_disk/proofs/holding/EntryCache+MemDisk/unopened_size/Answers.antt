use Rattle.std.proofs.Common.{List, sym, subst}
use Rattle.sc_disk.specs.Disks.{IsListing}
use Rattle.sc_disk.specs.declared.disk.Listed.{Listed}
use Rattle.sc_disk_pair.specs.Twos.{joined_state}
use Rattle.sc_store_disk.proofs.HeldSizes.{unopened-held}
use Rattle.sc_store_disk.proofs.holding.EntryCache+MemDisk.unopened_size.Goals as goal

pub returns : goal.returns
returns c =
    let d = c.in-Some.disks.now in let s = c.args.self.now in
    let held = unopened-held s.mode s.pair.max_size c.capacity.result s.pair.opened s.pair.disks d c.into_vec-all.result.items c.in_ok-size.size c.requires (sym c.in-Some.ensures.disks) c.capacity.ensures c.disk-joint.ensures.joint
    (subst (λ (l : List Listed). IsListing l (joined_state d)) (sym c.into_vec-all.ensures) c.in_ok-files.ensures) c.in_ok-size.ensures in
    record { bytes = held.bytes; files = held.files }
