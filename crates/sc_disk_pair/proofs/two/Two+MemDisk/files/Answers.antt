use Rattle.std.proofs.Common.{sym, subst, map as each}
use Rattle.sc_disk.specs.Disks.{IsListing}
use Rattle.sc_disk.specs.Memory.{memory_state}
use Rattle.sc_disk_pair.specs.Twos.{joined_state}
use Rattle.sc_disk_pair.proofs.Weaving.{listing-both, pair}
use Rattle.sc_disk_pair.proofs.two.Two+MemDisk.files.Goals as goal

pub returns : goal.returns
returns c = let s = c.self.inside in
    let past = each (λ x. ((memory_state x.0).told, (memory_state x.1).told)) s.history.items in
    subst (λ w. IsListing c.in_ok-all.all (joined_state w)) c.self.view_is (subst (λ l. IsListing l (pair (memory_state s.main) (memory_state s.pre) s.refused past)) (sym c.in_ok-all.ensures)
    (listing-both (memory_state s.main) (memory_state s.pre) s.refused past c.in_ok-main.main c.in_ok-pre.pre c.self.invariant c.in_ok-main.ensures c.in_ok-pre.ensures))
