use Rattle.std.proofs.Common.{suc, ◌∙◌, arith}
use Rattle.sc_disk.proofs.Evictions.{Drops-more, Needed-more}
use Rattle.sc_disk.proofs.opening.evict_until.Goals as goal

pub loop-disk-preserved : goal.loop-disk-preserved
loop-disk-preserved g c = let i = c.loop-disk.invariant in let e = c.in_ok-evict_first.ensures.ok in let d = i.drops in
    record {
      drops = (
        suc d.0,
        Drops-more d.0 c.args.index.now.entries c.loop-disk.index.entries c.evict_first.new.index.entries (g.D.Disk.state c.args.disk.now) (g.D.Disk.state c.loop-disk.disk) (g.D.Disk.state c.evict_first.new.disk) d.1 e,
        Needed-more c.args.limit d.0 c.args.index.now.entries c.loop-disk.index.entries d.1.entries (omega (arith, c.size.ensures.size, c.loop-disk-test.true)) d.2,
      );
      capacity = c.evict_first.ensures.capacity ∙ i.capacity;
    }
