use Rattle.sc_store_disk.proofs.Marking.{sweeps_none, sweeps_then}
use Rattle.sc_store_disk.proofs.marks.Marks.sweep.Goals as goal

pub loop-at-init : goal.loop-at-init
loop-at-init g c = sweeps_none c.args.cache.now.store.index c.args.keep.now c.args.self.now

pub loop-at-preserved : goal.loop-at-preserved
loop-at-preserved g c = sweeps_then c.args.cache.now.store.index c.args.keep.now c.args.self.now c.loop-at.self c.sweep_at.new.self c.loop-at.invariant c.sweep_at.ensures

pub returns : goal.returns
returns g c = c.loop-at.invariant
