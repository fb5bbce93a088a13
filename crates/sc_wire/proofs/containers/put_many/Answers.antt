use Rattle.std.proofs.Common.{◌++◌}
use Rattle.sc_wire.specs.Lists.{spell_all}
use Rattle.sc_wire.proofs.Loops.{spelled_on, fit_more}
use Rattle.sc_wire.proofs.containers.put_many.Goals as goal

pub loop-item-preserved : goal.loop-item-preserved
loop-item-preserved g c = (
  spelled_on g.T.Wire.codec c.args.items.now c.loop-item.item-index c.loop-item.out.items c.put.new.out.items (c.args.out.now.items ++ spell_all g.T.Wire.codec c.args.items.now) c.item-item.result c.loop-item-test.true c.item-item.is c.in_ok-put.ensures.spelled c.loop-item.invariant.0,
  fit_more g.T.Wire.codec c.args.items.now c.loop-item.item-index c.item-item.result c.loop-item-test.true c.item-item.is c.in_ok-put.ensures.fits c.loop-item.invariant.1,
)
