use Rattle.std.proofs.lemmas.Result.{err_from_is_err_and}
use Rattle.sc_wire.specs.Lists.{read_many}
use Rattle.sc_wire.proofs.Loops.{goes_on, ends, is_done}
use Rattle.sc_wire.proofs.containers.take_many.Goals as goal

pub returns-in_err-item : goal.returns-in_err-item
returns-in_err-item g c =
    let p = err_from_is_err_and c.from_residual.result c.from_residual.ensures.1 in
    rw (p.1, p.2) (ends g.T.Wire.codec c.in_err-item.field-0.0 c.loop.items c.args.count c.loop.counter c.loop.reader (read_many g.T.Wire.codec c.args.count c.args.reader.now) c.loop-test.true c.in_err-item.ensures c.loop.invariant)

pub loop-preserved : goal.loop-preserved
loop-preserved g c =
    rw c.in_ok-push.ensures.ok (goes_on g.T.Wire.codec c.loop.items c.args.count c.loop.counter c.loop.reader c.in_ok-item.item c.take.new.reader (read_many g.T.Wire.codec c.args.count c.args.reader.now) c.loop-test.true c.in_ok-item.ensures c.loop.invariant)

pub returns : goal.returns
returns g c = is_done g.T.Wire.codec c.loop.items c.args.count c.loop.counter c.loop.reader (read_many g.T.Wire.codec c.args.count c.args.reader.now) c.loop-test.false c.loop.invariant
