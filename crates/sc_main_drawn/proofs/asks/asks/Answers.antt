use Rattle.std.proofs.Common.{arith}
use Rattle.sc_main_generate.proofs.Appending.{after_on}
use Rattle.sc_main_drawn.proofs.Drawing.{asks_on, still_four}
use Rattle.sc_main_drawn.proofs.asks.asks.Goals as goal

pub loop-number-preserved : goal.loop-number-preserved
loop-number-preserved c =
    let lt = c.loop-number-test.true in
    let loop = c.loop-number in
    let next = c.next-state in record {
      same = asks_on loop.inputs c.ask.new.inputs _ c.args.count loop.number loop.state next.result c.drawn.result lt next.ensures.value c.drawn.ensures loop.invariant.same c.in_ok-ask.ensures;
      after = after_on _ c.args.count loop.number loop.state next.result lt next.ensures.value loop.invariant.after;
      few = omega (arith, lt);
      four = still_four loop.inputs c.ask.new.inputs _ _ loop.invariant.four c.in_ok-ask.ensures;
      small = next.ensures.small;
    }
