use Rattle.std.proofs.Common.{arith}
use Rattle.sc_main_generate.proofs.Appending.{after_on, asks_on}
use Rattle.sc_main_generate.proofs.script.put_asks.Goals as goal

pub loop-ask-preserved : goal.loop-ask-preserved
loop-ask-preserved c =
    let lt = c.loop-ask-test.true in
    let loop = c.loop-ask in
    let next = c.next-state in (
      asks_on loop.text c.put_ask.new.text _ c.args.count loop.ask loop.state next.result c.drawn.result lt next.ensures.value c.drawn.ensures loop.invariant.0 c.in_ok-put_ask.ensures,
      after_on _ c.args.count loop.ask loop.state next.result lt next.ensures.value loop.invariant.1,
      omega (arith, lt),
      next.ensures.small,
    )
