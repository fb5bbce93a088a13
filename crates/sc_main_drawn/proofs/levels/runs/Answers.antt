use Rattle.std.proofs.Common.{arith}
use Rattle.sc_main_drawn.proofs.Drawing.{runs_on}
use Rattle.sc_main_drawn.proofs.levels.runs.Goals as goal

pub loop-key-preserved : goal.loop-key-preserved
loop-key-preserved c =
    let lt = c.loop-key-test.true in
    (runs_on c.loop-key.runs c.push.new.self _ _ c.args.count c.loop-key.key lt c.loop-key.invariant.0 c.in_ok-run.ensures c.in_ok-push.ensures.ok, omega (arith, lt))
