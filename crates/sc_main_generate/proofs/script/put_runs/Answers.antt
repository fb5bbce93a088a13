use Rattle.std.proofs.Common.{arith}
use Rattle.sc_main_generate.proofs.Appending.{runs_on}
use Rattle.sc_main_generate.proofs.script.put_runs.Goals as goal

pub loop-key-preserved : goal.loop-key-preserved
loop-key-preserved c =
    let lt = c.loop-key-test.true in
    (runs_on c.loop-key.text c.put_run.new.text _ c.args.count c.loop-key.key lt c.loop-key.invariant.0 c.in_ok-put_run.ensures, omega (arith, lt))
