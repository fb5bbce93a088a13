use Rattle.std.proofs.Common.{◌+◌, ◌++◌, drop, ap, ◌∙◌, arith, rules, append-nil}
use Rattle.std.proofs.lemmas.Grind.{common_steps}
use Rattle.sc_model.specs.Finishing.{caused_by}
use Rattle.sc_daemon_job.proofs.Causes.{cause_written}
use Rattle.sc_daemon_job.proofs.finish.append_causes.Goals as goal

pub loop-text-preserved : goal.loop-text-preserved
loop-text-preserved c =
    ap (λ v. v ++ caused_by (drop (c.loop-text.text-index + 1) c.args.chain.now)) (search rules)
    ∙ cause_written c.loop-text.out c.args.chain.now c.loop-text.text-index c.text-item.result c.loop-text-test.true c.text-item.is
    ∙ c.loop-text.invariant

pub returns : goal.returns
returns c = grind (arith, common_steps, append-nil, c.loop-text.invariant)
