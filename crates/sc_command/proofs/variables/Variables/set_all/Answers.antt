use Rattle.std.proofs.Common.{◌∙◌, rules}
use Rattle.sc_entry.proofs.Tallies.{on_err}
use Rattle.sc_command.proofs.Names.{set_step}
use Rattle.sc_command.proofs.variables.Variables.set_all.Goals as goal

pub loop-variable-preserved : goal.loop-variable-preserved
loop-variable-preserved c =
    set_step c.args.variables.now c.loop-variable.variable-index c.variable-item.result c.args.self.now c.loop-variable.self c.set.new.self c.variable-item.is c.loop-variable-test.true (search rules) c.loop-variable.invariant

pub returns-in_err-set-clause-err : goal.returns-in_err-set-clause-err
returns-in_err-set-clause-err c = on_err c.from_residual.result _ (c.loop-variable.variable-index, c.in_err-set.ensures.err ∙ c.loop-variable.invariant)
