use Rattle.std.proofs.Common.{◌≡◌, replicate}
use Rattle.sc_model.specs.declared.level.LevelPolicy.TheVariants.{Required}
use Rattle.sc_main_script.proofs.policies.all_required.Given as goal

abbrev pub invariant-loop : goal.invariant-loop
invariant-loop l = l.all ≡ replicate l.counter Required
