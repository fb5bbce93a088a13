use Rattle.std.proofs.Common.{length, sym, ◌∙◌}
use Rattle.sc_store.proofs.Alone.{if_ok}
use Rattle.sc_store_any.proofs.Places.{pre_plan_there}
use Rattle.sc_store_any.proofs.preprocessor.plan_of.Goals as goal

pub returns-clause-there : goal.returns-clause-there
returns-clause-there g c = if_ok c.pre_plan.result (λ ls is. pre_plan_there c.args.levels.now.policy c.args.levels.now.facts ls (length c.args.levels.now.levels) c.requires is (sym c.len-count.ensures.facts ∙ c.len-count.ensures.levels)) c.pre_plan.ensures
