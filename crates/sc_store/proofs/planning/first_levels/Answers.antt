use Rattle.sc_store.proofs.Plans.{facts_take}
use Rattle.sc_store.proofs.planning.first_levels.Goals as goal

pub returns-then-count-levels : goal.returns-then-count-levels
returns-then-count-levels g c = facts_take c.args.count c.args.levels.now
