use Rattle.std.proofs.Common.{subst}
use Rattle.sc_store.specs.Held.{AreWithin}
use Rattle.sc_store.specs.Levels.{held_levels}
use Rattle.sc_store.proofs.levels.Layered.new.Goals as goal

pub invariant_of-result : goal.invariant_of-result
invariant_of-result g c = subst (λ levels. AreWithin (held_levels levels c.args.policy)) c.deref.ensures.value (c.keep_all.ensures c.args.policy)
