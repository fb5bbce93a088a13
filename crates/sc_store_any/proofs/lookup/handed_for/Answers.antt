use Rattle.std.proofs.Common.{ℕ, subst, sym, ◌∙◌}
use Rattle.sc_model.proofs.There.{hit_there}
use Rattle.sc_model.specs.There.{AreHanded}
use Rattle.sc_store.proofs.Alone.{if_ok}
use Rattle.sc_store_any.proofs.lookup.handed_for.Goals as goal

pub returns-clause-there : goal.returns-clause-there
returns-clause-there g c =
    let levels = c.args.levels.now in
    if_ok c.backfills.result (λ hs is. subst (λ (n : ℕ). AreHanded n hs) (sym c.len-count.ensures.facts ∙ c.len-count.ensures.levels) (hit_there levels.policy levels.facts c.args.level c.args.key.now c.args.mode c.args.answer.now hs is)) c.backfills.ensures
