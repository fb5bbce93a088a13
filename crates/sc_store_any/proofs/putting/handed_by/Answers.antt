use Rattle.std.proofs.Common.{ℕ, subst, sym, ◌∙◌}
use Rattle.sc_model.proofs.There.{put_there}
use Rattle.sc_model.specs.There.{AreHanded}
use Rattle.sc_store.proofs.Alone.{if_ok}
use Rattle.sc_store_any.proofs.putting.handed_by.Goals as goal

pub returns-clause-there : goal.returns-clause-there
returns-clause-there g c =
    let levels = c.args.levels.now in
    if_ok c.handed.result (λ hs is. subst (λ (n : ℕ). AreHanded n hs) (sym c.len-count.ensures.facts ∙ c.len-count.ensures.levels) (put_there levels.policy levels.facts c.args.put.now c.args.refusal hs is)) c.handed.ensures
