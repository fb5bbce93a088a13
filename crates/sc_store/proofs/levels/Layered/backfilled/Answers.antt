use Rattle.std.proofs.Common.{◌≡◌, List, refl, take, ap, ◌∙◌}
use Rattle.sc_model.specs.Plan.{backfilled, levels_of, takes_writes}
use Rattle.sc_model.specs.declared.level.LevelFacts.{LevelFacts}
use Rattle.sc_model.specs.declared.level.LevelPolicy.{LevelPolicy}
use Rattle.sc_store.specs.Planning.{facts_of}
use Rattle.sc_store.proofs.Plans.{planned}
use Rattle.sc_store.proofs.levels.Layered.backfilled.Goals as goal

pub returns-in_ok-found-in-Levels : goal.returns-in_ok-found-in-Levels
returns-in_ok-found-in-Levels g c =
    let found = c.in_ok-found-in-Levels in
    let e : found.found ≡ levels_of takes_writes 0 c.in-Levels.policies (take c.args.level (facts_of c.self.inside.levels.items)) =
    found.ensures ∙ ap (λ (ps : List LevelPolicy). levels_of takes_writes 0 ps (facts_of c.first_levels.result.now)) c.as_slice.ensures
    ∙ ap (λ (fs : List LevelFacts). levels_of takes_writes 0 c.in-Levels.policies fs) (c.first_levels.ensures ∙ ap (λ ls. take c.args.level (facts_of ls)) c.deref.ensures.value) in
    planned (λ (ps : List LevelPolicy) (fs : List LevelFacts). levels_of takes_writes 0 ps (take c.args.level fs)) (λ p fs. backfilled p fs c.args.level) (λ ps fs. refl)
    c.args.self.now c.self.inside.levels.items c.self.inside.policy c.in-Levels.policies found.found c.self.view_is c.in-Levels.is e
