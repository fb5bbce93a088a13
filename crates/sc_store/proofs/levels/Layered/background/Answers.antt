use Rattle.std.proofs.Common.{rules, ◌≡◌, refl}
use Rattle.sc_model.specs.Plan.{background, is_background, levels_of}
use Rattle.sc_store.specs.Planning.{facts_of}
use Rattle.sc_store.proofs.Plans.{planned}
use Rattle.sc_store.proofs.levels.Layered.background.Goals as goal

pub returns-in_ok-found-in-Levels : goal.returns-in_ok-found-in-Levels
returns-in_ok-found-in-Levels g c =
    let found = c.in_ok-found-in-Levels in
    let e : found.found ≡ levels_of is_background 0 c.in-Levels.policies (facts_of c.self.inside.levels.items) = search rules in
    planned (levels_of is_background 0) background (λ ps fs. refl) c.args.self.now c.self.inside.levels.items c.self.inside.policy c.in-Levels.policies found.found c.self.view_is c.in-Levels.is e
