use Rattle.std.proofs.Common.{rules, ◌≡◌, refl}
use Rattle.sc_model.specs.Plan.{levels_of}
use Rattle.sc_store.specs.Planning.{facts_of, planned as planned_for, test_of}
use Rattle.sc_store.proofs.Plans.{planned}
use Rattle.sc_store.proofs.levels.Layered.planned.Goals as goal

pub returns-in_ok-found-in-Levels : goal.returns-in_ok-found-in-Levels
returns-in_ok-found-in-Levels g c =
    let found = c.in_ok-found-in-Levels in
    let e : found.found ≡ levels_of (test_of c.args.which) 0 c.in-Levels.policies (facts_of c.self.inside.levels.items) = search rules in
    planned (levels_of (test_of c.args.which) 0) (planned_for c.args.which) (λ ps fs. refl) c.args.self.now c.self.inside.levels.items c.self.inside.policy c.in-Levels.policies found.found c.self.view_is c.in-Levels.is e
