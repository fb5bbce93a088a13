use Rattle.std.proofs.Common.{rules, ◌≡◌, ap, sym, ◌∙◌}
use Rattle.sc_model.specs.Describing.{some_size}
use Rattle.sc_store.specs.Planning.{facts_of}
use Rattle.sc_store.specs.Telling.{first_max, max_onto, store_max}
use Rattle.sc_store.proofs.Tellings.{by_facts}
use Rattle.sc_store.proofs.levels.Layered.max_size.Goals as goal

pub returns-in-Single : goal.returns-in-Single
returns-in-Single g c =
    let levels = c.self.inside.levels.items in
    let e : c.first_max.result ≡ first_max (facts_of levels) = search rules in
    e ∙ ap (λ p. store_max p (facts_of levels)) (sym c.in-Single.is) ∙ by_facts store_max c.args.self.now levels c.self.inside.policy c.self.view_is

pub returns-in-Levels : goal.returns-in-Levels
returns-in-Levels g c =
    let levels = c.self.inside.levels.items in
    let e : c.some_size.result ≡ some_size (max_onto 0 (facts_of levels)) = search rules in
    e ∙ ap (λ p. store_max p (facts_of levels)) (sym c.in-Levels.is) ∙ by_facts store_max c.args.self.now levels c.self.inside.policy c.self.view_is
