use Rattle.std.proofs.Common.{rules, ◌≡◌, ◌∙◌}
use Rattle.sc_store.specs.Planning.{facts_of}
use Rattle.sc_store.specs.Telling.{store_mode}
use Rattle.sc_store.proofs.Tellings.{by_facts}
use Rattle.sc_store.proofs.levels.Layered.cache_mode.Goals as goal

pub returns : goal.returns
returns g c =
    let levels = c.self.inside.levels.items in
    let e : c.mode_of.result ≡ store_mode (facts_of levels) = search rules in
    e ∙ by_facts (λ p fs. store_mode fs) c.args.self.now levels c.self.inside.policy c.self.view_is
