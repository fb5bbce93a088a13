use Rattle.std.proofs.Common.{rules, ◌≡◌, ◌∙◌}
use Rattle.sc_store.specs.Telling.{new_counters, titles_of}
use Rattle.sc_store.proofs.Tellings.{by_titles}
use Rattle.sc_store.proofs.levels.Layered.new_counters.Goals as goal

pub returns : goal.returns
returns g c =
    let levels = c.self.inside.levels.items in
    let e : c.in_ok-counters.counters.items ≡ new_counters 0 (titles_of levels) = search rules in
    e ∙ by_titles (λ p ts. new_counters 0 ts) c.args.self.now levels c.self.inside.policy c.self.view_is
