use Rattle.std.proofs.Common.{rules, ◌≡◌, ap, sym, ◌∙◌}
use Rattle.sc_store.specs.Telling.{first_type, store_type, titles_of}
use Rattle.sc_store.proofs.Tellings.{by_titles}
use Rattle.sc_store.proofs.levels.Layered.cache_type_name.Goals as goal

pub returns-in-Single : goal.returns-in-Single
returns-in-Single g c =
    let levels = c.self.inside.levels.items in
    let e : c.first_type.result.now ≡ first_type (titles_of levels) = search rules in
    e ∙ ap (λ p. store_type p (titles_of levels)) (sym c.in-Single.is) ∙ by_titles store_type c.args.self.now levels c.self.inside.policy c.self.view_is
