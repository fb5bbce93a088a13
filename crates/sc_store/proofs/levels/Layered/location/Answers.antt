use Rattle.std.proofs.Common.{rules, ◌≡◌, ap, sym, ◌∙◌}
use Rattle.sc_store.specs.Telling.{first_location, store_location, titles_of}
use Rattle.sc_store.proofs.Tellings.{by_titles}
use Rattle.sc_store.proofs.levels.Layered.location.Goals as goal

pub returns-in_ok-text-in-Single : goal.returns-in_ok-text-in-Single
returns-in_ok-text-in-Single g c =
    let levels = c.self.inside.levels.items in
    let e : c.in_ok-text-in-Single.text ≡ first_location (titles_of levels) = search rules in
    e ∙ ap (λ p. store_location p (titles_of levels)) (sym c.in-Single.is) ∙ by_titles store_location c.args.self.now levels c.self.inside.policy c.self.view_is
