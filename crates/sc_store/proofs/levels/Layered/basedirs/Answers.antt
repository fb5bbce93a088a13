use Rattle.std.proofs.Common.{rules, ◌≡◌, ap, sym, ◌∙◌}
use Rattle.sc_store.specs.Basedirs.{first_basedirs, store_basedirs}
use Rattle.sc_store.specs.Telling.{titles_of}
use Rattle.sc_store.proofs.Tellings.{by_titles}
use Rattle.sc_store.proofs.levels.Layered.basedirs.Goals as goal

pub returns-in_ok-basedirs-in-Single : goal.returns-in_ok-basedirs-in-Single
returns-in_ok-basedirs-in-Single g c =
    let levels = c.self.inside.levels.items in
    let e : c.in_ok-basedirs-in-Single.basedirs ≡ first_basedirs (titles_of levels) = search rules in
    e ∙ ap (λ p. store_basedirs p (titles_of levels)) (sym c.in-Single.is) ∙ by_titles store_basedirs c.args.self.now levels c.self.inside.policy c.self.view_is
