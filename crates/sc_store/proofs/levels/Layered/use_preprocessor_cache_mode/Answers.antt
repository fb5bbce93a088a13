use Rattle.std.proofs.Common.{rules, ◌≡◌, ◌∙◌}
use Rattle.sc_store.specs.Basedirs.{first_flag}
use Rattle.sc_store.specs.Telling.{titles_of}
use Rattle.sc_store.proofs.Tellings.{by_titles}
use Rattle.sc_store.proofs.levels.Layered.use_preprocessor_cache_mode.Goals as goal

pub returns : goal.returns
returns g c =
    let levels = c.self.inside.levels.items in
    let e : c.first_flag.result ≡ first_flag (titles_of levels) = search rules in
    e ∙ by_titles (λ p ts. first_flag ts) c.args.self.now levels c.self.inside.policy c.self.view_is
