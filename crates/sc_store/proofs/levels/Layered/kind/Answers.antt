use Rattle.std.proofs.Common.{rules, ap, sym, ◌∙◌}
use Rattle.sc_store.specs.Levels.{held_level}
use Rattle.sc_store.proofs.Alone.{facts_at}
use Rattle.sc_store.proofs.levels.Layered.kind.Goals as goal

pub returns : goal.returns
returns g c = c.kind.ensures ∙ ap (λ f. f.kind) (sym (facts_at held_level c.args.self.now c.self.inside.policy c.self.inside.levels.items c.args.level c.index.result.now c.self.view_is c.requires (search rules)))
