use Rattle.std.proofs.Common.{ap, ◌∙◌}
use Rattle.std.specs.FinMap.{insert}
use Rattle.sc_store.proofs.PathMaps.{one_put}
use Rattle.sc_store.proofs.path_map.PathMap.put.Goals as goal

pub returns-clause-ok : goal.returns-clause-ok
returns-clause-ok c =
    one_put c.self.inside.by_path.entries c.insert.new.self.entries c.args.path c.args.bytes c.in_ok-insert.ensures.updates.0
    ∙ ap (λ m. insert m c.args.path c.args.bytes) c.self.view_is
