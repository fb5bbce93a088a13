use Rattle.std.proofs.Common.{length, ap, sym, ◌∙◌}
use Rattle.sc_store.specs.Paths.{entries_of}
use Rattle.sc_store.proofs.PathMaps.{entries_of_files}
use Rattle.sc_store.proofs.path_map.PathMap.len.Goals as goal

pub returns : goal.returns
returns c =
    let es = c.self.inside.by_path.entries in
    c.len.ensures.len ∙ ap length (sym (entries_of_files es c.len.ensures.ordered) ∙ ap entries_of c.self.view_is)
