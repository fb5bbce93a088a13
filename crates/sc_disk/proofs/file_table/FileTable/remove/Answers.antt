use Rattle.std.proofs.Common.{ap, ◌∙◌}
use Rattle.std.specs.FinMap.{remove}
use Rattle.sc_disk.proofs.FileTables.{one_removed}
use Rattle.sc_disk.proofs.file_table.FileTable.remove.Goals as goal

pub returns : goal.returns
returns c =
    one_removed c.self.inside.by_path.entries c.remove.new.self.entries c.args.path.now c.remove.ensures.updates.0
    ∙ ap (λ m. remove m c.args.path.now) c.self.view_is
