use Rattle.std.proofs.Common.{ap, sym, ◌∙◌}
use Rattle.std.specs.FinMap.{get}
use Rattle.sc_disk.proofs.FileTables.{get_text}
use Rattle.sc_disk.proofs.file_table.FileTable.get.Goals as goal

pub returns : goal.returns
returns c =
    c.get.ensures.value ∙ sym (get_text c.self.inside.by_path.entries c.args.path.now) ∙ ap (λ m. get m c.args.path.now) c.self.view_is
