use Rattle.std.proofs.Common.{ap, ◌∙◌}
use Rattle.std.specs.FinMap.{insert}
use Rattle.sc_disk.proofs.FileTables.{one_inserted}
use Rattle.sc_disk.proofs.file_table.FileTable.put.Goals as goal

pub returns-clause-ok : goal.returns-clause-ok
returns-clause-ok c =
    one_inserted c.self.inside.by_path.entries c.insert.new.self.entries c.args.path c.args.file c.in_ok-insert.ensures.updates.0
    ∙ ap (λ m. insert m c.args.path c.args.file) c.self.view_is
