use Rattle.std.proofs.Common.{◌≡◌, Option, Some, None, sym, ap, ◌∙◌, rules}
use Rattle.std.specs.FinMap as map
use Rattle.sc_disk.specs.Disks.{DiskFiles}
use Rattle.sc_disk.proofs.Files.{removed-absent, moved-self, moved-apart}
use Rattle.sc_disk.proofs.file_table.FileTable.rename.Goals as goal

pub returns-in_default-clause-ok : goal.returns-in_default-clause-ok
returns-in_default-clause-ok c = removed-absent c.args.self.now c.args.from.now c.args.to (sym c.in_default.ensures)

pub returns-then-eq-clause-ok : goal.returns-then-eq-clause-ok
returns-then-eq-clause-ok c = moved-self c.args.self.now c.args.from.now c.args.to c.in-Some.file.now (sym c.eq.ensures ∙ c.if-eq.true) (sym c.in-Some.ensures)

pub returns-clause-ok : goal.returns-clause-ok
returns-clause-ok c =
    let same : c.in_ok-file.file ≡ c.in-Some.file.now = search rules in
    c.remove.ensures ∙ ap (λ (m : DiskFiles). map.remove m c.args.from.now) (c.in_ok-put.ensures.ok ∙ ap (map.insert c.args.self.now c.args.to) same)
    ∙ moved-apart c.args.self.now c.args.from.now c.args.to c.in-Some.file.now (sym c.eq.ensures ∙ c.if-eq.false) (sym c.in-Some.ensures)
