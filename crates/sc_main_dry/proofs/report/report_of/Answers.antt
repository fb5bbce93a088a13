use Rattle.std.proofs.Common.{◌∙◌, ap}
use Rattle.std.specs.Prelude.{map}
use Rattle.sc_main_dry.specs.Lending.{lent}
use Rattle.sc_main_dry.proofs.Lent.{reported}
use Rattle.sc_main_dry.proofs.report.report_of.Goals as goal

pub returns : goal.returns
returns c =
    reported c.args.uses.now c.deref.result.now c.args.capacities.now c.deref-2.result.now c.new-text.result.items c.put_dry_lines.new.out.items
    (ap (map lent) c.deref.ensures.value ∙ c.in_ok-lending.ensures)
    (c.deref-2.ensures.value ∙ c.in_ok-lines.ensures)
    c.new-text.ensures.items
    c.in_ok-put_dry_lines.ensures
