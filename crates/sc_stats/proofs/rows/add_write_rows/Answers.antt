use Rattle.std.proofs.Common.{ap, codes, ◌∙◌}
use Rattle.sc_stats.specs.Rows.{number_row, of_level, write_rows}
use Rattle.sc_stats.proofs.rows.add_write_rows.Goals as goal

pub returns : goal.returns
unfolding write_rows
returns c =
    c.in_ok-add_level_number-4.ensures
    ∙ ap (number_row (of_level c.args.level.now (codes "backfills to")) c.args.level.now.backfills_to) (c.in_ok-add_level_number-3.ensures
    ∙ ap (number_row (of_level c.args.level.now (codes "backfills from")) c.args.level.now.backfills_from) (c.in_ok-add_level_number-2.ensures
    ∙ ap (number_row (of_level c.args.level.now (codes "write failures")) c.args.level.now.write_failures) (c.in_ok-add_level_number.ensures)))
