use Rattle.std.proofs.Common.{ap, codes, ◌∙◌}
use Rattle.sc_stats.specs.Rows.{compile_rows, number_row}
use Rattle.sc_stats.proofs.rows.add_compile_rows.Goals as goal

pub returns : goal.returns
unfolding compile_rows
returns c =
    c.in_ok-add_number-6.ensures
    ∙ ap (number_row (codes "Unsupported compiler calls") c.args.stats.now.requests_unsupported_compiler) (c.in_ok-add_number-5.ensures
    ∙ ap (number_row (codes "Non-compilation calls") c.args.stats.now.requests_not_compile) (c.in_ok-add_number-4.ensures
    ∙ ap (number_row (codes "Non-cacheable calls") c.args.stats.now.requests_not_cacheable) (c.in_ok-add_number-3.ensures
    ∙ ap (number_row (codes "Non-cacheable compilations") c.args.stats.now.non_cacheable_compilations) (c.in_ok-add_number-2.ensures
    ∙ ap (number_row (codes "Compilation failures") c.args.stats.now.compile_fails) (c.in_ok-add_number.ensures)))))
