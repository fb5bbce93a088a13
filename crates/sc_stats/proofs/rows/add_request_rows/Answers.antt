use Rattle.std.proofs.Common.{ap, codes, ◌∙◌}
use Rattle.sc_stats.specs.Rows.{language_rows, number_row, request_rows}
use Rattle.sc_stats.proofs.rows.add_request_rows.Goals as goal

pub returns : goal.returns
unfolding request_rows
returns c =
    c.in_ok-add_languages-2.ensures
    ∙ ap (language_rows c.args.advanced (codes "Cache misses") c.args.stats.now.cache_misses) (c.in_ok-add_languages.ensures
    ∙ ap (language_rows c.args.advanced (codes "Cache hits") c.args.stats.now.cache_hits) (c.in_ok-add_number-2.ensures
    ∙ ap (number_row (codes "Compile requests executed") c.args.stats.now.requests_executed) (c.in_ok-add_number.ensures)))
