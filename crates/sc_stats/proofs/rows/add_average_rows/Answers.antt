use Rattle.std.proofs.Common.{ap, codes, ◌∙◌}
use Rattle.sc_stats.specs.Rows.{average_rows, duration_row, number_row}
use Rattle.sc_stats.specs.Figures.{average}
use Rattle.sc_entry.specs.Tally.{total_count}
use Rattle.sc_stats.proofs.rows.add_average_rows.Goals as goal

pub returns : goal.returns
unfolding average_rows
returns c =
    c.in_ok-add_number.ensures
    ∙ ap (number_row (codes "Failed distributed compilations") c.args.stats.now.dist_errors) ((c.in_ok-add_average-3.ensures ∙ ap (λ n. duration_row (codes "Average cache read hit") (average c.args.stats.now.cache_read_hit_duration n) c.add_average-2.new.rows) c.all-hits.ensures)
    ∙ ap (duration_row (codes "Average cache read hit") (average c.args.stats.now.cache_read_hit_duration (total_count c.args.stats.now.cache_hits.counts))) (c.in_ok-add_average-2.ensures
    ∙ ap (duration_row (codes "Average compiler") (average c.args.stats.now.compiler_write_duration c.args.stats.now.compilations)) (c.in_ok-add_average.ensures)))
