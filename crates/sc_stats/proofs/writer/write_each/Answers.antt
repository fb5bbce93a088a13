use Rattle.std.proofs.Common.{◌≡◌, get_or, List, ℕ, subst, ◌∙◌}
use Rattle.sc_stats.proofs.Written.{all_written, one_more}
use Rattle.sc_stats.proofs.writer.write_each.Goals as goal

pub loop-line-preserved : goal.loop-line-preserved
loop-line-preserved g c =
    let writes = g.W.ServerStatsWriter.writes in
    let line : c.as_str.result.now ≡ get_or c.args.lines.now c.loop-line.line-index c.line-item.result = c.as_str.ensures ∙ c.line-item.is in
    one_more writes c.args.lines.now c.loop-line.line-index c.line-item.result c.args.writer.now c.loop-line.writer c.write.new.self c.loop-line-test.true c.loop-line.invariant
    (subst (λ (t : List ℕ). writes c.loop-line.writer t c.write.new.self) line c.write.ensures)

pub returns : goal.returns
returns g c = all_written g.W.ServerStatsWriter.writes c.args.lines.now c.loop-line.line-index c.args.writer.now c.loop-line.writer c.loop-line-test.false c.loop-line.invariant
