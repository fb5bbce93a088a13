use Rattle.std.proofs.Common.{◌≡◌, ◌+◌, List, [], ◌∷◌, drop, ap, sym, ◌∙◌, refl}
use Rattle.sc_stats.specs.Rows.{each_level, level_rows}
use Rattle.sc_stats.specs.declared.counters.LevelStats.{LevelStats}
use Rattle.sc_stats.specs.declared.rows.StatRow.{StatRow}
use Rattle.sc_stats.proofs.Left.{left_end, left_step}
use Rattle.sc_stats.proofs.rows.add_each_level.Goals as goal

goes : (l : LevelStats) (ls : List LevelStats) (rows : List StatRow) → each_level (l ∷ ls) rows ≡ each_level ls (level_rows l rows)
unfolding each_level
goes l ls rows = refl

stops : (rows : List StatRow) → each_level [] rows ≡ rows
unfolding each_level
stops rows = refl

pub loop-level-preserved : goal.loop-level-preserved
loop-level-preserved c =
    ap (each_level (drop (c.loop-level.level-index + 1) c.args.levels.now)) (c.in_ok-add_level_rows.ensures ∙ ap (λ l. level_rows l c.loop-level.rows) c.level-item.is)
    ∙ left_step each_level level_rows goes c.args.levels.now c.loop-level.level-index c.level-item.result c.loop-level.rows c.loop-level-test.true
    ∙ c.loop-level.invariant

pub returns : goal.returns
returns c =
    let ends : each_level (drop c.loop-level.level-index c.args.levels.now) c.loop-level.rows ≡ c.loop-level.rows = left_end each_level stops c.args.levels.now c.loop-level.level-index c.loop-level.rows c.loop-level-test.false in
    sym ends ∙ c.loop-level.invariant
