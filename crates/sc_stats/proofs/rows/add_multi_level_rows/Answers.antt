use Rattle.std.proofs.Common.{◌≡◌, ◌==◌, true, false, List, [], ◌∷◌, codes, length, ap, sym, ◌∙◌, refl, arith}
use Rattle.std.proofs.lemmas.Bool.{eqb-true}
use Rattle.sc_stats.specs.Rows.{each_level, multi_level_rows, number_row}
use Rattle.sc_stats.specs.declared.counters.LevelStats.{LevelStats}
use Rattle.sc_stats.specs.declared.rows.StatRow.{StatRow}
use Rattle.sc_stats.proofs.rows.add_multi_level_rows.Goals as goal

of_none : (ls : List LevelStats) (rows : List StatRow) → (length ls == 0) ≡ true → rows ≡ multi_level_rows ls rows
unfolding multi_level_rows
of_none [] rows e = refl
of_none (l ∷ ls) rows e = let none : length (l ∷ ls) ≡ 0 = eqb-true _ _ e in absurd (omega arith)

of_some : (ls : List LevelStats) (rows : List StatRow) → (length ls == 0) ≡ false → each_level ls (number_row (codes "Multi-level cache levels") (length ls) rows) ≡ multi_level_rows ls rows
unfolding multi_level_rows
of_some [] rows e = cc
of_some (l ∷ ls) rows e = refl

pub returns-then-is_empty : goal.returns-then-is_empty
returns-then-is_empty c = of_none c.args.levels.now c.args.rows.now (sym c.is_empty.ensures ∙ c.if-is_empty.true)

pub returns : goal.returns
returns c =
    c.in_ok-add_each_level.ensures
    ∙ ap (each_level c.args.levels.now) c.in_ok-add_number.ensures
    ∙ of_some c.args.levels.now c.args.rows.now (sym c.is_empty.ensures ∙ c.if-is_empty.false)
