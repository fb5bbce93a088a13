use Rattle.std.proofs.Common.{◌≡◌, ℕ, ◌+◌, List, [], ◌∷◌, drop, ap, sym, ◌∙◌, refl, rules}
use Rattle.sc_entry.specs.declared.counted_text.CountedText.{CountedText}
use Rattle.sc_stats.specs.Rows.{keyed_rows, number_row, with_key}
use Rattle.sc_stats.specs.declared.rows.StatRow.{StatRow}
use Rattle.sc_stats.proofs.Left.{left_end, left_step}
use Rattle.sc_stats.proofs.rows.add_keyed.Goals as goal

abbrev one_row : List ℕ → CountedText → List StatRow → List StatRow
one_row name t rows = number_row (with_key name t.text) t.count rows

goes : (name : List ℕ) (t : CountedText) (ts : List CountedText) (rows : List StatRow) → keyed_rows name (t ∷ ts) rows ≡ keyed_rows name ts (one_row name t rows)
unfolding keyed_rows
goes name t ts rows = refl

stops : (name : List ℕ) (rows : List StatRow) → keyed_rows name [] rows ≡ rows
unfolding keyed_rows
stops name rows = refl

pub loop-text-preserved : goal.loop-text-preserved
loop-text-preserved c =
    let name = c.args.name.now in
    let ts = c.args.texts.now in
    let i = c.loop-text.text-index in
    let named : c.as_str.result.now ≡ with_key name c.text-item.result.text = search rules in
    ap (keyed_rows name (drop (i + 1) ts)) (c.in_ok-add_number.ensures ∙ ap (λ n. number_row n c.text-item.result.count c.loop-text.rows) named ∙ ap (λ t. one_row name t c.loop-text.rows) c.text-item.is)
    ∙ left_step (keyed_rows name) (one_row name) (goes name) ts i c.text-item.result c.loop-text.rows c.loop-text-test.true
    ∙ c.loop-text.invariant

pub returns : goal.returns
returns c =
    let ends : keyed_rows c.args.name.now (drop c.loop-text.text-index c.args.texts.now) c.loop-text.rows ≡ c.loop-text.rows = left_end (keyed_rows c.args.name.now) (stops c.args.name.now) c.args.texts.now c.loop-text.text-index c.loop-text.rows c.loop-text-test.false in
    sym ends ∙ c.loop-text.invariant
