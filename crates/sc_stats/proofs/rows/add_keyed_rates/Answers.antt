use Rattle.std.proofs.Common.{◌≡◌, ◌+◌, List, [], ◌∷◌, codes, drop, ap, sym, ◌∙◌, refl, rules}
use Rattle.sc_entry.specs.Tally.{Tally, count_of}
use Rattle.sc_entry.specs.declared.counted_text.CountedText.{CountedText}
use Rattle.sc_stats.specs.Rows.{keyed_rates, rate_row, with_key}
use Rattle.sc_stats.specs.declared.rows.StatRow.{StatRow}
use Rattle.sc_stats.proofs.Left.{left_end, left_step}
use Rattle.sc_stats.proofs.rows.add_keyed_rates.Goals as goal

abbrev one_rate : Tally → Tally → CountedText → List StatRow → List StatRow
one_rate hits misses t rows = rate_row (with_key (codes "Cache hits rate") t.text) (count_of hits t.text) (count_of misses t.text) rows

goes : (hits misses : Tally) (t : CountedText) (ts : List CountedText) (rows : List StatRow) → keyed_rates hits misses (t ∷ ts) rows ≡ keyed_rates hits misses ts (one_rate hits misses t rows)
unfolding keyed_rates
goes hits misses t ts rows = refl

stops : (hits misses : Tally) (rows : List StatRow) → keyed_rates hits misses [] rows ≡ rows
unfolding keyed_rates
stops hits misses rows = refl

pub loop-key-preserved : goal.loop-key-preserved
loop-key-preserved c =
    let hits = c.args.hits.now in
    let misses = c.args.misses.now in
    let ts = c.args.keys.now in
    let i = c.loop-key.key-index in
    let t = c.key-item.result in
    let rows = c.loop-key.rows in
    let named : c.as_str.result.now ≡ with_key (codes "Cache hits rate") t.text = search rules in
    ap (keyed_rates hits misses (drop (i + 1) ts))
    (c.in_ok-add_rate.ensures ∙ ap (λ n. rate_row n c.get-hit.result c.get-missed.result rows) named
    ∙ ap (λ n. rate_row (with_key (codes "Cache hits rate") t.text) n c.get-missed.result rows) c.get-hit.ensures
    ∙ ap (λ n. rate_row (with_key (codes "Cache hits rate") t.text) (count_of hits t.text) n rows) c.get-missed.ensures
    ∙ ap (λ t. one_rate hits misses t rows) c.key-item.is)
    ∙ left_step (keyed_rates hits misses) (one_rate hits misses) (goes hits misses) ts i t rows c.loop-key-test.true
    ∙ c.loop-key.invariant

pub returns : goal.returns
returns c =
    let ends : keyed_rates c.args.hits.now c.args.misses.now (drop c.loop-key.key-index c.args.keys.now) c.loop-key.rows ≡ c.loop-key.rows =
    left_end (keyed_rates c.args.hits.now c.args.misses.now) (stops c.args.hits.now c.args.misses.now) c.args.keys.now c.loop-key.key-index c.loop-key.rows c.loop-key-test.false in
    sym ends ∙ c.loop-key.invariant
