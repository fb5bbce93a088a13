use Rattle.std.proofs.Common.{◌≡◌, ◌==◌, ℕ, true, false, List, [], ◌∷◌, ◌++◌, length, ap, sym, ◌∙◌, refl, arith}
use Rattle.std.proofs.lemmas.Bool.{eqb-true}
use Rattle.sc_entry.specs.declared.counted_text.CountedText.{CountedText}
use Rattle.sc_stats.specs.Lines.{listing, rank_lines, ranked}
use Rattle.sc_stats.proofs.lines.add_listing.Goals as goal

of_none : (title front : List ℕ) (names values : ℕ) (ts : List CountedText) (lines : List (List ℕ)) → (length ts == 0) ≡ true → lines ≡ listing title front names values ts lines
unfolding listing
of_none title front names values [] lines e = refl
of_none title front names values (t ∷ ts) lines e = let none : length (t ∷ ts) ≡ 0 = eqb-true _ _ e in absurd (omega arith)

of_some : (title front : List ℕ) (names values : ℕ) (ts : List CountedText) (lines : List (List ℕ)) → (length ts == 0) ≡ false → rank_lines front names values (ranked ts []) (lines ++ title ∷ []) ≡ listing title front names values ts lines
unfolding listing
of_some title front names values [] lines e = cc
of_some title front names values (t ∷ ts) lines e = refl

pub returns-then-is_empty : goal.returns-then-is_empty
returns-then-is_empty c = of_none c.args.title.now c.args.front.now c.args.names c.args.values c.args.texts.now c.args.lines.now (sym c.is_empty.ensures ∙ c.if-is_empty.true)

pub returns : goal.returns
returns c =
    c.in_ok-add_rank_lines.ensures
    ∙ ap (λ rs. rank_lines c.args.front.now c.args.names c.args.values rs c.push.new.self) c.in_ok-ranks.ensures
    ∙ ap (rank_lines c.args.front.now c.args.names c.args.values (ranked c.args.texts.now [])) (c.in_ok-push.ensures.ok ∙ ap (λ l. c.args.lines.now ++ l ∷ []) c.in_ok-from_str.ensures)
    ∙ of_some c.args.title.now c.args.front.now c.args.names c.args.values c.args.texts.now c.args.lines.now (sym c.is_empty.ensures ∙ c.if-is_empty.false)
