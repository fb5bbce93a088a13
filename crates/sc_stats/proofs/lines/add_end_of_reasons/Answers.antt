use Rattle.std.proofs.Common.{◌≡◌, ◌==◌, ℕ, true, false, List, [], ◌∷◌, ◌++◌, length, ap, sym, ◌∙◌, refl, arith}
use Rattle.std.proofs.lemmas.Bool.{eqb-true}
use Rattle.sc_entry.specs.declared.counted_text.CountedText.{CountedText}
use Rattle.sc_stats.specs.Lines.{end_of_reasons}
use Rattle.sc_stats.proofs.lines.add_end_of_reasons.Goals as goal

of_none : (ts : List CountedText) (lines : List (List ℕ)) → (length ts == 0) ≡ true → lines ≡ end_of_reasons ts lines
unfolding end_of_reasons
of_none [] lines e = refl
of_none (t ∷ ts) lines e = let none : length (t ∷ ts) ≡ 0 = eqb-true _ _ e in absurd (omega arith)

of_some : (ts : List CountedText) (lines : List (List ℕ)) → (length ts == 0) ≡ false → lines ++ [] ∷ [] ≡ end_of_reasons ts lines
unfolding end_of_reasons
of_some [] lines e = cc
of_some (t ∷ ts) lines e = refl

pub returns-then-is_empty : goal.returns-then-is_empty
returns-then-is_empty c = of_none c.args.reasons.now c.args.lines.now (sym c.is_empty.ensures ∙ c.if-is_empty.true)

pub returns : goal.returns
returns c =
    c.in_ok-push.ensures.ok
    ∙ ap (λ l. c.args.lines.now ++ l ∷ []) c.new.ensures
    ∙ of_some c.args.reasons.now c.args.lines.now (sym c.is_empty.ensures ∙ c.if-is_empty.false)
