use Rattle.std.proofs.Common.{◌≡◌, List, ℕ, [], ◌∷◌, map, ap, sym, ◌∙◌, refl, rules, Bor}
use Rattle.std.proofs.lemmas.Map.Iter.{iter_end}
use Rattle.std.specs.FinMap.{entries}
use Rattle.std.specs.Map.Iter.{deref_pair}
use Rattle.sc_entry.specs.declared.counted_text.CountedText.{CountedText}
use Rattle.sc_entry.proofs.Tallies.{entries_of_tally}
use Rattle.sc_entry.proofs.counts.Counts.listed.Goals as goal

abbrev text_of : List ℕ × ℕ → CountedText
text_of e = record { text = e.0; count = e.1 }

texts_yielded : (ps : List (Bor (List ℕ) × Bor ℕ)) → map text_of (map deref_pair ps) ≡ map (λ p. record { text = p.0.now; count = p.1.now }) ps
texts_yielded [] = refl
texts_yielded (p ∷ ps) = ap (λ ts. text_of (deref_pair p) ∷ ts) (texts_yielded ps)

pub returns : goal.returns
returns c =
    let es : List (List ℕ × ℕ) = c.self.inside.by_text.entries in
    let same : entries c.args.self.now ≡ es = ap entries (sym c.self.view_is) ∙ entries_of_tally es c.iter-text-items.ensures.ordered in
    let start : c.into_iter-text-iterator.result ≡ es = search rules in
    let all = iter_end deref_pair es c.loop-text.yielded _ _ _ _ start c.loop-text.yielded_by c.in-None.is c.next.ensures.steps in
    c.from_vec.ensures ∙ c.loop-text.invariant ∙ sym (texts_yielded c.loop-text.yielded) ∙ ap (map text_of) (all.0 ∙ sym same)
