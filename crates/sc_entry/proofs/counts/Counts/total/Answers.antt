use Rattle.std.proofs.Common.{◌≡◌, ◌-◌, ◌^◌, List, ℕ, min, sum, map, ap, sym, ◌∙◌, refl, rules, Bor, [], ◌∷◌}
use Rattle.std.proofs.lemmas.Map.Iter.{iter_end}
use Rattle.std.specs.FinMap.{entries}
use Rattle.std.specs.Map.Iter.{deref_pair}
use Rattle.sc_entry.proofs.Tallies.{entries_of_tally}
use Rattle.sc_entry.proofs.counts.Counts.total.Goals as goal

values_yielded : (ps : List (Bor (List ℕ) × Bor ℕ)) → map (λ (e : List ℕ × ℕ). e.1) (map deref_pair ps) ≡ map (λ p. p.1.now) ps
values_yielded [] = refl
values_yielded (p ∷ ps) = ap (λ ns. p.1.now ∷ ns) (values_yielded ps)

pub returns : goal.returns
returns c =
    let es : List (List ℕ × ℕ) = c.self.inside.by_text.entries in
    let same : entries c.args.self.now ≡ es = ap entries (sym c.self.view_is) ∙ entries_of_tally es c.iter-n-items.ensures.ordered in
    let start : c.into_iter-n-iterator.result ≡ es = search rules in
    let all = iter_end deref_pair es c.loop-n.yielded _ _ _ _ start c.loop-n.yielded_by c.in-None.is c.next.ensures.steps in
    c.loop-n.invariant ∙ ap (λ ns. min (sum ns) (2 ^ 64 - 1)) (sym (values_yielded c.loop-n.yielded) ∙ ap (map (λ (e : List ℕ × ℕ). e.1)) (all.0 ∙ sym same))
