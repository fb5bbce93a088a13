use Rattle.std.proofs.Common.{◌≡◌, List, [], ◌∷◌, ◌++◌, map, ℕ, ap, sym, ◌∙◌, rules}
use Rattle.std.proofs.lemmas.List.{map-append}
use Rattle.std.proofs.lemmas.Map.Iter.{rest_more, rest_so_far, iter_end}
use Rattle.std.specs.FinMap.{entries}
use Rattle.std.specs.Map.Iter.{deref_pair}
use Rattle.sc_entry.specs.Tally.{add_each, counted}
use Rattle.sc_entry.proofs.Tallies.{add_each-append, entries_of_tally, entries_empty, not_empty, on_err}
use Rattle.sc_entry.proofs.counts.Counts.add_all.Goals as goal

pub loop-text-preserved : goal.loop-text-preserved
loop-text-preserved c =
    c.in_ok-add.ensures.ok
    ∙ ap (λ m. counted m c.in-Some.text.now c.in-Some.n.now) c.loop-text.invariant
    ∙ sym (ap (λ es. add_each es c.args.self.now) (map-append deref_pair c.loop-text.yielded ((c.in-Some.text, c.in-Some.n) ∷ []))
    ∙ add_each-append (map deref_pair c.loop-text.yielded) ((c.in-Some.text.now, c.in-Some.n.now) ∷ []) c.args.self.now)

pub returns-in_err-add-clause-err : goal.returns-in_err-add-clause-err
returns-in_err-add-clause-err c =
    let es : List (List ℕ × ℕ) = c.other.inside.by_text.entries in
    let same : entries c.args.other.now ≡ es = ap entries (sym c.other.view_is) ∙ entries_of_tally es c.iter-text-items.ensures.ordered in
    let start : c.into_iter-text-iterator.result ≡ es = search rules in
    on_err c.from_residual.result _ (
      map deref_pair c.loop-text.yielded,
      c.loop-text.text-iterator,
      same ∙ sym start ∙ rest_so_far deref_pair c.loop-text.yielded _ _ c.loop-text.yielded_by,
      c.in_err-add.ensures.err ∙ c.loop-text.invariant,
    )

pub returns-in_err-add-clause-nothing : goal.returns-in_err-add-clause-nothing
returns-in_err-add-clause-nothing c none =
    let es : List (List ℕ × ℕ) = c.other.inside.by_text.entries in
    let same : es ≡ [] = sym (ap entries (sym c.other.view_is) ∙ entries_of_tally es c.iter-text-items.ensures.ordered) ∙ ap entries none ∙ entries_empty in
    let start : c.into_iter-text-iterator.result ≡ es = search rules in
    let some = rest_more deref_pair c.loop-text.text-iterator c.next.new.self c.next.result (c.in-Some.text, c.in-Some.n) c.in-Some.is c.next.ensures.steps in
    absurd (not_empty (map deref_pair c.loop-text.yielded) (c.in-Some.text.now, c.in-Some.n.now) c.next.new.self
    (sym (ap (λ t. map deref_pair c.loop-text.yielded ++ t) some) ∙ sym (rest_so_far deref_pair c.loop-text.yielded _ _ c.loop-text.yielded_by) ∙ start ∙ same))

pub returns-clause-ok : goal.returns-clause-ok
returns-clause-ok c =
    let es : List (List ℕ × ℕ) = c.other.inside.by_text.entries in
    let same : entries c.args.other.now ≡ es = ap entries (sym c.other.view_is) ∙ entries_of_tally es c.iter-text-items.ensures.ordered in
    let start : c.into_iter-text-iterator.result ≡ es = search rules in
    let all = iter_end deref_pair es c.loop-text.yielded _ _ _ _ start c.loop-text.yielded_by c.in-None.is c.next.ensures.steps in
    c.loop-text.invariant ∙ ap (λ es. add_each es c.args.self.now) (all.0 ∙ sym same)
