use Rattle.std.proofs.Common.{◌≡◌, ℕ, List, ◌++◌, ◌∷◌, [], length, refl, ap, sym, ◌∙◌, arith, length-append}
use Rattle.sc_entry.specs.Tally.{tally_of}
use Rattle.sc_entry.proofs.Tallies.{one_counted}
use Rattle.sc_entry.proofs.Ordered.{put_each, put_each-empty, put_each-push}
use Rattle.sc_entry.proofs.counts.Counts.from_entries.Goals as goal

none_left : (es : List (List ℕ × ℕ)) → length es ≡ 0 → es ≡ []
none_left [] e = refl
none_left (x ∷ es) e = absurd (omega arith)

pub loop-text-init : goal.loop-text-init
loop-text-init c =
    ap (λ es. put_each es (tally_of c.new-by_text.result.entries)) c.into_vec-left.ensures
    ∙ ap (λ es. put_each c.args.entries (tally_of es)) c.new-by_text.ensures.empty
    ∙ put_each-empty c.args.entries

pub loop-text-smaller : goal.loop-text-smaller
loop-text-smaller c =
    let popped : c.loop-text.left.items ≡ c.pop.new.self.items ++ (c.in-Some.text, c.in-Some.count) ∷ [] = c.in-Some.ensures.items in
    omega (arith, ap length popped, length-append c.pop.new.self.items ((c.in-Some.text, c.in-Some.count) ∷ []))

pub loop-text-preserved : goal.loop-text-preserved
loop-text-preserved c =
    let popped : c.loop-text.left.items ≡ c.pop.new.self.items ++ (c.in-Some.text, c.in-Some.count) ∷ [] = c.in-Some.ensures.items in
    ap (put_each c.pop.new.self.items) (one_counted c.loop-text.by_text.entries c.insert.new.self.entries c.in-Some.text c.in-Some.count c.in_ok-insert.ensures.updates.0)
    ∙ sym (put_each-push c.pop.new.self.items (c.in-Some.text, c.in-Some.count) (tally_of c.loop-text.by_text.entries))
    ∙ ap (λ es. put_each es (tally_of c.loop-text.by_text.entries)) (sym popped)
    ∙ c.loop-text.invariant

pub returns : goal.returns
returns c =
    ap (λ es. put_each es (tally_of c.loop-text.by_text.entries)) (sym (none_left c.loop-text.left.items (omega (arith, c.in_default.ensures.cases.0, c.loop-text.left.ok))))
    ∙ c.loop-text.invariant
