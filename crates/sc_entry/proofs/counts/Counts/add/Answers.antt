use Rattle.std.proofs.Common.{◌≡◌, ap, ◌∙◌, ◌+◌, ◌-◌, ◌^◌, min, rules}
use Rattle.std.specs.FinMap.{insert}
use Rattle.sc_entry.specs.Tally.{count_of}
use Rattle.sc_entry.proofs.Tallies.{one_counted}
use Rattle.sc_entry.proofs.counts.Counts.add.Goals as goal

pub returns-clause-ok : goal.returns-clause-ok
returns-clause-ok c =
    let more : c.saturating_add-more.result ≡ min (count_of c.args.self.now c.args.text.now + c.args.n) (2 ^ 64 - 1) = search rules in
    let same : c.in_ok-text.text ≡ c.args.text.now = search rules in
    one_counted c.self.inside.by_text.entries c.insert.new.self.entries c.in_ok-text.text c.saturating_add-more.result c.in_ok-insert.ensures.updates.0
    ∙ ap (λ m. insert m c.in_ok-text.text c.saturating_add-more.result) c.self.view_is
    ∙ ap (λ t. insert c.args.self.now t c.saturating_add-more.result) same
    ∙ ap (λ n. insert c.args.self.now c.args.text.now n) more
