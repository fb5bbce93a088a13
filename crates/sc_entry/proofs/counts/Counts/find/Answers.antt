use Rattle.std.proofs.Common.{ap, sym, ◌∙◌}
use Rattle.std.specs.FinMap.{get}
use Rattle.sc_entry.proofs.Tallies.{get_text}
use Rattle.sc_entry.proofs.counts.Counts.find.Goals as goal

pub returns : goal.returns
returns c = c.copied.ensures ∙ c.get.ensures.value ∙ sym (get_text c.self.inside.by_text.entries c.args.text.now) ∙ ap (λ m. get m c.args.text.now) c.self.view_is
