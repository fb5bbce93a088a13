use Rattle.std.proofs.Common.{ap, sym, ◌∙◌}
use Rattle.sc_entry.specs.Tally.{entries_of}
use Rattle.sc_entry.proofs.Ordered.{entries_back, sorted_if}
use Rattle.sc_entry.proofs.counts.Counts.by_text.Goals as goal

pub returns : goal.returns
returns c = sym (entries_back c.self.inside.by_text.entries (sorted_if c.self.inside.by_text.entries c.len-ordered.ensures.ordered)) ∙ ap entries_of c.self.view_is
