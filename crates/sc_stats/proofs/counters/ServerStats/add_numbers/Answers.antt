use Rattle.std.proofs.Common.{◌≡◌, ◌∙◌, rules}
use Rattle.sc_stats.specs.Parts.{with_counts}
use Rattle.sc_stats.specs.Sums.{sum}
use Rattle.sc_stats.proofs.Parts.{sum_of_numbers}
use Rattle.sc_stats.proofs.counters.ServerStats.add_numbers.Goals as goal

pub returns-clause-whole : goal.returns-clause-whole
returns-clause-whole c alone =
    let exact : c.add_compiler_numbers.new.self ≡ with_counts (sum c.args.self.now c.args.other.now) c.args.self.now = search rules in
    exact ∙ sum_of_numbers c.args.self.now c.args.other.now alone
