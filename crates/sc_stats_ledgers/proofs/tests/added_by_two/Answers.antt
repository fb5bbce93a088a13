use Rattle.std.proofs.Common.{◌≡◌, ap, arith, rules, ◌∙◌}
use Rattle.sc_stats_ledgers.specs.Numbers.{capped, no_numbers, sums}
use Rattle.sc_stats_ledgers.specs.declared.numbers.Numbers.{Numbers}
use Rattle.sc_stats_ledgers.proofs.tests.added_by_two.Goals as goal

pub returns : goal.returns
returns g c =
    let amounts : c.merge.new.self.amounts ≡ sums (sums c.args.start.now c.args.first.now) (sums no_numbers c.args.second.now) = search rules in
    c.audit.ensures.sums (ap (λ (n : Numbers). n.zeroings) amounts ∙ omega (arith, c.requires.start, c.requires.first, c.requires.second)) ∙ ap capped amounts
