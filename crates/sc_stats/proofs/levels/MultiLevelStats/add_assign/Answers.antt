use Rattle.std.proofs.Common.{ap, drop, length, take, ◌∙◌}
use Rattle.sc_stats.proofs.Parts.{places_stay, surplus_stays}
use Rattle.sc_stats.specs.Sums.{add_levels, places_of}
use Rattle.sc_stats.proofs.levels.MultiLevelStats.add_assign.Goals as goal

pub returns-clause-places : goal.returns-clause-places
returns-clause-places c =
    let own = c.args.self.now in
    ap (λ ls. places_of (take (length own) ls)) (c.in_ok-add_levels.ensures.ok ∙ ap (add_levels own) c.as_slice.ensures) ∙ places_stay own c.args.other.now

pub returns-clause-surplus : goal.returns-clause-surplus
returns-clause-surplus c =
    let own = c.args.self.now in
    ap (drop (length own)) (c.in_ok-add_levels.ensures.ok ∙ ap (add_levels own) c.as_slice.ensures) ∙ surplus_stays own c.args.other.now
