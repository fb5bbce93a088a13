use Rattle.std.proofs.Common.{sym, ◌∙◌}
use Rattle.sc_store.proofs.Behind.{all_unreserved, free_first, held_first}
use Rattle.sc_store.specs.Levels.{held_level}
use Rattle.sc_store.proofs.levels.+are_unreserved.Goals as goal

pub returns-then-reserved-eq0 : goal.returns-then-reserved-eq0
returns-then-reserved-eq0 g t c =
    let first = c.first-item.result in
    c.are_unreserved.ensures ∙ free_first (held_level first).room.reserved _ (sym c.reserved.ensures ∙ c.if-reserved-eq0.true)
    ∙ sym (all_unreserved c.args.levels.now first c.in-len1-up.len_at_least c.first-item.is)

pub returns-else-reserved-eq0 : goal.returns-else-reserved-eq0
returns-else-reserved-eq0 g t c =
    let first = c.first-item.result in
    held_first c.reserved.result (held_level first).room.reserved _ c.reserved.ensures c.if-reserved-eq0.false
    ∙ sym (all_unreserved c.args.levels.now first c.in-len1-up.len_at_least c.first-item.is)
