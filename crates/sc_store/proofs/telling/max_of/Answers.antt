use Rattle.sc_store.proofs.Behind.{max_more}
use Rattle.sc_store.proofs.telling.max_of.Goals as goal

pub loop-left-preserved : goal.loop-left-preserved
loop-left-preserved g c =
    max_more c.loop-left.left.now c.level-item.result c.loop-left.sum c.saturating_add-sum.result c.unwrap_or.result _ c.max_size.result c.in-len1-up.len_at_least c.level-item.is c.max_size.ensures c.unwrap_or.ensures c.saturating_add-sum.ensures c.loop-left.invariant
