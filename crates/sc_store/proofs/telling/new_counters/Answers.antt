use Rattle.sc_store.proofs.Behind.{counters_all, counters_more, one_counted}
use Rattle.sc_store.proofs.telling.new_counters.Goals as goal

pub loop-left-preserved : goal.loop-left-preserved
loop-left-preserved g c = (
  counters_more c.loop-left.number c.loop-left.left.now c.level-item.result c.loop-left.counters.items c.push.new.self.items _ c.in_ok-new_counter.field-0 c.in-len1-up.len_at_least c.level-item.is c.in_ok-new_counter.ensures c.in_ok-push.ensures.items c.loop-left.invariant.0,
  one_counted c.loop-left.left.now c.level-item.result c.loop-left.number _ c.in-len1-up.len_at_least c.level-item.is c.loop-left.invariant.1,
)

pub returns : goal.returns
returns g c = counters_all c.loop-left.number c.loop-left.left.now c.loop-left.counters.items _ c.in_default.len_below c.loop-left.invariant.0
