use Rattle.std.proofs.Common.{arith}
use Rattle.sc_main_report.proofs.Growing.{next_sections}
use Rattle.sc_main_report.proofs.sections.sections_of.Goals as goal

pub loop-event-preserved : goal.loop-event-preserved
loop-event-preserved c =
    next_sections _ _ _ _ _ _ _ _ c.loop-event.invariant c.deref_mut.ensures.value (omega arith) (omega arith) c.in_ok-put_event.ensures c.event-item.is c.loop-event-test.true
