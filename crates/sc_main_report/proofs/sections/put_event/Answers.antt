use Rattle.sc_main_report.proofs.Growing.{with_reply, without_section}
use Rattle.sc_main_report.proofs.sections.put_event.Goals as goal

pub returns-in_ok-append : goal.returns-in_ok-append
returns-in_ok-append c = with_reply _ _ _ _ _ _ _ _ c.in-Request.is c.in-Sent.is c.if-place-sections.true c.in_ok-append.ensures

pub returns-else-place-sections : goal.returns-else-place-sections
returns-else-place-sections c = without_section _ _ _ _ _ _ c.in-Request.is c.in-Sent.is c.if-place-sections.false
