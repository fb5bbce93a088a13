use Rattle.sc_wire_conn.proofs.Inboxes.{takes_more}
use Rattle.sc_wire_conn.proofs.inbox.take_whole.Goals as goal

pub frames-preserved : goal.frames-preserved
frames-preserved c =
    takes_more c.args.waiting.now c.args.framer.now c.frames.waiting c.frames.framer c.frames.invariant c.in-Ok-Some.request c.push_back.new.self c.next_request.new.self
    (rw c.in-Ok-Some.field-0-is at c.in-Ok-Some.ensures) c.in_ok-push_back-in-Ok-Some.ensures.ok
