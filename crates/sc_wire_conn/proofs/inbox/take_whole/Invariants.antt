use Rattle.std.proofs.Common.{length}
use Rattle.sc_wire_conn.proofs.Inboxes.{Takes}
use Rattle.sc_wire_conn.proofs.inbox.take_whole.Given as goal

abbrev pub invariant-frames : goal.invariant-frames
invariant-frames l = Takes l.fn.waiting l.fn.framer l.waiting l.framer

abbrev pub decreases-frames : goal.decreases-frames
decreases-frames l = length l.framer.rest
