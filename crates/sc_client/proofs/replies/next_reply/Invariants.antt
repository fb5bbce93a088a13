use Rattle.std.proofs.Common.{◌≡◌, ◌<◌, ◌-◌, length}
use Rattle.sc_client.specs.Conversations.{held}
use Rattle.sc_client.proofs.replies.next_reply.Given as goal

abbrev pub invariant-loop-reply : goal.invariant-loop-reply
invariant-loop-reply g l = record {
  limit : l.framer.limit ≡ 16777216;
  room : 0 < length l.buffer;
  held : held l.framer.rest (g.K.Link.ahead l.link) ≡ held l.fn.framer.rest (g.K.Link.ahead l.fn.link);
  written : g.K.Link.written l.link ≡ g.K.Link.written l.fn.link;
  faults : g.K.Link.fault_count l.link ≡ g.K.Link.fault_count l.fn.link;
}

-- as long as no reply is whole, few bytes are held
abbrev pub decreases-loop-reply : goal.decreases-loop-reply
decreases-loop-reply g l = 16777220 - length l.framer.rest
