use Rattle.std.proofs.Common.{ap}
use Rattle.std.proofs.lemmas.Result.{err_from_is_err_and}
use Rattle.sc_wire.specs.Frames.{Framing}
use Rattle.sc_client.proofs.Replying.{grows, heard_refused, heard_reply}
use Rattle.sc_client.proofs.replies.next_reply.Goals as goal

pub returns-in_err-reply-clause-heard : goal.returns-in_err-reply-clause-heard
returns-in_err-reply-clause-heard g c =
    let p = err_from_is_err_and c.from_residual.result c.from_residual.ensures.1 in
    heard_refused c.in_err-reply.field-0.0 c.loop-reply.framer c.next_message.new.self p.0 c.from_residual.result (g.K.Link.ahead c.loop-reply.link) _ c.in_err-reply.ensures p.1 p.2 c.loop-reply.invariant.limit c.loop-reply.invariant.held

pub returns-in-Some-clause-heard : goal.returns-in-Some-clause-heard
returns-in-Some-clause-heard g c =
    heard_reply c.in_ok-reply.field-0 c.in-Some.reply c.loop-reply.framer c.next_message.new.self (g.K.Link.ahead c.loop-reply.link) _ c.in_ok-reply.ensures c.in-Some.is c.loop-reply.invariant.limit c.loop-reply.invariant.held

pub loop-reply-smaller : goal.loop-reply-smaller
loop-reply-smaller g c =
    grows c.in_ok-reply.field-0 c.loop-reply.framer c.next_message.new.self c.feed.new.self c.in_ok-n.n c.read.new.buffer c.in_ok-reply.ensures c.in_default.is c.loop-reply.invariant.limit
    c.in_ok-n.ensures.within c.if-n-eq0.false (ap (λ (f : Framing). f.rest) c.in_ok-feed.ensures.ok)
