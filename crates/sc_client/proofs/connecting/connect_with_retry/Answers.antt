use Rattle.std.proofs.Common.{arith}
use Rattle.sc_client.specs.Conversations.{beginning}
use Rattle.sc_client.proofs.Retried.{gave_by, refused_by}
use Rattle.sc_client.proofs.connecting.connect_with_retry.Goals as goal

pub returns-in-Ok-clause-retries : goal.returns-in-Ok-clause-retries
returns-in-Ok-clause-retries g c =
    let i = c.loop-pauses.invariant in
    gave_by (λ link. beginning (g.C.Link.Link.ahead link) (g.C.Link.Link.written link) (g.C.Link.Link.fault_count link)) c.args.addr.now _ _ _ _ _ _ _ _ _ _ _ c.loop-pauses.pauses i.asked i.paused i.links i.counted c.in_ok-connection.field-0 c.in-Ok.connection c.in-Ok.is i.few c.in_ok-connection.ensures.tries

pub returns-in-Ok-2-clause-retries : goal.returns-in-Ok-2-clause-retries
returns-in-Ok-2-clause-retries g c =
    let i = c.loop-pauses.invariant in
    gave_by (λ link. beginning (g.C.Link.Link.ahead link) (g.C.Link.Link.written link) (g.C.Link.Link.fault_count link)) c.args.addr.now _ _ _ _ _ _ _ _ _ _ _ c.loop-pauses.pauses i.asked i.paused i.links i.counted c.in_ok-connection-2.field-0 c.in-Ok-2.connection c.in-Ok-2.is i.few c.in_ok-connection-2.ensures.tries

pub returns-in-Err-clause-retries : goal.returns-in-Err-clause-retries
returns-in-Err-clause-retries g c =
    let i = c.loop-pauses.invariant in
    let few = i.few in
    let over = c.loop-pauses-test.false in
    refused_by (λ link. beginning (g.C.Link.Link.ahead link) (g.C.Link.Link.written link) (g.C.Link.Link.fault_count link)) c.args.addr.now _ _ _ _ _ _ _ _ _ _ _ c.loop-pauses.pauses i.asked i.paused i.links i.counted c.in_ok-connection-2.field-0 c.in-Err.refused c.in-Err.is (omega (arith, few, over)) c.in_ok-connection-2.ensures.tries
