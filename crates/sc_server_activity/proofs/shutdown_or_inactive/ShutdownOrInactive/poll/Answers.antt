use Rattle.std.proofs.Common.{rules}
use Rattle.sc_server_activity.proofs.Stopping.{ready_where}
use Rattle.sc_server_activity.proofs.shutdown_or_inactive.ShutdownOrInactive.poll.Goals as goal

pub returns-clause-ready : goal.returns-clause-ready
returns-clause-ready c =
    ready_where c.args.self.now.cause c.args.messages.now.standing c.args.messages.now.is_closed c.args.self.now.idle_time c.if-took_request.self.active_at c.args.now c.is_some.result (search rules)
