use Rattle.std.proofs.Common.{rules}
use Rattle.sc_client.proofs.Running.{came_of}
use Rattle.sc_client.proofs.local.output_of.Goals as goal

pub returns-in-Ok-clause-came : goal.returns-in-Ok-clause-came
returns-in-Ok-clause-came g c = came_of c.args.collected _ _ _ _ c.in-Ok.child _ (search rules) c.wait_for.ensures.told c.wait_for.ensures.fault
