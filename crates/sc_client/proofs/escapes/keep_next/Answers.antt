use Rattle.std.proofs.Common.{sym}
use Rattle.sc_client.proofs.Filtering.{filtered_skip}
use Rattle.sc_client.proofs.escapes.keep_next.Goals as goal

pub returns-in-Some-clause-value : goal.returns-in-Some-clause-value
returns-in-Some-clause-value c = filtered_skip c.args.kept.now c.args.byte c.args.rest.now c.in-Some.count (sym c.in-Some.ensures.value)
