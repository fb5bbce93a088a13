use Rattle.sc_client.proofs.Filtering.{sequence_goes}
use Rattle.sc_client.proofs.escapes_laws.sequences_go.Goals as goal

pub returns : goal.returns
returns c = sequence_goes
