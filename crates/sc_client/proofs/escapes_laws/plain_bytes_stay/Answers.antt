use Rattle.sc_client.proofs.Filtering.{plain_stay}
use Rattle.sc_client.proofs.escapes_laws.plain_bytes_stay.Goals as goal

pub returns : goal.returns
returns c = plain_stay
