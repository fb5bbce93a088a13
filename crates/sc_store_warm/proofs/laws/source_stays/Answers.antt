use Rattle.sc_store_warm.proofs.Sources.{sources}
use Rattle.sc_store_warm.proofs.laws.source_stays.Goals as goal

pub returns : goal.returns
returns c = sources
