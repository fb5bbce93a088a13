use Rattle.sc_store_warm.proofs.Endings as endings
use Rattle.sc_store_warm.proofs.laws.copied_stays.Goals as goal

pub returns : goal.returns
returns c = endings.copied_stays
