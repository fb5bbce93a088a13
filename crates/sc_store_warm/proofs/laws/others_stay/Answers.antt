use Rattle.sc_store_warm.proofs.Endings as endings
use Rattle.sc_store_warm.proofs.laws.others_stay.Goals as goal

pub returns : goal.returns
returns c = endings.others_stay
