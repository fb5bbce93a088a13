use Rattle.sc_store_warm.proofs.Endings as endings
use Rattle.sc_store_warm.proofs.laws.within.Goals as goal

pub returns : goal.returns
returns c = record { within = endings.stays_within; same = endings.same_target; fits = endings.copies_fit; grows = endings.grows }
