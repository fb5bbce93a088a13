use Rattle.sc_main_warm.proofs.GoodDrafts.{good_warm}
use Rattle.sc_main_warm.proofs.laws.warmed_levels_hold_store_keys.Goals as goal

pub returns-clause-from : goal.returns-clause-from
returns-clause-from c bytes w is = (good_warm bytes w is).from

pub returns-clause-to : goal.returns-clause-to
returns-clause-to c bytes w is = (good_warm bytes w is).to
