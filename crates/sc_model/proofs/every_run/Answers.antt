use Rattle.sc_model.proofs.Whole.{headline}
use Rattle.sc_model.proofs.every_run.Goals as goal

pub returns : goal.returns
returns c = headline
