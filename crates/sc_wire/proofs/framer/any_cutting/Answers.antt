use Rattle.sc_wire.proofs.Cuttings.{any_cutting_is}
use Rattle.sc_wire.proofs.framer.any_cutting.Goals as goal

pub returns : goal.returns
returns c = any_cutting_is
