use Rattle.std.proofs.Common.{subst}
use Rattle.sc_wire.specs.Codec.{all_again}
use Rattle.sc_wire.specs.Gives.{Decodes}
use Rattle.sc_wire.proofs.Ends.{none_spells}
use Rattle.sc_wire.proofs.bincode.BincodeCodec.decode.Goals as goal

pub returns-clause-again : goal.returns-clause-again
returns-clause-again g c = λ m s. subst (λ r. Decodes c.decode_all.result r) (all_again g.M.Wire.codec c.args.bytes.now m s) c.decode_all.ensures

pub returns-clause-none : goal.returns-clause-none
returns-clause-none g c = none_spells g.M.Wire.codec c.args.bytes.now c.decode_all.result c.decode_all.ensures
