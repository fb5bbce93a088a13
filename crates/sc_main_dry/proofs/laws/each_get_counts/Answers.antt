use Rattle.std.proofs.Common.{[]}
use Rattle.sc_main_dry.proofs.Sums.{gets}
use Rattle.sc_main_dry.proofs.laws.each_get_counts.Goals as goal

pub returns : goal.returns
returns g c = λ uses capacity. gets g.K.PartialEq.eq capacity [] uses
