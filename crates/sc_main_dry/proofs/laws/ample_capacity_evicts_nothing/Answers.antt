use Rattle.std.proofs.Common.{[], arith}
use Rattle.sc_main_dry.proofs.Sums.{none_dropped, none_over}
use Rattle.sc_main_dry.proofs.laws.ample_capacity_evicts_nothing.Goals as goal

pub returns-clause-evicted : goal.returns-clause-evicted
returns-clause-evicted g c = λ uses capacity fits. none_dropped g.K.PartialEq.eq capacity [] uses (omega arith)

pub returns-clause-too_large : goal.returns-clause-too_large
returns-clause-too_large g c = λ uses capacity fits. none_over g.K.PartialEq.eq capacity [] uses fits
