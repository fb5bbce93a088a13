-- What a distributed client may answer.
use Rattle.sc_model.specs.Collected.{GoodObjects}
use Rattle.sc_model.specs.declared.event.DistAnswer.{DistAnswer}
use Rattle.sc_model.specs.declared.event.DistAnswer.TheVariants.{Done, Http, Other, TooLarge}

-- what was collected can be stored
abbrev pub GoodDist : DistAnswer → Type 0
GoodDist (Done server out) = GoodObjects out.objects
GoodDist (Http text) = Unit {0}
GoodDist (TooLarge text) = Unit {0}
GoodDist (Other text) = Unit {0}
