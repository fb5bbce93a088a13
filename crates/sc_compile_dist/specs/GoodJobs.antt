-- What a distributed client may answer.
use Rattle.std.specs.Prelude.{Bool, true}
use Rattle.sc_model.specs.GoodNames.{are_good}
use Rattle.sc_model.specs.declared.event.DistAnswer.{DistAnswer}
use Rattle.sc_model.specs.declared.event.DistAnswer.TheVariants.{Done, Http, Other, TooLarge}

-- objects with names that an entry can hold
abbrev pub is_good_dist : DistAnswer → Bool
is_good_dist (Done server out) = are_good out.objects
is_good_dist (Http text) = true
is_good_dist (TooLarge text) = true
is_good_dist (Other text) = true
