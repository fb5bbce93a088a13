use Rattle.std.proofs.Common.{◌≡◌, ◌++◌, true}
use Rattle.std.specs.Vec.Iter.{into_iter_items}
use Rattle.sc_main_memory.specs.Making.{told_places, told_refusals}
use Rattle.sc_main_script.specs.Goods.{are_good_places}
use Rattle.sc_main_memory.proofs.making.refusals_of.Given as goal

abbrev pub invariant-loop-rule : goal.invariant-loop-rule
invariant-loop-rule l = record {
  same : told_refusals l.lines.items ++ told_places (into_iter_items l.rule-iterator) ≡ told_places l.fn.places;
  good : are_good_places (into_iter_items l.rule-iterator) ≡ true;
}
