use Rattle.std.proofs.Common.{◌≡◌, ◌++◌, length, map, true}
use Rattle.std.specs.Vec.Iter.{into_iter_items}
use Rattle.sc_main_memory.specs.Making.{held_first, held_from}
use Rattle.sc_main_script.specs.Goods.{are_good_levels}
use Rattle.sc_store.specs.Levels.{held_level}
use Rattle.sc_main_memory.proofs.making.levels_of.Given as goal

abbrev pub invariant-loop-rule : goal.invariant-loop-rule
invariant-loop-rule l = record {
  same : map held_level l.levels.items ++ held_from (length l.levels.items) (into_iter_items l.rule-iterator) ≡ held_first l.fn.rules;
  good : are_good_levels (into_iter_items l.rule-iterator) ≡ true;
}
