use Rattle.std.proofs.Common.{◌≡◌, ◌++◌, true}
use Rattle.std.specs.Vec.Iter.{into_iter_items}
use Rattle.sc_main_memory.specs.Making.{placed}
use Rattle.sc_main_script.specs.Goods.{are_store_keys}
use Rattle.sc_main_memory.proofs.making.placed.Given as goal

abbrev pub invariant-loop-key : goal.invariant-loop-key
invariant-loop-key l = record {
  same : l.files ++ placed (into_iter_items l.key-iterator) ≡ placed l.fn.holds;
  keys : are_store_keys (into_iter_items l.key-iterator) ≡ true;
}
