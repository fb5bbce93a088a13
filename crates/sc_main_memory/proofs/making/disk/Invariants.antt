use Rattle.std.proofs.Common.{◌≡◌, [], drop, true}
use Rattle.sc_main_memory.specs.Making.{filled_from}
use Rattle.sc_main_script.specs.Goods.{are_store_keys}
use Rattle.sc_main_memory.proofs.making.disk.Given as goal

abbrev pub invariant-loop-moment : goal.invariant-loop-moment
invariant-loop-moment l = record {
  filled : filled_from l.moment (drop l.moment l.fn.holds) l.disk.done ≡ filled_from 0 l.fn.holds [];
  keys : are_store_keys (drop l.moment l.fn.holds) ≡ true;
  root : l.disk.root ≡ l.fn.root;
  outside : l.disk.outside ≡ [];
  calls : l.disk.calls ≡ l.fn.calls;
}
