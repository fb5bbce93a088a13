use Rattle.std.proofs.Common.{◌≡◌, ◌++◌, true}
use Rattle.std.specs.Vec.Iter.{into_iter_items}
use Rattle.sc_main_memory.specs.Making.{told_lines, told_runs}
use Rattle.sc_main_script.specs.Goods.{are_good_runs}
use Rattle.sc_main_memory.proofs.making.lines_of.Given as goal

abbrev pub invariant-loop-rule : goal.invariant-loop-rule
invariant-loop-rule l = record {
  same : told_lines l.lines.items ++ told_runs (into_iter_items l.rule-iterator) ≡ told_runs l.fn.runs;
  good : are_good_runs (into_iter_items l.rule-iterator) ≡ true;
}
