use Rattle.std.proofs.Common.{◌≡◌, ◌++◌, true}
use Rattle.std.specs.Vec.Iter.{into_iter_items}
use Rattle.sc_main_memory.specs.Making.{told_answers, told_jobs}
use Rattle.sc_main_script.specs.Goods.{are_good_jobs}
use Rattle.sc_main_memory.proofs.making.jobs_of.Given as goal

abbrev pub invariant-loop-rule : goal.invariant-loop-rule
invariant-loop-rule l = record {
  same : told_jobs l.lines.items ++ told_answers (into_iter_items l.rule-iterator) ≡ told_answers l.fn.jobs;
  good : are_good_jobs (into_iter_items l.rule-iterator) ≡ true;
}
