use Rattle.std.proofs.Common.{rules, ◌<◌, add-one}
use Rattle.sc_store.specs.Levels.{held_level}
use Rattle.sc_store_alone.specs.Sizes.{size_sum}
use Rattle.sc_store_any.proofs.Sums.{next_sum, size_at}
use Rattle.sc_store_any.proofs.sizes.current_size.Goals as goal

pub loop-level-preserved : goal.loop-level-preserved
loop-level-preserved g c =
    let loop = c.loop-level in
    let levels = c.args.levels.now in
    let less : loop.level < c.len-count.result = search rules in
    let got = c.get.ensures in
    record {
      count = loop.invariant.count;
      summed = λ told. next_sum levels c.len-count.result loop.level _ loop.sum c.level_size.result c.saturating_add-sum.result (size_sum levels) less (add-one loop.level) c.saturating_add-sum.ensures
          (size_at levels loop.level c.level_size.result (held_level c.get.result.now) got.facts got.level got.room (c.level_size.ensures (got.told told))) (loop.invariant.summed told);
    }
