use Rattle.std.proofs.Common.{◌∙◌}
use Rattle.sc_entry.proofs.Placing.{places_on}
use Rattle.sc_entry.proofs.Telling.{told_then}
use Rattle.sc_entry.proofs.cache_read.CacheRead.extract_objects.Goals as goal

pub loop-source-preserved : goal.loop-source-preserved
loop-source-preserved g c = record {
  placed =
      told_then _ _ _ (places_on c.args.self.now c.args.sources.now c.loop-source.source-index c.source-item.result c.loop-source-test.true c.source-item.is)
      _ _ _ c.loop-source.invariant.placed c.in_ok-place_one.ensures.told;
  faults = c.in_ok-place_one.ensures.cause ∙ c.loop-source.invariant.faults;
}
