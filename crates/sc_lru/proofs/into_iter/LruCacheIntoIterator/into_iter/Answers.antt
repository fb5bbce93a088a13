use Rattle.std.proofs.Common.{◌∙◌}
use Rattle.std_collections.proofs.IterRuns.{gives_in_order, gives_in_reverse}
use Rattle.sc_lru.proofs.into_iter.LruCacheIntoIterator.into_iter.Goals as goal

pub returns : goal.returns
returns g c = record { into_iter_gives = (c.new.ensures ∙ c.into_order.ensures, gives_in_order, gives_in_reverse) }
