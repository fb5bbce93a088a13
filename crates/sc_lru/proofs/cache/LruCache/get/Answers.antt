use Rattle.std.proofs.Common.{◌∙◌, sym, ap}
use Rattle.sc_lru.specs.LruCache.{total}
use Rattle.sc_lru.proofs.Measures.{total-touched}
use Rattle.sc_lru.proofs.cache.LruCache.get.Goals as goal

pub invariant_of-self : goal.invariant_of-self
invariant_of-self g c = let m = g.M.Meter.measure c.self.inside.meter in
    (c.self.invariant.0 ∙ sym (ap (λ o. total m o.entries) c.get.follows.holds-at-none ∙ total-touched m (g.K.PartialEq.eq c.args.key.now) c.self.inside.order.entries), c.self.invariant.1)
