use Rattle.std.proofs.Common.{◌∙◌, sym, ap, arith}
use Rattle.sc_lru.specs.LruCache.{total}
use Rattle.sc_lru.proofs.Measures.{suffix_within-fits}
use Rattle.sc_lru.proofs.cache.LruCache.evict_to.Goals as goal

pub returns-clause-entries : goal.returns-clause-entries
returns-clause-entries g c = let i = c.loop-self.invariant in let same = i.parts.meter in
    let sum = ap (λ m. total (g.M.Meter.measure m) (c.loop-self.self.entries)) same in
    sym (suffix_within-fits (g.M.Meter.measure c.args.self.now.meter) c.args.limit (c.loop-self.self.entries) (omega (arith, sum, c.size.ensures.size, c.loop-self-test.false))) ∙ i.suffix
