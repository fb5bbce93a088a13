use Rattle.std.proofs.Common.{◌≡◌, suc, ◌∙◌, sym, ap, arith}
use Rattle.sc_disk.proofs.Evictions.{Evicts-more, Needed-more}
use Rattle.sc_disk.proofs.lru_disk_cache.LruDiskCache.evict_to.Goals as goal

pub loop-self-preserved : goal.loop-self-preserved
loop-self-preserved g c =
    let i = c.loop-self.invariant in let e = c.in_ok-evict_one.ensures.ok in (
      suc i.0,
      Evicts-more i.0 c.args.self.now c.loop-self.self c.evict_one.new.self i.1 e,
      Needed-more c.args.limit i.0 c.args.self.now.index c.loop-self.self.index i.1.index (omega (arith, c.indexed.ensures.size, c.loop-self-test.true)) i.2,
    )
